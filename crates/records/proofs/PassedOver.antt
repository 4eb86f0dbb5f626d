-- The empty traces in front of a list are passed over: what the checks of crate `checks` say of all is what they say from the first trace with a fix on.
use mathlib.Core.Path.{◌≡◌, refl, sym, ap, ◌∙◌, subst}
use mathlib.Core.Bool.{Bool, true, false}
use mathlib.Core.List.{List, [], ◌∷◌}
use Prim.Native.Nat.{ℕ, suc, ◌+◌, ◌<◌}
use native.Mathlib.Nat.{pos_of_ne-zero}
use native.Mathlib.Omega.{arith}
use borrow.Author.Tests.{eqb-true, eqb-false}
use lib.Dec.{eqb}
use lib.ListN.{length, drop, get_or, length-drop}
use lib.Seq.{drop-drop, get_or-drop}
use Rattle.std.specs.Prelude.{Ok}
use Rattle.std.proofs.lemmas.List.Sums.{prefix_len-le-length, prefix_len_stops}
use Rattle.trace.specs.Trace.{Fix, total, traces}
use Rattle.trace.proofs.EmptyFront.{front, front_empty, front_none, front_total}
use Rattle.settings.specs.Checks.{Checked, each_from}
use Rattle.checks.proofs.Usable.{over_empty}
use Rattle.records.specs.StepsJudge.{first_with_fix}

-- The empty traces in front of a list are at most all.
pub ruleset at_most = (prefix_len-le-length)

-- A check that accepts an empty trace.
module _ (f : ℕ → List Fix → Checked) (pass : (k : ℕ) → f k [] ≡ Ok tt) (gs : List Fix) where
  front_passed : (ns : List ℕ) (k : ℕ) → each_from f k (traces ns gs) ≡ each_from f (k + front ns) (traces (drop (front ns) ns) gs)
  front_passed [] k = unfold traces each_from in refl
  front_passed (n ∷ ns) k = go (eqb n 0) refl (front_passed ns (suc k))
    where
      go : (b : Bool) → eqb n 0 ≡ b → each_from f (suc k) (traces ns gs) ≡ each_from f (suc k + front ns) (traces (drop (front ns) ns) gs)
          → each_from f k (traces (n ∷ ns) gs) ≡ each_from f (k + front (n ∷ ns)) (traces (drop (front (n ∷ ns)) (n ∷ ns)) gs)
      go false e r = let z : k + 0 ≡ k = omega arith in rw (front_none n ns (eqb-false n 0 e), z)
      go true e r =
          let z : n ≡ 0 = eqb-true n 0 e in
          let m : k + suc (front ns) ≡ suc k + front ns = omega arith in
          rw (front_empty n ns z, m) (over_empty f pass n ns k gs z ∙ r)

  pub passed_over : (lens : List ℕ) (k : ℕ)
      → each_from f k (traces (drop k lens) gs) ≡ each_from f (first_with_fix lens k) (traces (drop (first_with_fix lens k) lens) gs)
  unfolding first_with_fix
  passed_over lens k =
      front_passed (drop k lens) k
      ∙ ap (λ (ns : List ℕ). each_from f (k + front (drop k lens)) (traces ns gs)) (drop-drop (front (drop k lens)) k lens)

-- ---- the first trace from k on that has a fix

pub total_from_lem : (lens : List ℕ) (k : ℕ) → total (drop (first_with_fix lens k) lens) ≡ total (drop k lens)
unfolding first_with_fix
total_from_lem lens k = ap total (sym (drop-drop (front (drop k lens)) k lens)) ∙ front_total (drop k lens)

pub has_fix : (lens : List ℕ) (k : ℕ) → first_with_fix lens k < length lens → 0 < get_or lens (first_with_fix lens k) 0
unfolding first_with_fix
has_fix lens k h =
    let l = length-drop k lens in
    let walks = eqb-false _ 0 (prefix_len_stops (λ (n : ℕ). eqb n 0) (drop k lens) 0 (omega arith)) in
    subst (λ (n : ℕ). 0 < n) (get_or-drop k lens (front (drop k lens)) 0) (pos_of_ne-zero walks)
