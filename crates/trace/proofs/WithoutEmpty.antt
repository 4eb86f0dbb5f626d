-- A list of traces with the empty ones taken out: its sum, its length, and the numbers of its traces.
use mathlib.Core.Path.{◌≡◌, refl, ap, ◌∙◌}
use mathlib.Core.Bool.{Bool, true, false, not}
use mathlib.Core.List.{List, [], ◌∷◌, ◌++◌}
use Prim.Native.Nat.{ℕ, suc, ◌+◌, ◌<◌, ◌≤◌}
use native.Mathlib.Omega.{arith}
use borrow.Author.Tests.{eqb-true, eqb-false, eq-eqb, ne_eqb}
use lib.Dec.{eqb}
use lib.ListN.{length, take, get_or, length-append}
use lib.Seq.{take-suc}
use Rattle.lists.proofs.Members.{select_length}
use Rattle.trace.specs.Trace.{total}
use Rattle.trace.specs.WithoutEmpty.{without_empty, counted_anew}

-- ---- one trace more in front

pub out_empty : (n : ℕ) (ns : List ℕ) → n ≡ 0 → without_empty (n ∷ ns) ≡ without_empty ns
unfolding without_empty
out_empty n ns e = rw (eq-eqb n 0 e)

pub out_other : (n : ℕ) (ns : List ℕ) → (n ≡ 0 → ⊥) → without_empty (n ∷ ns) ≡ n ∷ without_empty ns
unfolding without_empty
out_other n ns e = rw (ne_eqb n 0 e)

-- ---- sum and length

pub out_total : (ns : List ℕ) → total (without_empty ns) ≡ total ns
unfolding total
out_total [] = unfold without_empty in refl
out_total (n ∷ ns) = go (eqb n 0) refl (out_total ns)
  where
    go : (b : Bool) → eqb n 0 ≡ b → total (without_empty ns) ≡ total ns → total (without_empty (n ∷ ns)) ≡ n + total ns
    go true e r =
        let z : n ≡ 0 = eqb-true n 0 e in
        let a : total ns ≡ n + total ns = omega arith in
        ap total (out_empty n ns z) ∙ r ∙ a
    go false e r = ap total (out_other n ns (eqb-false n 0 e)) ∙ ap (λ (m : ℕ). n + m) r

pub out_length : (ns : List ℕ) → length (without_empty ns) ≤ length ns
unfolding without_empty
out_length ns = select_length (λ (n : ℕ). not (eqb n 0)) ns

pub out_all : (ns : List ℕ) → total ns ≡ 0 → without_empty ns ≡ []
unfolding total
out_all [] e = unfold without_empty in refl
out_all (n ∷ ns) e =
    let z : n ≡ 0 = omega arith in
    out_empty n ns z ∙ out_all ns (omega arith)

-- ---- numbers

pub counted_first : (lens : List ℕ) → counted_anew lens 0 ≡ 0
unfolding counted_anew without_empty
counted_first lens = refl

out_append : (ms ns : List ℕ) → without_empty (ms ++ ns) ≡ without_empty ms ++ without_empty ns
out_append [] ns = unfold without_empty in refl
out_append (m ∷ ms) ns = go (eqb m 0) refl (out_append ms ns)
  where
    go : (b : Bool) → eqb m 0 ≡ b → without_empty (ms ++ ns) ≡ without_empty ms ++ without_empty ns
        → without_empty (m ∷ (ms ++ ns)) ≡ without_empty (m ∷ ms) ++ without_empty ns
    go true e i = let z = eqb-true m 0 e in rw (out_empty m (ms ++ ns) z, out_empty m ms z) i
    go false e i = let z = eqb-false m 0 e in rw (out_other m (ms ++ ns) z, out_other m ms z) (ap (λ (r : List ℕ). m ∷ r) i)

module _ (lens : List ℕ) (k : ℕ) (h : k < length lens) where
  after : counted_anew lens (suc k) ≡ counted_anew lens k + length (without_empty (get_or lens k 0 ∷ []))
  unfolding counted_anew
  after =
      ap (λ (l : List ℕ). length (without_empty l)) (take-suc lens k 0 h) ∙ ap length (out_append (take k lens) (get_or lens k 0 ∷ []))
      ∙ length-append (without_empty (take k lens)) (without_empty (get_or lens k 0 ∷ []))

  pub counted_empty : get_or lens k 0 ≡ 0 → counted_anew lens (suc k) ≡ counted_anew lens k
  counted_empty e =
      let z : length (without_empty (get_or lens k 0 ∷ [])) ≡ 0 = ap length (out_empty (get_or lens k 0) [] e) ∙ (unfold without_empty in refl) in
      omega (arith, after, z)

  pub counted_other : (get_or lens k 0 ≡ 0 → ⊥) → counted_anew lens (suc k) ≡ suc (counted_anew lens k)
  counted_other e =
      let z : length (without_empty (get_or lens k 0 ∷ [])) ≡ 1 = ap length (out_other (get_or lens k 0) [] e) ∙ (unfold without_empty in refl) in
      omega (arith, after, z)
