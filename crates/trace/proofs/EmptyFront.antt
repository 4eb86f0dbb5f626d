-- The empty traces in front of a list of lengths: how many they are, and the sum of the lengths behind them.
use mathlib.Core.Path.{◌≡◌, refl, ◌∙◌}
use mathlib.Core.Bool.{Bool, true, false}
use mathlib.Core.List.{List, [], ◌∷◌}
use Prim.Native.Nat.{ℕ, suc, ◌+◌}
use native.Mathlib.Omega.{arith}
use borrow.Author.Tests.{eqb-true, eqb-false, eq-eqb, ne_eqb}
use lib.Dec.{eqb}
use lib.ListN.{drop}
use Rattle.std.specs.List.{prefix_len}
use Rattle.trace.specs.Trace.{total}

-- How many empty traces stand in front.
abbrev pub front : List ℕ → ℕ
front ns = prefix_len (λ (n : ℕ). eqb n 0) ns

pub front_empty : (n : ℕ) (ns : List ℕ) → n ≡ 0 → front (n ∷ ns) ≡ suc (front ns)
front_empty n ns e = rw (eq-eqb n 0 e) (omega arith)

pub front_none : (n : ℕ) (ns : List ℕ) → (n ≡ 0 → ⊥) → front (n ∷ ns) ≡ 0
front_none n ns e = rw (ne_eqb n 0 e)

pub front_total : (ns : List ℕ) → total (drop (front ns) ns) ≡ total ns
unfolding total
front_total [] = refl
front_total (n ∷ ns) = go (eqb n 0) refl (front_total ns)
  where
    go : (b : Bool) → eqb n 0 ≡ b → total (drop (front ns) ns) ≡ total ns → total (drop (front (n ∷ ns)) (n ∷ ns)) ≡ n + total ns
    go true e r =
        let z : n ≡ 0 = eqb-true n 0 e in
        let a : total ns ≡ n + total ns = omega arith in
        rw (front_empty n ns z) (r ∙ a)
    go false e r = rw (front_none n ns (eqb-false n 0 e))
