-- Where medians of stays stand in a work slice, and that they are read there when its front has been lent or another part has come back.
use mathlib.Core.Path.{◌≡◌, sym, ap, ap₂, ◌∙◌}
use mathlib.Core.List.{List, ◌++◌}
use Prim.Native.Nat.{ℕ, ◌+◌, ◌*◌, ◌≤◌}
use native.Mathlib.Nat.{add-sub_cancel_left}
use native.Mathlib.Omega.{arith}
use lib.ListN.{length, take, drop, length-append}
use lib.Seq.{take_at}
use lib.Ieee.{Float}
use Rattle.lists.proofs.Parts.{lent, back, back_before, take_drop_take}
use Rattle.distance.specs.Distance.{points}
use Rattle.stay.specs.StepsAll.{medians_in}

-- By where their parts start and end.
medians_are : (n k : ℕ) (work : List Float) → points (lent (2 * n) (2 * n + k) work) (lent (3 * n) (3 * n + k) work) ≡ medians_in n k work
medians_are n k work =
    ap₂ points (ap (λ (z : ℕ). take z (drop (2 * n) work)) (add-sub_cancel_left (2 * n) k)) (ap (λ (z : ℕ). take z (drop (3 * n) work)) (add-sub_cancel_left (3 * n) k))

-- A part that comes back behind them changes none.
pub medians_kept : (n k e : ℕ) (t work : List Float) → k ≤ n → 4 * n ≤ length work → medians_in n k (back (4 * n) e t work) ≡ medians_in n k work
medians_kept n k e t work h q =
    sym (medians_are n k (back (4 * n) e t work))
    ∙ ap₂ points
    (back_before (2 * n) (2 * n + k) (4 * n) e t work (omega arith) (omega arith) q)
    (back_before (3 * n) (3 * n + k) (4 * n) e t work (omega arith) (omega arith) q)
    ∙ medians_are n k work

-- They are those of the first 4n numbers.
pub medians_front : (n k : ℕ) (work : List Float) → k ≤ n → 4 * n ≤ length work → medians_in n k (take (4 * n) work) ≡ medians_in n k work
medians_front n k work h q = ap₂ points (take_drop_take (2 * n) k (4 * n) work (omega arith) q) (take_drop_take (3 * n) k (4 * n) work (omega arith) q)

pub medians_before : (n k : ℕ) (v z : List Float) → k ≤ n → length v ≡ 4 * n → medians_in n k (v ++ z) ≡ medians_in n k v
medians_before n k v z h l = sym (medians_front n k (v ++ z) h (simp length-append (omega (arith, l)))) ∙ ap (medians_in n k) (take_at v z (4 * n) l)
