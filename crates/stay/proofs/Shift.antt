-- Making room for an element: the shift of `shift_in`, and the insertion that it makes.
use mathlib.Core.Path.{◌≡◌, refl, sym, ap, ◌∙◌}
use mathlib.Core.List.{List, [], ◌∷◌, ◌++◌, append-nil}
use Prim.Native.Nat.{ℕ, zero, suc, ◌+◌, ◌-◌, ◌≤◌, ◌<◌}
use native.Mathlib.Omega.{arith}
use native.Mathlib.Numerals.{add-one}
use lib.ListN.{length, take, drop, set, drop_of_length-le}
use lib.Seq.{length-take-le, take-take}
use lib.Ieee.{Float}
use Rattle.std.specs.List.{copy_within}
use Rattle.stay.specs.Ordered.{insertion_point, insert_ordered}
use Rattle.stay.specs.StepsRegions.{shifted}
use Rattle.stay.proofs.Ordered.{position_le}

-- the last falls off
falls_off : (p n : ℕ) (e : Float) (s : List Float) → p ≤ n → take (suc n) (take p s ++ (e ∷ drop p s)) ≡ take p (take n s) ++ (e ∷ drop p (take n s))
falls_off zero n e s h = refl
falls_off (suc p) zero e s h = absurd (omega arith)
falls_off (suc p) (suc n) e [] h = refl
falls_off (suc p) (suc n) e (x ∷ s) h = ap (λ (l : List Float). x ∷ l) (falls_off p n e s (omega arith))

-- the copy of what stands from p on, one place up, and e at p
moved : (p : ℕ) (e : Float) (s t : List Float) → p < length s → set (take (suc p) s ++ t) p e ≡ take p s ++ (e ∷ t)
moved p e [] t h = absurd (omega arith)
moved zero e (x ∷ s) t h = refl
moved (suc p) e (x ∷ s) t h = ap (λ (l : List Float). x ∷ l) (moved p e s t (omega arith))

kept : (p : ℕ) (e : Float) (s : List Float) → p < length s → take (length s) (take p s ++ (e ∷ drop p s)) ≡ take p s ++ (e ∷ take (length s - 1 - p) (drop p s))
kept p e [] h = absurd (omega arith)
kept zero e (x ∷ s) h = let q : suc (length s) - 1 - 0 ≡ length s = omega arith in rw q refl
kept (suc p) e (x ∷ s) h =
    let q : suc (length s) - 1 - suc p ≡ length s - 1 - p = omega arith in
    rw q (ap (λ (l : List Float). x ∷ l) (kept p e s (omega arith)))

pub shift_is : (p : ℕ) (e : Float) (s : List Float) → p < length s → set (copy_within s p (length s - 1) (p + 1)) p e ≡ shifted p e s
unfolding shifted
shift_is p e s h =
    let n = length s - 1 - p in
    let q : length s ≤ p + 1 + n = omega arith in
    rw (drop_of_length-le s {i = p + 1 + n} q, append-nil, add-one p) (moved p e s (take n (drop p s)) h) ∙ sym (kept p e s h)

-- the place is within the elements that were looked at
pub position_in : (s : List Float) (n : ℕ) (e : Float) → n < length s → insertion_point e (take n s) ≤ n
position_in s n e h = omega (arith, position_le e (take n s), length-take-le n s (omega arith))

-- the shift at that place is the insertion
pub inserted : (s : List Float) (n : ℕ) (e : Float) → n < length s → shifted (insertion_point e (take n s)) e (take (n + 1) s) ≡ insert_ordered e (take n s)
unfolding shifted insert_ordered
inserted s n e h =
    rw (length-take-le (n + 1) s (omega arith), add-one n, falls_off (insertion_point e (take n s)) n e (take (suc n) s) (position_in s n e h), take-take n (suc n) s (omega arith))

-- The place of an element among the first len is one of the first len + 1.
pub place_in : (l : List Float) (len p : ℕ) (e : Float) → len < length l → p ≡ insertion_point e (take len l) → p < length (take (len + 1) l)
place_in l len p e h i = rw (length-take-le (len + 1) l (omega arith)) (omega (arith, i, position_in l len e h))
