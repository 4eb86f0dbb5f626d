-- The numbers from 0 up.
use mathlib.Core.Path.{◌≡◌, refl, sym, ap, ◌∙◌, subst}
use mathlib.Core.Logic.{inl, inr}
use Prim.Native.Nat.{ℕ, zero, suc, ◌+◌, ◌<◌, ◌≤◌}
use native.Mathlib.Nat.{add-zero}
use native.Mathlib.Omega.{arith}
use mathlib.Core.List.{List}
use lib.ListN.{length, get_or}
use lib.Seq.{ext_get_or}
use Rattle.lists.specs.Lists.{from, upto, Has}

length_from : (i n : ℕ) → length (from i n) ≡ n
unfolding from
length_from i zero = refl
length_from i (suc n) = ap suc (length_from (suc i) n)

get_or_from : (i n u : ℕ) → u < n → get_or (from i n) u 0 ≡ i + u
unfolding from
get_or_from i zero u h = absurd (omega arith)
get_or_from i (suc n) zero h = sym (add-zero i)
get_or_from i (suc n) (suc u) h = get_or_from (suc i) n u (omega arith) ∙ (omega arith)

pub length_upto : (n : ℕ) → length (upto n) ≡ n
unfolding upto
length_upto n = length_from 0 n

pub get_or_upto : (n u : ℕ) → u < n → get_or (upto n) u 0 ≡ u
unfolding upto
get_or_upto n u h = get_or_from 0 n u h ∙ (omega arith)

-- A list whose items are their own places.
pub is_upto : (l : List ℕ) (n : ℕ) → length l ≡ n → ((k : ℕ) → k < n → get_or l k 0 ≡ k) → l ≡ upto n
is_upto l n e f = ext_get_or 0 l (upto n) (e ∙ sym (length_upto n)) (λ k h. let i : k < n = omega arith in f k i ∙ sym (get_or_upto n k i))

pub from_above : (i n x : ℕ) → Has (from i n) x → i ≤ x
unfolding from
from_above i zero x m = absurd m
from_above i (suc n) x (inl p) = omega arith
from_above i (suc n) x (inr m) = let r = from_above (suc i) n x m in omega arith

from_below : (i n x : ℕ) → Has (from i n) x → x < i + n
unfolding from
from_below i zero x m = absurd m
from_below i (suc n) x (inl p) = omega arith
from_below i (suc n) x (inr m) = let r = from_below (suc i) n x m in omega arith

from_has : (i n k : ℕ) → k < n → Has (from i n) (i + k)
unfolding from
from_has i zero k h = absurd (omega arith)
from_has i (suc n) zero h = inl (add-zero i)
from_has i (suc n) (suc k) h = inr (subst (λ (z : ℕ). Has (from (suc i) n) z) (omega arith) (from_has (suc i) n k (omega arith)))

pub upto_has : (n k : ℕ) → k < n → Has (upto n) k
unfolding upto
upto_has n k h = subst (λ (z : ℕ). Has (from 0 n) z) (omega arith) (from_has 0 n k h)

pub has_upto : (n k : ℕ) → Has (upto n) k → k < n
unfolding upto
has_upto n k m = let r = from_below 0 n k m in omega arith
