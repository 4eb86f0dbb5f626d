-- Every order of visiting is a permutation of the nodes.
use mathlib.Core.Path.{refl, ◌∙◌}
use mathlib.Core.List.Permᴰ
use mathlib.Core.List.{List, [], ◌∷◌, Permᴰ, Perm}
use mathlib.Core.Logic.{inl, inr}
use Prim.Native.Nat.{ℕ, zero, suc, ◌-◌, ◌<◌}
use native.Mathlib.Nat.{mod-lt, zero-lt-suc}
use native.Mathlib.Omega.{arith}
use lib.ListN.{length, get_or, set}
use Rattle.rng.specs.Rng.{next_u64, gen_range, swap, shuffle_from, shuffle, order}
use Rattle.rng.proofs.Visits.{length_swap}
use Rattle.lists.specs.Lists.{upto, Has}
use Rattle.lists.proofs.Upto.{upto_has}

-- the head and an item below it change places
head_swap : (x : ℕ) (xs : List ℕ) (j : ℕ) → j < length xs → Permᴰ (x ∷ xs) (get_or xs j 0 ∷ set xs j x)
head_swap x [] j h = absurd (omega arith)
head_swap x (y ∷ ys) zero h = Permᴰ.swap refl refl
head_swap x (y ∷ ys) (suc j) h = Permᴰ.trans (Permᴰ.swap refl refl) (Permᴰ.trans (Permᴰ.cons refl (head_swap x ys j (omega arith))) (Permᴰ.swap refl refl))

swap_permutes : (l : List ℕ) (i j : ℕ) → i < length l → j < length l → Permᴰ l (swap l i j)
unfolding swap
swap_permutes [] i j h k = absurd (omega arith)
swap_permutes (x ∷ xs) zero zero h k = Permᴰ.refl (x ∷ xs)
swap_permutes (x ∷ xs) zero (suc j) h k = head_swap x xs j (omega arith)
swap_permutes (x ∷ xs) (suc i) zero h k = head_swap x xs i (omega arith)
swap_permutes (x ∷ xs) (suc i) (suc j) h k = Permᴰ.cons refl (swap_permutes xs i j (omega arith) (omega arith))

from_permutes : (i r : ℕ) (l : List ℕ) → i < length l → Permᴰ l (shuffle_from i r l).list
unfolding shuffle_from
from_permutes zero r l h = Permᴰ.refl l
from_permutes (suc i) r l h =
    let x = next_u64 r in
    let j = gen_range x (suc (suc i)) in
    let m = mod-lt x (zero-lt-suc (suc i)) in
    Permᴰ.trans (swap_permutes l (suc i) j h (omega arith)) (from_permutes i x (swap l (suc i) j) (rw (length_swap l (suc i) j) (omega arith)))

shuffle_permutes : (r : ℕ) (l : List ℕ) → Permᴰ l (shuffle r l).list
unfolding shuffle shuffle_from
shuffle_permutes r [] = Permᴰ.nil
shuffle_permutes r (x ∷ xs) = from_permutes (length (x ∷ xs) - 1) r (x ∷ xs) (omega arith)

-- An order of visiting n nodes is a permutation of 0, .., n - 1.
pub order_permutes : (r n : ℕ) → Perm (upto n) (order r n).list
order_permutes r n = ∣ shuffle_permutes r (upto n) ∣₁

has_permuted : {l m : List ℕ} (x : ℕ) → Permᴰ l m → Has l x → Has m x
has_permuted x Permᴰ.nil h = h
has_permuted x (Permᴰ.cons e d) (inl p) = inl (p ∙ e)
has_permuted x (Permᴰ.cons e d) (inr h) = inr (has_permuted x d h)
has_permuted x (Permᴰ.swap e f) (inl p) = inr (inl (p ∙ e))
has_permuted x (Permᴰ.swap e f) (inr (inl p)) = inl (p ∙ f)
has_permuted x (Permᴰ.swap e f) (inr (inr h)) = inr (inr h)
has_permuted x (Permᴰ.trans d e) h = has_permuted x e (has_permuted x d h)

-- every node is visited
pub order_has : (r n u : ℕ) → u < n → Has (order r n).list u
order_has r n u h = has_permuted u (shuffle_permutes r (upto n)) (upto_has n u h)
