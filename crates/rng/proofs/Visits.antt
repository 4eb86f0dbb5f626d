-- The order of visiting: how the loops go on, and that every item is a node.
use mathlib.Core.Path.{◌≡◌, refl, sym, ◌∙◌}
use mathlib.Core.List.{List}
use Prim.Native.Nat.{ℕ, zero, suc, ◌+◌, ◌-◌, ◌<◌, ◌≤◌}
use native.Mathlib.Nat.{mod-lt, zero-lt-suc}
use native.Mathlib.Decide.{ℕ_discrete}
use native.Mathlib.Numerals.{add-one}
use native.Mathlib.Omega.{arith}
use lib.ListN.{length, get_or, set, length-set}
use Rattle.std.specs.List.{swap as std_swap}
use Rattle.std.proofs.lemmas.List.Edits.{swap_is}
use lib.Seq.{get_or-set_same, get_or-set_other}
use Rattle.rng.specs.Rng.{Shuffled, next_u64, gen_range, swap, shuffle_from, shuffle}
use Rattle.rng.specs.Steps.{Below}
use Rattle.lists.specs.Lists.{from, upto}
use Rattle.lists.proofs.Upto.{length_upto, get_or_upto}

-- One swap more, by the library's swap.
pub shuffle_on : (i x : ℕ) (s : List ℕ) {w : Shuffled} {x' j : ℕ} {s' : List ℕ} → w ≡ shuffle_from i x s → 0 < i → i < length s → x' ≡ next_u64 x → j ≡ gen_range x' (i + 1)
    → s' ≡ std_swap s i j → w ≡ shuffle_from (i - 1) x' s'
unfolding shuffle_from swap
shuffle_on zero x s f h k p q e = absurd (omega arith)
shuffle_on (suc i) x s {x' = x'} {j = j} f h k p q e =
    let m : suc i - 1 ≡ i = omega arith in
    let r = mod-lt x' (zero-lt-suc (suc i)) in
    let t : j < length s = omega (arith, rw add-one at q) in
    f ∙ sym (rw (e, ← swap_is s (suc i) j 0 k t, q, p, m, add-one (suc i)))

pub shuffle_end : (i x : ℕ) (s : List ℕ) {w : Shuffled} → w ≡ shuffle_from i x s → i ≤ 0 → w ≡ record { list = s; rng = x }
unfolding shuffle_from
shuffle_end zero x s f h = f
shuffle_end (suc i) x s f h = absurd (omega arith)

pub length_swap : (l : List ℕ) (i j : ℕ) → length (swap l i j) ≡ length l
unfolding swap
length_swap l i j = length-set (set l i (get_or l j 0)) j (get_or l i 0) ∙ length-set l i (get_or l j 0)

-- ---- every item is below a bound
set_below : (b : ℕ) (l : List ℕ) (i x : ℕ) → Below b l → x < b → Below b (set l i x)
unfolding Below
set_below b l i x f h k p = go (ℕ_discrete k i) where
  go : Dec (k ≡ i) → get_or (set l i x) k 0 < b
  go (yes e) = rw (e, get_or-set_same l i x 0 (rw (length-set l i x, e) at p)) h
  go (no e) = rw (get_or-set_other l i k x 0 e) (f k (rw (length-set l i x) at p))

pub below_at : (b : ℕ) (l : List ℕ) → Below b l → (k : ℕ) → k < length l → get_or l k 0 < b
unfolding Below
below_at b l f = f

swap_below : (b : ℕ) (l : List ℕ) (i j : ℕ) → i < length l → j < length l → Below b l → Below b (swap l i j)
unfolding swap
swap_below b l i j p q f = set_below b (set l i (get_or l j 0)) j (get_or l i 0) (set_below b l i (get_or l j 0) f (below_at b l f j q)) (below_at b l f i p)

from_below : (b i r : ℕ) (l : List ℕ) → i < length l → Below b l → Below b (shuffle_from i r l).list
unfolding shuffle_from
from_below b zero r l h f = f
from_below b (suc i) r l h f =
    let m = mod-lt (next_u64 r) (zero-lt-suc (suc i)) in
    from_below b i (next_u64 r) (swap l (suc i) (gen_range (next_u64 r) (suc (suc i)))) (rw (length_swap l (suc i) (gen_range (next_u64 r) (suc (suc i)))) (omega arith))
    (swap_below b l (suc i) (gen_range (next_u64 r) (suc (suc i))) h (omega arith) f)

from_length : (i r : ℕ) (l : List ℕ) → length (shuffle_from i r l).list ≡ length l
unfolding shuffle_from
from_length zero r l = refl
from_length (suc i) r l = from_length i (next_u64 r) (swap l (suc i) (gen_range (next_u64 r) (suc (suc i)))) ∙ length_swap l (suc i) (gen_range (next_u64 r) (suc (suc i)))

upto_below : (n : ℕ) → Below n (upto n)
unfolding Below
upto_below n k h = let i : k < n = omega (arith, length_upto n) in rw (get_or_upto n k i) i

-- the nodes in the order of a shuffle
pub order_below : (r n : ℕ) → Below n (shuffle r (upto n)).list
unfolding shuffle shuffle_from upto from Below
order_below r zero = λ k h. absurd (omega arith)
order_below r (suc n) = from_below (suc n) (length (upto (suc n)) - 1) r (upto (suc n)) (omega (arith, length_upto (suc n))) (upto_below (suc n))

pub order_length : (r n : ℕ) → length (shuffle r (upto n)).list ≡ n
unfolding shuffle
order_length r n = from_length (length (upto n) - 1) r (upto n) ∙ length_upto n

pub drawn_below : (r n : ℕ) (l : List ℕ) (x : ℕ) → shuffle r (upto n) ≡ record { list = l; rng = x } → Below n l
drawn_below r n l x e = rw e at (order_below r n)
