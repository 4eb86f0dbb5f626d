-- A coordinate c within the limit that is rounded to a grid of step res is within the grid's limit. Say that the quotient c / res becomes N steps. If |c| / res were at most
-- N - 1, so would be the quotient, since the format holds N - 1 and rounding keeps the order; but then its nearest whole number is not N. So N - 1 steps are less than
-- |c|, and N steps less than |c| and one step more. Rounding the product keeps that order too.
use mathlib.Core.Path.{◌≡◌, refl, sym, ap, ap₂, subst}
use Prim.Native.Nat.{ℕ, zero, suc, ◌*◌, ◌≤◌, ◌<◌}
use native.Mathlib.Nat.{mul-pos, mul-le-mul, mul-le-mul_right, le_of_mul-le-mul_right, le_trans, le-suc}
use native.Mathlib.Decide.{dec_le}
use native.Mathlib.Omega.{arith}
use mathlib.Core.Bool.{Bool, true, false, ◌&&◌, cond, false≢true, true≢false}
use borrow.Author.Tests.{ltb-true, ltb-false, eqb-true}
use lib.IntN.{ℤ}
use lib.Dec.{T, eqb, leb→le, lit≤}
use lib.Ieee.{Float, nan, inf, fin, binary64, up, down, unlike, round, mul, div, lt, of_int, of_bits}
use lib.Ieee.Bits.{is_true}
use lib.Ieee.Fits.{down_pos, and_l, and_r}
use Rattle.float.specs.Binary64.{zero64, whole64, mul64, div64}
use Rattle.float.specs.Round.{nearest_whole, round_ties_away}
use Rattle.float.proofs.NearestWhole.{nearest_at_most}
use Rattle.float.proofs.RoundLaws.{rounded_value}
use Rattle.float.proofs.Exact.{Is, most, is_round}
use Rattle.float.proofs.Order.{true→T}
-- Named so that the examples are checked before these lemmas.
use Rattle.distance.specs.Examples
use Rattle.distance.specs.declared.Point.{Point}
use Rattle.distance.specs.Limit.{limit, within, in_limit}
use Rattle.distance.specs.Grid.{on_grid, point_on_grid}
use Rattle.distance.proofs.Size.{round_within, within_mono}
use Rattle.distance.proofs.Bound.{grid_limit, in_grid_limit}

-- the finest step, 2^-10, and the coarsest, 10^6
abbrev pub finest : Float
finest = of_bits binary64 0x3F50_0000_0000_0000

abbrev pub coarsest : Float
coarsest = whole64 1000000

-- What is asked of a grid's step. Where it is not above zero, the grid is off.
pub record Step (res : Float) : Type 0 where
  pub fine : lt zero64 res ≡ true → lt res finest ≡ false
  pub coarse : lt coarsest res ≡ false

-- ---- the nearest whole number

-- x rounded is a whole number, and no larger than any whole number that x is within
record Rounded (x : Float) : Type 0 where
  pub sign : Bool
  pub count : ℕ
  pub value : Is (round_ties_away x) sign count
  pub least : (k : ℕ) → T (within k x) → count ≤ k

rounded : (x : Float) (k : ℕ) → k ≤ most → T (within k x) → Rounded x
unfolding within
rounded nan k l w = absurd w
rounded (inf s) k l w = absurd w
rounded (fin s m e) k l w = record { sign = s; count = n; value = subst (λ (z : Float). Is z s n) (sym (rounded_value (fin s m e) s (m * up e) (down e) (down_pos e) (refl, refl))) (is_round s n (le_trans (smallest k w) l)); least = smallest }
  where
    n : ℕ
    n = nearest_whole (m * up e) (down e)

    smallest : (k : ℕ) → T (within k (fin s m e)) → n ≤ k
    smallest k w = nearest_at_most (m * up e) (down e) k (down_pos e) (leb→le (m * up e) (k * down e) w)

-- ---- the number of steps, for a coordinate of the size a / b and a step of p / q

-- a quotient is at most 10^9 × 2^10
quotient : (a b p q : ℕ) → a ≤ limit * b → q ≤ p * 1024 → a * q ≤ limit * 1024 * (p * b)
quotient a b p q h k = let z : a * q ≤ limit * b * (p * 1024) = mul-le-mul h k in omega arith

-- n steps, for an n that is at most every whole number that the quotient is at most
steps : (n a b p q : ℕ) → 0 < b → a ≤ limit * b → p ≤ 1000000 * q → n ≤ most → ((k : ℕ) → k ≤ most → a * q ≤ k * (p * b) → n ≤ k) → n * p ≤ grid_limit * q
steps zero a b p q B h c l least = omega arith
steps (suc k) a b p q B h c l least = go (dec_le (a * q) (k * (p * b)))
  where
    -- k steps are within the limit
    short : k * (p * b) ≤ a * q → k * p ≤ limit * q
    short g = le_of_mul-le-mul_right {k = b} (let z : a * q ≤ limit * b * q = mul-le-mul_right q h in omega arith) B

    go : Dec (a * q ≤ k * (p * b)) → suc k * p ≤ grid_limit * q
    go (yes g) = let z = least k (le_trans (le-suc k) l) g in absurd (omega arith)
    go (no g) = let z = short (omega arith) in omega arith

-- ---- a whole number of steps, and a coordinate on the grid

product_within : (r : Float) (s t : Bool) (n m : ℕ) (d : ℤ) (k : ℕ) → k ≤ most → Is r s n → n * (m * up d) ≤ k * down d → T (within k (mul64 r (fin t m d)))
unfolding mul
product_within nan s t n m d k l i h = absurd i
product_within (inf u) s t n m d k l i h = absurd i
product_within (fin u j e) s t n m d k l i h =
    round_within (unlike u t) (j * up e * (m * up d)) (down e * down d) k (mul-pos (down_pos e) (down_pos d)) l
    (sizes (j * up e) (down e) (m * up d) (down d) i.1 h)
  where
    sizes : (x g y w : ℕ) → x * 1 ≡ n * g → n * y ≤ k * w → x * y ≤ k * (g * w)
    sizes x g y w e h = let z : n * y * g ≤ k * w * g = mul-le-mul_right g h in let v : x * 1 * y ≡ n * g * y = ap (λ (i : ℕ). i * y) e in omega arith

quotient_is : (s : Bool) (m : ℕ) (e : ℤ) (n : ℕ) (d : ℤ) → 0 < n * up d → div64 (fin s m e) (fin false n d) ≡ round binary64 (unlike s false) (m * up e * down d) (n * up d * down e)
unfolding div
quotient_is s m e n d p = go (eqb n 0) refl
  where
    zero_up : (n k : ℕ) → n ≡ 0 → 0 < n * k → ⊥
    zero_up n k e p = let z : n * k ≡ 0 * k = ap (λ (i : ℕ). i * k) e in omega arith

    go : (b : Bool) → eqb n 0 ≡ b
        → cond b (cond (eqb m 0) nan (inf (unlike s false))) (round binary64 (unlike s false) (m * up e * down d) (n * up d * down e))
        ≡ round binary64 (unlike s false) (m * up e * down d) (n * up d * down e)
    go true z = absurd (zero_up n (up d) (eqb-true n 0 z) p)
    go false z = refl

on_step : (s : Bool) (m : ℕ) (e : ℤ) (n : ℕ) (d : ℤ) → 0 < n * up d → m * up e ≤ limit * down e → down d ≤ n * up d * 1024 → n * up d ≤ 1000000 * down d
    → T (within grid_limit (mul64 (round_ties_away (div64 (fin s m e) (fin false n d))) (fin false n d)))
on_step s m e n d p h f c =
    rw (quotient_is s m e n d p)
    (product_within (round_ties_away q) r.sign false r.count n d grid_limit (lit≤ tt) r.value
    (steps r.count (m * up e) (down e) (n * up d) (down d) (down_pos e) h c (le_trans (r.least (limit * 1024) first) (lit≤ tt)) (λ k l g. r.least k (at k l g))))
  where
    q : Float
    q = round binary64 (unlike s false) (m * up e * down d) (n * up d * down e)

    at : (k : ℕ) → k ≤ most → m * up e * down d ≤ k * (n * up d * down e) → T (within k q)
    at k l g = round_within (unlike s false) (m * up e * down d) (n * up d * down e) k (mul-pos p (down_pos e)) l g

    first : T (within (limit * 1024) q)
    first = at (limit * 1024) (lit≤ tt) (quotient (m * up e) (down e) (n * up d) (down d) h f)

    r : Rounded q
    r = rounded q (limit * 1024) (lit≤ tt) first

-- the step's bounds, as fractions
step_within : (res c : Float) → lt zero64 res ≡ true → lt res finest ≡ false → lt coarsest res ≡ false → T (within limit c) → T (within grid_limit (mul64 (round_ties_away (div64 c res)) res))
unfolding lt of_bits of_int within
step_within nan c p f g w = absurd (false≢true p)
step_within (inf true) c p f g w = absurd (false≢true p)
step_within (inf false) c p f g w = absurd (true≢false g)
step_within (fin true n d) c p f g w = absurd (false≢true p)
step_within (fin false n d) nan p f g w = absurd w
step_within (fin false n d) (inf s) p f g w = absurd w
step_within (fin false n d) (fin s m e) p f g w =
    on_step s m e n d
    (let z = ltb-true (0 * down d) (n * up d * 1) p in omega arith)
    (leb→le (m * up e) (limit * down e) w)
    (let z = ltb-false (n * up d * 1024) (1 * down d) f in omega arith)
    (let z = ltb-false (1000000 * down d) (n * up d * 1) g in omega arith)

pub grid_within : (res c : Float) → Step res → within limit c ≡ true → within grid_limit (on_grid res c) ≡ true
unfolding on_grid
grid_within res c g h = go (lt zero64 res) refl
  where
    go : (on : Bool) → lt zero64 res ≡ on → within grid_limit (cond on (mul64 (round_ties_away (div64 c res)) res) c) ≡ true
    go true e = is_true (within grid_limit (mul64 (round_ties_away (div64 c res)) res)) (step_within res c e (g.fine e) g.coarse (true→T h))
    go false e = is_true (within grid_limit c) (within_mono limit grid_limit c (lit≤ tt) (true→T h))

pub point_within : (res : Float) (p : Point) → Step res → in_limit p ≡ true → in_grid_limit (point_on_grid res p) ≡ true
unfolding in_limit in_grid_limit point_on_grid
point_within res p g h = ap₂ ◌&&◌ (grid_within res p.x g (is_true (within limit p.x) (and_l (within limit p.x) (within limit p.y) (true→T h))))
    (grid_within res p.y g (is_true (within limit p.y) (and_r (within limit p.x) (within limit p.y) (true→T h))))

-- ---- the grid is off where the step is not above zero

pub grid_off : (res : Float) (p : Point) → lt zero64 res ≡ false → point_on_grid res p ≡ p
unfolding point_on_grid on_grid
grid_off res p h = rw h
