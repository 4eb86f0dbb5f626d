-- The distance of two points within the limit, or rounded to a grid, is finite and at most 3×10^9: it is at most that of two opposite corners
-- of the square of the points within the grid's limit, and that one is worked out.
use mathlib.Core.Path.{◌≡◌}
use Prim.Native.Nat.{ℕ}
use mathlib.Core.Bool.{Bool, true, false, ◌&&◌, false≢true}
use lib.Dec.{T, lit≤}
use lib.Ieee.{Float, binary64, add, mul, of_int, of_bits}
use lib.Ieee.Bits.{is_true}
use lib.Ieee.Fits.{and_i}
use lib.Ieee.Scale.{finite}
use Rattle.float.specs.Binary64.{add64, sub64, mul64, whole64, half64}
use Rattle.float.proofs.Order.{true→T}
use Rattle.float.specs.Root.{root}
use Rattle.float.proofs.Monotone.{nonneg}
use Rattle.distance.specs.declared.Point.{Point}
use Rattle.distance.specs.Distance.{euclidean, farthest, Measured}
use Rattle.distance.specs.Limit.{limit, within, in_limit}
use Rattle.distance.proofs.Size.{Under, add_under, sub_under, mul_under, square_nonneg, add_nonneg, root_under, within_mono, within_under, under_within}

-- a coordinate within the limit that is rounded to a grid is within this: the limit and the coarsest step, 10^9 + 10^6
abbrev pub grid_limit : ℕ
grid_limit = 1001000000

-- both coordinates are
unfoldable pub in_grid_limit : Point → Bool
in_grid_limit p = within grid_limit p.x && within grid_limit p.y

-- the largest coordinate, difference, square, sum of squares and root
l64 : Float
l64 = whole64 grid_limit

d64 : Float
d64 = add64 l64 l64

q64 : Float
q64 = mul64 d64 d64

s64 : Float
s64 = add64 q64 q64

r64 : Float
r64 = root binary64 s64

record Corner : Type 0 where
  pub l_nonneg : T (nonneg l64)
  pub d_finite : T (finite d64)
  pub q_finite : T (finite q64)
  pub q_nonneg : T (nonneg q64)
  pub s_finite : T (finite s64)
  pub s_nonneg : T (nonneg s64)
  pub r_finite : T (finite r64)
  pub r_nonneg : T (nonneg r64)
  pub r_within : T (within farthest r64)

corner : Corner
unfolding l64 d64 q64 s64 r64 add mul of_int root within
corner = record { l_nonneg = tt; d_finite = tt; q_finite = tt; q_nonneg = tt; s_finite = tt; s_nonneg = tt; r_finite = tt; r_nonneg = tt; r_within = tt }

-- two differences of coordinates
at_most_corner : (dx dy : Float) → Under dx d64 → Under dy d64 → Under (root binary64 (add64 (mul64 dx dx) (mul64 dy dy))) r64
unfolding r64 s64 q64
at_most_corner dx dy h k =
    let x : Under (mul64 dx dx) (mul64 d64 d64) = mul_under dx dx d64 d64 corner.q_finite h h in
    let y : Under (mul64 dy dy) (mul64 d64 d64) = mul_under dy dy d64 d64 corner.q_finite k k in
    root_under (add64 (mul64 dx dx) (mul64 dy dy)) (add64 (mul64 d64 d64) (mul64 d64 d64))
    (add_nonneg (mul64 dx dx) (mul64 dy dy) (mul64 d64 d64) (mul64 d64 d64) x y (square_nonneg dx d64 h) (square_nonneg dy d64 k))
    corner.s_nonneg corner.r_nonneg corner.r_finite
    (add_under (mul64 dx dx) (mul64 dy dy) (mul64 d64 d64) (mul64 d64 d64) corner.q_nonneg corner.q_nonneg corner.s_finite x y)

difference : (x y : Float) → T (within grid_limit x) → T (within grid_limit y) → Under (sub64 x y) d64
unfolding d64 l64
difference x y h k =
    sub_under x y l64 l64 corner.l_nonneg corner.l_nonneg corner.d_finite (within_under grid_limit x (lit≤ tt) h) (within_under grid_limit y (lit≤ tt) k)

both : (x y : Bool) → (x && y) ≡ true → T x × T y
both true true e = (tt, tt)
both true false e = absurd (false≢true e)
both false y e = absurd (false≢true e)

pub grid_bound : (a b : Point) → in_grid_limit a ≡ true → in_grid_limit b ≡ true → within farthest (euclidean a b) ≡ true
unfolding euclidean in_grid_limit
grid_bound a b h k =
    let p = both (within grid_limit a.x) (within grid_limit a.y) h in
    let q = both (within grid_limit b.x) (within grid_limit b.y) k in
    is_true (within farthest (euclidean a b))
    (under_within farthest (euclidean a b) r64
    (at_most_corner (sub64 a.x b.x) (sub64 a.y b.y) (difference a.x b.x p.0 q.0) (difference a.y b.y p.1 q.1))
    corner.r_within)

-- a point that is not rounded
pub in_grid_limit_lem : (p : Point) → in_limit p ≡ true → in_grid_limit p ≡ true
unfolding in_limit in_grid_limit
in_grid_limit_lem p h =
    let w = both (within limit p.x) (within limit p.y) h in
    is_true (in_grid_limit p)
    (and_i (within grid_limit p.x) (within grid_limit p.y) (within_mono limit grid_limit p.x (lit≤ tt) w.0) (within_mono limit grid_limit p.y (lit≤ tt) w.1))

-- the distance, by its equation
pub measured : (a b : Point) (r : Float) → r ≡ euclidean a b → Measured a b r
measured a b r e = record { equation = e; bounded = λ h k. rw e (grid_bound a b (in_grid_limit_lem a h) (in_grid_limit_lem b k)) }

-- ---- half the sum of two coordinates within the limit is within it

-- the largest sum
t64 : Float
t64 = add64 (whole64 limit) (whole64 limit)

record Middle : Type 0 where
  pub l_nonneg : T (nonneg (whole64 limit))
  pub t_finite : T (finite t64)
  pub half : Under half64 half64
  pub h_finite : T (finite (mul64 half64 t64))
  pub h_within : T (within limit (mul64 half64 t64))

middle : Middle
unfolding t64 add mul of_int within of_bits
middle = record { l_nonneg = tt; t_finite = tt; half = lit≤ tt; h_finite = tt; h_within = tt }

pub half_sum : (x y : Float) → within limit x ≡ true → within limit y ≡ true → within limit (mul64 half64 (add64 x y)) ≡ true
unfolding t64
half_sum x y h k =
    is_true (within limit (mul64 half64 (add64 x y)))
    (under_within limit (mul64 half64 (add64 x y)) (mul64 half64 t64)
    (mul_under half64 (add64 x y) half64 t64 middle.h_finite middle.half (sum x y (true→T h) (true→T k)))
    middle.h_within)
  where
    sum : (x y : Float) → T (within limit x) → T (within limit y) → Under (add64 x y) t64
    sum x y h k =
        add_under x y (whole64 limit) (whole64 limit) middle.l_nonneg middle.l_nonneg middle.t_finite (within_under limit x (lit≤ tt) h) (within_under limit y (lit≤ tt) k)
