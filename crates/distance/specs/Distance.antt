-- docs/RULES.md, "Distance": sqrt(dx×dx + dy×dy), each operation rounded once, sqrt the correctly rounded root; and its bound. Definitions only.
use Rattle.std.specs.Prelude.{◌≡◌, true, List, [], ◌∷◌, ℕ, Float}
use Rattle.std.specs.Float.{binary64}
use Rattle.std.specs.Float.Ieee.{add, sub, mul}
use Rattle.float.specs.Binary64.{add64, sub64, mul64}
use Rattle.float.specs.Root.{root}
use Rattle.distance.specs.declared.Point.{Point}
use Rattle.distance.specs.Limit.{within, in_limit}

-- A distance is a parameter of stays, links and chains.
abbrev pub Metric : Type 0
Metric = Point → Point → Float

unfoldable pub euclidean : Point → Point → Float
unfolding add sub mul root
euclidean a b =
    let dx = sub64 a.x b.x in
    let dy = sub64 a.y b.y in
    root binary64 (add64 (mul64 dx dx) (mul64 dy dy))

-- The points of two columns of coordinates.
unfoldable pub points : List Float → List Float → List Point
points [] ys = []
points (x ∷ xs) [] = []
points (x ∷ xs) (y ∷ ys) = record { x = x; y = y } ∷ points xs ys

-- 3×10^9.
abbrev pub farthest : ℕ
farthest = 3000000000

-- r is the distance of a and b, and "within the limits it is promised to be finite and at most 3×10^9".
pub record Measured (a b : Point) (r : Float) : Type 0 where
  pub equation : r ≡ euclidean a b
  pub bounded : in_limit a ≡ true → in_limit b ≡ true → within farthest r ≡ true
