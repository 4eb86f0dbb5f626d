-- docs/RULES.md, "Grid": a coordinate c becomes round(c / res) × res, each operation rounded once. Definitions only.
use Rattle.std.specs.Prelude.{cond, Float}
use Rattle.std.specs.Float.Ieee.{lt, mul, div, of_bits}
use Rattle.float.specs.Binary64.{zero64, mul64, div64}
use Rattle.float.specs.Round.{round_ties_away}
use Rattle.distance.specs.declared.Point.{Point}

-- A zero of either sign turns the grid off, and c stays bit for bit.
unfoldable pub on_grid : Float → Float → Float
unfolding lt mul div of_bits round_ties_away
on_grid res c = cond (lt zero64 res) (mul64 (round_ties_away (div64 c res)) res) c

-- Each coordinate by itself.
unfoldable pub point_on_grid : Float → Point → Point
unfolding on_grid
point_on_grid res p = record { x = on_grid res p.x; y = on_grid res p.y }
