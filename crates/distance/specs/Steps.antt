-- Serves the contracts of this crate's own functions; no public contract reaches it.
-- The points that lent columns stand for. Definitions only.
use Rattle.std.specs.Prelude.{ℕ, List, get_or}
use Rattle.std.specs.Float.{nan}
use Rattle.distance.specs.declared.Point.{Point}
use Rattle.distance.specs.declared.Points.{Points}
use Rattle.distance.specs.Distance.{points}

-- The points of two columns.
abbrev pub points_of : Points → List Point
points_of p = points p.xs.now p.ys.now

-- Stands for a point where there is none.
abbrev pub no_point : Point
no_point = record { x = nan; y = nan }

-- Point i.
abbrev pub point_at : List Point → ℕ → Point
point_at ps i = get_or ps i no_point
