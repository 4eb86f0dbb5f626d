-- What every model that a fit has altered holds, and the reports lean on. Definitions only.
use Rattle.std.specs.Prelude.{◌≡◌, true, List, ℕ, ◌≤◌, ◌<◌, length, take, get_or}
use Rattle.distance.specs.declared.Point.{Point}
use Rattle.distance.specs.Limit.{within}
use Rattle.distance.specs.Distance.{euclidean, points, farthest}
use Rattle.neighbors.specs.Places.{no_place, AllDiffer}
use Rattle.cluster.specs.Cluster.{NoGap}
use Rattle.infostop.specs.declared.model.Infostop.{Infostop}

-- The distance of any two of these points is finite and at most 3×10^9.
abbrev pub AllNear : List Point → Type 0
AllNear ps = (i j : ℕ) → i < length ps → j < length ps → within farthest (euclidean (get_or ps i no_place.at) (get_or ps j no_place.at)) ≡ true

-- Of the first `count` entries of the arrays: the labels have no gap, and of any two places a bit pattern differs. Any two are near enough for the distance's
-- bound, though a place on the grid may lie beyond the coordinate limit by half a step.
pub record FittedPlaces (m : Infostop) : Type 0 where
  pub few : m.count ≤ 512
  pub no_gap : NoGap (take m.count m.labels)
  pub differ : AllDiffer (points (take m.count m.xs) (take m.count m.ys))
  pub near : AllNear (points (take m.count m.xs) (take m.count m.ys))
