-- Serves the contracts of this crate's own functions; no public contract reaches it.
-- The points that an iterator has still to give.
use Rattle.std.specs.Prelude.{List}
use Rattle.distance.specs.declared.Point.{Point}
use Rattle.distance.specs.declared.PointIter.{PointIter}
use Rattle.distance.specs.Steps.{points_of}

-- Those of the columns that are left.
abbrev pub to_come : PointIter → List Point
to_come p = points_of p.rest
