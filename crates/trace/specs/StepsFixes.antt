-- Serves the contracts of this crate's own functions; no public contract reaches it.
-- The fixes that an iterator over them has still to give.
use Rattle.std.specs.Prelude.{List, Float}
use Rattle.std.specs.Prelude.{Option as Given, None, Some}
use Rattle.std.proofs.Math.Option.{Option, none, some}
use Rattle.distance.specs.declared.Point.{Point}
use Rattle.trace.specs.declared.FixIter.{FixIter}
use Rattle.trace.specs.Trace.{Fix}
use Rattle.trace.specs.Given.{fixes_of}

-- A time that the code hands over, as the definitions write one.
unfoldable pub given : Given Float → Option Float
given None = none
given (Some t) = some t

-- A fix that the code hands over as its point and its time.
abbrev pub fix_of : Point × Given Float → Fix
fix_of p = record { at = p.0; time = given p.1 }

-- Those that are still to come.
abbrev pub to_come : FixIter → List Fix
to_come f = fixes_of f.rest
