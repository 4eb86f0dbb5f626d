-- `checks::one_trace::each_fix` meets its contract. The invariant: the fixes that are left have the first refusal of all.
use mathlib.Core.Path.{◌≡◌}
use lib.Ieee.{Float}
use Rattle.std.specs.Prelude.{Option}
use Rattle.distance.specs.declared.Point.{Point}
use Rattle.trace.specs.Trace.{Fix}
use Rattle.trace.specs.Given.{fixes_of}
use Rattle.trace.specs.StepsFixes.{fix_of, to_come}
use Rattle.settings.specs.Checks.{Checked, each_of}
use Rattle.checks.proofs.one_trace.each_fix.Given as goal

abbrev pub invariant-loop-p : goal.invariant-loop-p
invariant-loop-p g l =
    (h : Fix → Checked) → ((p : Point) (time : Option Float) (r : Checked) → goal.F-post g l.check p time r → r ≡ h (fix_of (p, time)))
    → each_of h (to_come l.p-iterator) ≡ each_of h (fixes_of l.t)
