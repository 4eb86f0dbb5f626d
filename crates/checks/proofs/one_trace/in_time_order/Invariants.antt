-- `checks::one_trace::in_time_order` meets its contract. The invariant: the fixes that are left are in order behind the last where all are.
use mathlib.Core.Path.{◌≡◌}
use Rattle.trace.specs.Given.{fixes_of}
use Rattle.trace.specs.StepsFixes.{given, to_come}
use Rattle.checks.specs.Traces.{in_time_order}
use Rattle.checks.proofs.Columns.{order_from}
use Rattle.checks.proofs.one_trace.in_time_order.Given as goal

abbrev pub invariant-loop-time : goal.invariant-loop-time
invariant-loop-time l = order_from (given l.last) (to_come l.time-iterator) ≡ in_time_order (fixes_of l.t)
