-- `posting::lines::put_trace` meets its contract.
use mathlib.Core.Path.{◌≡◌}
use mathlib.Core.List.{flatten}
use Prim.Native.Nat.{◌+◌}
use lib.ListN.{drop}
use Rattle.print.specs.Steps.{held, pushes}
use Rattle.posting.specs.Sheet.{trace_entries}
use Rattle.posting.specs.Steps.{lines_from}
use Rattle.posting.proofs.lines.put_trace.Given as goal

abbrev pub invariant-loop-f : goal.invariant-loop-f
invariant-loop-f l = record {
  same : l.out.bytes.ghost_name ≡ l.initial.out.bytes.ghost_name;
  left : pushes (held l.out) (flatten (lines_from (l.i + l.f) (trace_entries l.t l.f (drop l.f l.labels)))) ≡ pushes (held l.initial.out) (flatten (lines_from l.i (trace_entries l.t 0 l.labels)));
}
