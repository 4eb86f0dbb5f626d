-- `print::bytes::Output::put_trace` meets its contract.
use mathlib.Core.Path.{◌≡◌}
use lib.ListN.{drop}
use Rattle.print.specs.Lines.{trace_lines}
use Rattle.print.specs.Steps.{held, pushes}
use Rattle.print.proofs.bytes.Output.put_trace.Given as goal

abbrev pub invariant-loop-f : goal.invariant-loop-f
invariant-loop-f l = record {
  same : l.self.bytes.ghost_name ≡ l.initial.self.bytes.ghost_name;
  left : pushes (held l.self) (trace_lines l.t l.f (drop l.f l.labels)) ≡ pushes (held l.initial.self) (trace_lines l.t 0 l.labels);
}
