-- `print::bytes::Output::put_lines` meets its contract.
use mathlib.Core.Path.{◌≡◌}
use lib.ListN.{drop}
use Rattle.print.specs.Lines.{lines}
use Rattle.print.specs.Steps.{held, pushes}
use Rattle.print.proofs.bytes.Output.put_lines.Given as goal

abbrev pub invariant-loop-t : goal.invariant-loop-t
invariant-loop-t l = record {
  same : l.self.bytes.ghost_name ≡ l.initial.self.bytes.ghost_name;
  left : pushes (held l.self) (lines l.t (drop l.t l.lens) l.rest) ≡ pushes (held l.initial.self) (lines 0 l.lens l.labels);
}
