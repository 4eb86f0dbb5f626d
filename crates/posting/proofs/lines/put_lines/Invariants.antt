-- `posting::lines::put_lines` meets its contract.
use mathlib.Core.Path.{◌≡◌}
use mathlib.Core.Bool.{true}
use mathlib.Core.List.{flatten}
use Prim.Native.Nat.{◌-◌, ◌≤◌}
use lib.ListN.{length, drop}
use Rattle.trace.specs.Trace.{total}
use Rattle.print.specs.Steps.{held, pushes}
use Rattle.posting.specs.Posted.{all_in_column}
use Rattle.posting.specs.Sheet.{entries}
use Rattle.posting.specs.Steps.{lines_from}
use Rattle.posting.proofs.lines.put_lines.Given as goal

abbrev pub invariant-loop-t : goal.invariant-loop-t
invariant-loop-t l = record {
  same : l.out.bytes.ghost_name ≡ l.initial.out.bytes.ghost_name;
  left : pushes (held l.out) (flatten (lines_from (length l.labels - length l.rest) (entries l.t (drop l.t l.lens) l.rest))) ≡ pushes (held l.initial.out) (flatten (lines_from 0 (entries 0 l.lens l.labels)));
  sum : total (drop l.t l.lens) ≡ length l.rest;
  few : length l.rest ≤ length l.labels;
  within : all_in_column l.rest ≡ true;
}
