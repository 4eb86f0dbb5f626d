-- `records::take_apart` meets its contract.
use Rattle.std.proofs.Common.{length}
use Rattle.records.proofs.Columns.{Filled, Marked}
use Rattle.records.proofs.take_apart.Given as goal

abbrev pub invariant-loop-i : goal.invariant-loop-i
invariant-loop-i l = Filled (length l.fixes) l.i l.fixes l.initial.columns l.columns × Marked l.i l.fixes l.initial.marks l.marks
