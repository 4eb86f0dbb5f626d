-- `neighbors::nodes::compact_row` meets its contract.
use mathlib.Core.List.{List}
use Prim.Native.Nat.{◌+◌, ◌*◌}
use lib.ListN.{length}
use lib.Ieee.{Float}
use Rattle.neighbors.specs.StepsTables.{Compacted}
use Rattle.neighbors.proofs.nodes.compact_row.Given as goal

abbrev pub invariant-loop-v : goal.invariant-loop-v
invariant-loop-v l = (t : List Float) → Compacted l.nodes.n l.nodes.numbers.now t l.initial.table (l.u * length l.nodes.numbers.now)
    → Compacted l.nodes.n l.nodes.numbers.now t l.table (l.u * length l.nodes.numbers.now + l.v)
