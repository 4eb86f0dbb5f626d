-- `neighbors::nodes::compact` meets its contract.
use Prim.Native.Nat.{◌*◌}
use lib.ListN.{length}
use Rattle.neighbors.specs.StepsTables.{Compacted}
use Rattle.neighbors.proofs.nodes.compact.Given as goal

abbrev pub invariant-loop-u : goal.invariant-loop-u
invariant-loop-u l = Compacted l.nodes.n l.nodes.numbers.now l.initial.table l.table (l.u * length l.nodes.numbers.now)
