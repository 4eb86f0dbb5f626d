-- `neighbors::weights::fill_table` meets its contract.
use Prim.Native.Nat.{◌*◌}
use lib.ListN.{length}
use Rattle.distance.specs.Distance.{euclidean}
use Rattle.neighbors.specs.StepsTables.{Weighted}
use Rattle.neighbors.proofs.weights.fill_table.Given as goal

abbrev pub invariant-loop-i : goal.invariant-loop-i
invariant-loop-i l = Weighted euclidean l.r2 l.places l.table (l.i * length l.places)
