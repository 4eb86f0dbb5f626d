-- `neighbors::weights::fill_row` meets its contract.
use Prim.Native.Nat.{◌+◌, ◌*◌}
use lib.ListN.{length}
use Rattle.distance.specs.Distance.{euclidean}
use Rattle.neighbors.specs.StepsTables.{Weighted}
use Rattle.neighbors.proofs.weights.fill_row.Given as goal

abbrev pub invariant-loop-j : goal.invariant-loop-j
invariant-loop-j l = Weighted euclidean l.r2 l.places l.table (l.i * length l.places + l.j)
