-- `cluster::fixes::stay_labels` meets its contract.
use mathlib.Core.Path.{◌≡◌}
use Prim.Native.Nat.{◌+◌}
use lib.ListN.{length}
use Rattle.distance.specs.Steps.{points_of}
use Rattle.distance.specs.StepsIter.{to_come}
use Rattle.cluster.proofs.FixLabels.{StaysLabelled}
use Rattle.cluster.proofs.fixes.stay_labels.Given as goal

abbrev pub invariant-loop-i : goal.invariant-loop-i
invariant-loop-i l =
    (l.i + length (to_come l.m-iterator) ≡ length (points_of l.medians))
    × StaysLabelled (points_of l.medians) (points_of l.places) l.place_labels l.out l.i (to_come l.m-iterator)
