-- `neighbors::places::distinct` meets its contract.
use Rattle.distance.specs.Steps.{points_of}
use Rattle.distance.specs.StepsIter.{to_come}
use Rattle.neighbors.proofs.Distinct.{Reached}
use Rattle.neighbors.proofs.places.distinct.Given as goal

abbrev pub invariant-loop-m : goal.invariant-loop-m
invariant-loop-m l = Reached (points_of l.medians) l.initial.xs l.initial.ys l.initial.counts l.xs l.ys l.counts l.n (to_come l.m-iterator)
