-- `float::Small::root_by_digits` meets its contract: the loop's invariant is `Partial`, and its measure the place.
use Prim.Native.Nat.{◌*◌, ◌^◌}
use Rattle.float.proofs.Restoring.{Partial}
use Rattle.float.proofs.Small.root_by_digits.Given as goal

abbrev pub invariant-loop-p : goal.invariant-loop-p
invariant-loop-p l = Partial (l.fn.self.m * 2 ^ 54) (2 ^ 54) l.root l.rest l.p

abbrev pub decreases-loop-p : goal.decreases-loop-p
decreases-loop-p l = l.p
