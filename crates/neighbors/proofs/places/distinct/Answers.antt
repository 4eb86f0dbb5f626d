-- `neighbors::places::distinct` meets its contract.
-- Kept: the check does not find what stands here, also with the lemmas named on the function.
use native.Mathlib.Omega.{arith}
use Rattle.neighbors.proofs.Distinct.{distinct_start, distinct_on, distinct_full, distinct_end}
use Rattle.neighbors.proofs.places.distinct.Goals as goal

pub loop-m-init : goal.loop-m-init
loop-m-init c = distinct_start _ _ _ _ _ (rw c.into_iter-m-iterator.ensures.into_iter_gives c.iter-m-items.ensures.points)

pub returns-in_err-n : goal.returns-in_err-n
returns-in_err-n c =
    distinct_full _ _ _ _ c.loop-m.xs c.loop-m.ys c.loop-m.counts _ c.loop-m.invariant _ _ c.in-Some.ensures.steps c.loop-m.auto.xs
    _ _ _ c.sight.ensures c.in_err-n.was c.from_residual.ensures

pub loop-m-preserved : goal.loop-m-preserved
loop-m-preserved c =
    distinct_on _ _ _ _ c.loop-m.xs c.loop-m.ys c.loop-m.counts _ c.loop-m.invariant _ _ c.in-Some.ensures.steps c.loop-m.auto.xs
    _ _ _ c.sight.ensures _ c.in_ok-n.was

pub returns : goal.returns
returns c = distinct_end _ _ _ _ _ _ _ _ _ c.loop-m.invariant (omega arith) (omega arith) c.loop-m.auto.xs c.in-None.ensures.steps.0
