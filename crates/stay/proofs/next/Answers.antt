-- `stay::next` meets its contract.
-- Kept: the check does not find what stands here, also with the lemmas named on the function.
use native.Mathlib.Omega.{arith}
use Rattle.stay.proofs.States.{step_closed}
use Rattle.stay.proofs.next.Goals as goal

pub returns : goal.returns
returns c =
    step_closed _ _ _ _ _ _ _ _ _ _ _ _ _ _ _ _ _ c.insert_both-2.ensures c.close-n.ensures c.middle-m.ensures
    c.distance-d.ensures.equation c.elapsed-gap.ensures c.joins.ensures c.if-joins.false (omega arith) (omega (arith, c.close-n.auto.work))
