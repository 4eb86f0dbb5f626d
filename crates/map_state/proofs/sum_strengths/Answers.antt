-- `map_state::sum_strengths` meets its contract. The loop has written the strengths of the nodes below u.
-- Kept: the check does not find what stands here, also with the lemmas named on the function.
use native.Mathlib.Omega.{arith}
use Rattle.map_state.proofs.Rows.{is_strengths}
use Rattle.map_state.proofs.sum_strengths.Goals as goal

pub returns : goal.returns
returns c =
    is_strengths _ _ _ _ c.loop-u.u c.loop-u.invariant.1 c.loop-u.invariant.0 (omega arith)
