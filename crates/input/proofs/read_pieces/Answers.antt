-- `input::read_pieces` meets its contract. The invariant: some calls told that there may be more, and all that they gave was read.
-- Kept: the check does not find what stands here, also with the lemmas named on the function.
use Rattle.input.proofs.Joined.{so_far_more, no_more, told_last}
use Rattle.input.proofs.read_pieces.Goals as goal

pub returns-in-End : goal.returns-in-End
returns-in-End g c = told_last c.read_piece-p.ensures c.loop.invariant (no_more c.in-End.is)

pub loop-preserved : goal.loop-preserved
loop-preserved g c = so_far_more c.read_piece-p.ensures c.loop.invariant c.in-More.is
