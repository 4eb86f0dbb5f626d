-- `input::read_piece` meets its contract: the call is the one that it made.
-- Kept: the check does not find what stands here, also with the lemmas named on the function.
use Rattle.input.proofs.Joined.{took}
use Rattle.input.proofs.read_piece.Goals as goal

pub returns : goal.returns
returns g c = took c.read-told.result c.read-told.new.buf c.read-told.ensures.bound c.take_piece.ensures
