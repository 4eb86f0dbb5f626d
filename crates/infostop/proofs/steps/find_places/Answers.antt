-- `infostop::steps::find_places` meets its contract.
-- Kept: the check does not find what stands here, also with the lemmas named on the function.
use Rattle.infostop.proofs.Placed.{arrays_laid}
use Rattle.infostop.proofs.steps.find_places.Goals as goal

pub returns : goal.returns
returns c = let d = c.distinct-found.ensures in arrays_laid _ c.requires.1 _ _ d.0 _ c.in-Some.is _ _ _ d.1 d.2 d.3
