-- `float::Scaled::normalize` meets its contract.
-- Kept: the check does not find what stands here, also with the lemmas named on the function.
use Rattle.float.proofs.Unpacking.{normalized}
use Rattle.float.proofs.Scaled.normalize.Goals as goal

pub returns : goal.returns
returns c = normalized c.args.self.m c.args.self.e c.requires.m_nonzero c.requires.m_bound c.requires.e_bound
