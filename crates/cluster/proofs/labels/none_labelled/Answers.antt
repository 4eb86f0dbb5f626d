-- `cluster::labels::none_labelled` meets its contract.
-- Kept: the check does not find what stands here, also with the lemmas named on the function.
use Rattle.std.proofs.Common.{rules}
use Rattle.cluster.proofs.NoneLabelled.{none_by_all}
use Rattle.cluster.proofs.labels.none_labelled.Goals as goal

pub returns : goal.returns
returns c = none_by_all _ _ (search rules)
