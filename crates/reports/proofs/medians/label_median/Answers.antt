-- `reports::medians::label_median` meets its contract.
-- Kept: the check does not find what stands here, also with the lemmas named on the function.
use borrow.Author.Rules.{rules}
use Rattle.reports.proofs.Gathered.{gathered_median}
use Rattle.reports.proofs.medians.label_median.Goals as goal

pub returns : goal.returns
returns c = gathered_median _ _ _ _ _ _ (search rules) c.gather-n.ensures.1 c.median.ensures
