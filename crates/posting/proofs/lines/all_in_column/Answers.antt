-- `posting::lines::all_in_column` meets its contract.
-- Kept: the check does not find what stands here, also with the lemmas named on the function.
use Rattle.std.proofs.Common.{rules}
use Rattle.posting.proofs.Within.{all_is}
use Rattle.posting.proofs.lines.all_in_column.Goals as goal

pub returns : goal.returns
returns c = all_is c.args.labels.now (search rules)
