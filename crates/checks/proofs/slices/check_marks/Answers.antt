-- `checks::slices::check_marks` meets its contract.
-- Kept: the check does not find what stands here, also with the lemmas named on the function.
use mathlib.Core.Path.{sym}
use Rattle.std.proofs.Common.{rules}
use Rattle.checks.proofs.MarkLoop.{marks_bad}
use Rattle.checks.proofs.slices.check_marks.Goals as goal

pub returns : goal.returns
returns c = sym (marks_bad c.args.marks.now (search rules))
