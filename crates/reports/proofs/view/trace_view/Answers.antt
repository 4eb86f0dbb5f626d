-- `reports::view::trace_view` meets its contract.
-- Kept: the check does not find what stands here, also with the lemmas named on the function.
use mathlib.Core.Path.{refl}
use borrow.Author.Rules.{rules}
use Rattle.reports.proofs.ViewParts.{view_given}
use Rattle.reports.proofs.view.trace_view.Goals as goal

pub returns-in-Ok : goal.returns-in-Ok
returns-in-Ok c = view_given _ c.in-Ok.ensures c.trace_start-from.ensures refl (search rules) (search rules)
