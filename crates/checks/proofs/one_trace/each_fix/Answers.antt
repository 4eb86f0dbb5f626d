-- `checks::one_trace::each_fix` meets its contract.
-- Kept: the check does not find what stands here, also with the lemmas named on the function.
use Rattle.std.proofs.Common.{◌∙◌}
use Rattle.std.proofs.lemmas.Result.{err_from_is_err_and}
use Rattle.checks.proofs.Columns.{fix_accepted, fix_refused}
use Rattle.checks.proofs.one_trace.each_fix.Goals as goal

pub loop-p-preserved : goal.loop-p-preserved
loop-p-preserved g c h post = fix_accepted h _ _ _ c.in-Some.ensures.steps _ (post _ _ _ c.check.ensures) c.in_ok-check.was ∙ c.loop-p.invariant h post

pub returns-in_err-check : goal.returns-in_err-check
returns-in_err-check g c h post =
    let p = err_from_is_err_and c.from_residual.result c.from_residual.ensures.1 in
    rw (p.1, p.2) (fix_refused h _ _ _ c.in-Some.ensures.steps _ (post _ _ _ c.check.ensures) _ c.in_err-check.was ∙ c.loop-p.invariant h post)
