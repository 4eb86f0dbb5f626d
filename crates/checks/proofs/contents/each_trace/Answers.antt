-- `checks::contents::each_trace` meets its contract.
-- Kept: the check does not find what stands here, also with the lemmas named on the function.
use Rattle.std.proofs.Common.{◌≡◌, length, ◌∙◌, inl, arith}
use Rattle.std.proofs.lemmas.Result.{err_from_is_err_and}
use Rattle.std.specs.Iterator.Adapters.{enumerate_source, enumerate_count}
use Rattle.trace.specs.StepsTraces.{left}
use Rattle.trace.proofs.Placed.{placed_length}
use Rattle.checks.proofs.TraceLoops.{trace_accepted, trace_refused}
use Rattle.checks.proofs.contents.each_trace.Goals as goal

pub loop-k-init-derived : goal.loop-k-init-derived
loop-k-init-derived g c =
    let it = c.into_iter-k-iterator in
    let en = c.enumerate-k-items.ensures in
    let many : length (left (enumerate_source it.result)) ≡ length c.args.t.tracks.lens.now = rw (it.ensures.into_iter_gives, en.source, c.traces.ensures) (placed_length _ _ _) in
    let none : enumerate_count it.result ≡ 0 = rw it.ensures.into_iter_gives en.count in
    ((tt, tt, inl (omega (arith, many, none, c.requires.few))), tt)

pub loop-k-preserved : goal.loop-k-preserved
loop-k-preserved g c h post =
    let next = c.in-Some.ensures.steps in
    trace_accepted h _ _ _ _ _ _ next.0 next.1 _ _ next.2 (post _ _ _ c.check.ensures) c.in_ok-check.was ∙ c.loop-k.invariant h post

pub returns-in_err-check : goal.returns-in_err-check
returns-in_err-check g c h post =
    let next = c.in-Some.ensures.steps in
    let p = err_from_is_err_and c.from_residual.result c.from_residual.ensures.1 in
    rw (p.1, p.2) (trace_refused h _ _ _ _ _ _ next.0 next.1 _ _ (post _ _ _ c.check.ensures) c.in_err-check.was ∙ c.loop-k.invariant h post)
