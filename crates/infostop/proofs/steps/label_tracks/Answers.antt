-- `infostop::steps::label_tracks` meets its contract.
-- Kept: the check does not find what stands here, also with the lemmas named on the function.
use mathlib.Core.Path.{sym, ◌∙◌}
use native.Mathlib.Omega.{arith}
use Rattle.infostop.proofs.Grouping.{grouped_none, grouped_later}
use Rattle.infostop.proofs.steps.label_tracks.Goals as goal

pub returns-then-none_labelled : goal.returns-then-none_labelled
returns-then-none_labelled c =
    let k = c.cluster-kept in
    grouped_none _ _ _ _ _ _ _ k.result k.ensures (sym c.none_labelled.ensures ∙ c.if-none_labelled.true)

pub returns : goal.returns
returns c =
    let s = c.requires.1 in
    let k = c.cluster-kept in
    grouped_later _ _ _ _ _ _ _ k.result k.ensures (sym c.none_labelled.ensures ∙ c.if-none_labelled.false) _ k.new.table _ _ s.few_stays (omega (arith, s.floats_length))
    c.medians.ensures.0 c.label_fixes.ensures
