-- `infostop::steps::from_medians` meets its contract.
-- Kept: the check does not find what stands here, also with the lemmas named on the function.
use mathlib.Core.Path.{sym, ◌∙◌}
use Rattle.std.proofs.lemmas.Result.{err_from_is_err_and}
use Rattle.infostop.proofs.Placed.{asked}
use Rattle.infostop.proofs.Ending.{too_many_end, medians_end}
use Rattle.infostop.proofs.steps.from_medians.Goals as goal

pub returns-in_err-found : goal.returns-in_err-found
returns-in_err-found c ts f =
    let p = c.requires in
    let e = sym c.in_err-found.was ∙ c.find_places.ensures in
    let q = err_from_is_err_and c.from_residual.result c.from_residual.ensures.1 in
    rw (q.1, q.2) (too_many_end _ _ _ _ _ _ p.0 p.1 ts f _ c.medians.ensures.0 _ e)

pub label_tracks-requires : goal.label_tracks-requires
label_tracks-requires c =
    let p = c.requires in
    asked _ _ _ _ _ p.0 p.1 _ c.medians.ensures.1 _ (sym c.in_ok-found.was ∙ c.find_places.ensures)

pub returns-in_err-labelled : goal.returns-in_err-labelled
returns-in_err-labelled c ts f =
    let p = c.requires in
    let e = sym c.in_ok-found.was ∙ c.find_places.ensures in
    let l = c.label_tracks in
    let q = err_from_is_err_and c.from_residual-in_err-labelled.result c.from_residual-in_err-labelled.ensures.1 in
    rw (q.1, q.2) (medians_end _ _ _ _ _ _ p.0 p.1 ts f _ c.medians.ensures.0 _ e l.result l.new.pl _ l.auto.pl l.ensures _ c.in_err-labelled.was)

pub returns : goal.returns
returns c ts f =
    let p = c.requires in
    let e = sym c.in_ok-found.was ∙ c.find_places.ensures in
    let l = c.label_tracks in
    medians_end _ _ _ _ _ _ p.0 p.1 ts f _ c.medians.ensures.0 _ e l.result l.new.pl _ l.auto.pl l.ensures _ c.in_ok-labelled.was
