-- `infostop::model::Infostop::fit_tracks` meets its contract.
-- Kept: the check does not find what stands here, also with the lemmas named on the function.
use mathlib.Core.Path.{sym, ◌∙◌}
use lib.ListN.{length}
use Rattle.std.proofs.lemmas.Result.{err_from_is_err_and}
use Rattle.infostop.proofs.Promises.{config_refused, tracks_refused, promised_refused, promised_fit}
use Rattle.infostop.proofs.model.Infostop.fit_tracks.Goals as goal

pub returns-in_err-check_config : goal.returns-in_err-check_config
returns-in_err-check_config c =
    let a = c.args in
    let q = err_from_is_err_and c.from_residual.result c.from_residual.ensures.1 in
    rw (q.1, q.2)
    (promised_refused a.self.now a.tracks.xs.now a.tracks.ys.now a.tracks.times.now a.tracks.marks.now a.tracks.lens.now a.labels.now a.places
    a.floats.now a.words.now _
    (config_refused a.self.now.config a.tracks.xs.now a.tracks.ys.now a.tracks.times.now a.tracks.marks.now a.tracks.lens.now (length a.labels.now)
    a.places (length a.floats.now) (length a.words.now) _ (sym c.check_config.ensures ∙ c.in_err-check_config.was)))

pub returns-in_err-check_tracks : goal.returns-in_err-check_tracks
returns-in_err-check_tracks c =
    let a = c.args in
    let q = err_from_is_err_and c.from_residual-in_err-check_tracks.result c.from_residual-in_err-check_tracks.ensures.1 in
    rw (q.1, q.2)
    (promised_refused a.self.now a.tracks.xs.now a.tracks.ys.now a.tracks.times.now a.tracks.marks.now a.tracks.lens.now a.labels.now a.places
    a.floats.now a.words.now _
    (tracks_refused a.self.now.config a.tracks.xs.now a.tracks.ys.now a.tracks.times.now a.tracks.marks.now a.tracks.lens.now (length a.labels.now)
    a.places (length a.floats.now) (length a.words.now) _
    (sym c.check_config.ensures ∙ c.in_ok-check_config.was)
    (sym c.check_tracks.ensures ∙ c.in_err-check_tracks.was)))

pub returns : goal.returns
returns c =
    let a = c.args in
    promised_fit a.self.now a.tracks.xs.now a.tracks.ys.now a.tracks.times.now a.tracks.marks.now a.tracks.lens.now a.labels.now a.places a.floats.now
    a.words.now _ _ _ _ (sym c.check_config.ensures ∙ c.in_ok-check_config.was)
    (sym c.check_tracks.ensures ∙ c.in_ok-check_tracks.was) c.from_tracks.ensures
