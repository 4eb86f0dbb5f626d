-- `records::fit_taken` meets its contract.
-- Kept: the check does not find what stands here, also with the lemmas named on the function.
use Rattle.records.proofs.Fits.{promised_taken}
use Rattle.records.proofs.fit_taken.Goals as goal

pub returns : goal.returns
returns c =
    let a = c.args in
    λ fs w. promised_taken a.model fs a.lens.now a.labels.now a.places a.columns.now a.marks.now a.floats.now a.words.now a.n w _ _ _ _
    c.fit_predict_many.ensures
