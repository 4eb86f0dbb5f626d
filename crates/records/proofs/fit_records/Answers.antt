-- `records::fit_records` meets its contract.
-- Kept: the check does not find what stands here, also with the lemmas named on the function.
use borrow.Author.Rules.{rules}
use Rattle.records.proofs.Fits.{end_refused, end_taken}
use Rattle.records.proofs.fit_records.Goals as goal

pub returns-in-Ok : goal.returns-in-Ok
returns-in-Ok c =
    let a = c.args in
    let t = c.take_apart in
    end_taken a.model a.fixes.now a.lens.now a.labels.now a.places a.columns.now a.marks.now a.floats.now a.words.now
    c.check_records.ensures c.in-Ok.is _ _ t.ensures.0 t.ensures.1 _ _ _ _ c.fit_taken.ensures

pub returns-in-Err : goal.returns-in-Err
returns-in-Err c =
    let a = c.args in
    rw c.refuse.ensures
    (end_refused a.model a.fixes.now a.lens.now a.labels.now a.places a.columns.now a.marks.now a.floats.now a.words.now
    c.check_records.ensures _ c.in-Err.is (search rules) (search rules))
