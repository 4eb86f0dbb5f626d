-- `program::answer_input` meets its contract.
-- Kept: the check does not find what stands here, also with the lemmas named on the function.
use mathlib.Core.Path.{sym}
use Rattle.input.specs.Calls.{heard}
use Rattle.program.proofs.Heard.{text_of, heard_text, heard_answered}
use Rattle.program.proofs.answer_input.Goals as goal

pub answer-requires : goal.answer-requires
answer-requires g c =
    let u = c.read_input-p.ensures in
    (text_of (heard u.0), heard_text (heard u.0) _ _ (rw (c.filled-read.ensures, sym c.tracks.ensures) at u.1))

pub returns : goal.returns
returns g c =
    let u = c.read_input-p.ensures in
    let a = c.answer in
    let long = c.requires in
    heard_answered c.args.form u.0 _ _ _ (a.ensures.writes (heard_text (heard u.0) _ _ (rw (c.filled-read.ensures, sym c.tracks.ensures) at u.1))) long a.auto.out
