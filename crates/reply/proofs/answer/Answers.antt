-- `reply::answer` meets its contract.
-- Kept: the check does not find what stands here, also with the lemmas named on the function.
use mathlib.Core.Path.{sym}
use Rattle.reply.proofs.Columns.{writes_as, refused_text, tracks_text, program_is}
use Rattle.reply.proofs.answer.Goals as goal

pub fit_text-requires : goal.fit_text-requires
fit_text-requires c = (tracks_text c.requires.1 _ c.in-Ok.is).room

pub returns-in-Ok : goal.returns-in-Ok
returns-in-Ok c = record { writes = λ f. writes_as (program_is f _ _ c.in-Ok.is) c.fit_text.ensures }

pub returns-in-Err : goal.returns-in-Err
returns-in-Err c = record { writes = λ f. writes_as (sym (refused_text f _ _ c.in-Err.is)) c.print_refusal.ensures }
