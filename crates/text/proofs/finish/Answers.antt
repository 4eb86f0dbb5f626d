-- `text::finish` meets its contract.
-- Kept: the check does not find what stands here, also with the lemmas named on the function.
use Rattle.std.proofs.Common.{sym, ◌∙◌}
use Rattle.text.specs.Pieces.{finished_if, finished}
use Rattle.text.proofs.Pieces.{fed_end}
use Rattle.text.proofs.finish.Goals as goal

pub returns-then-not-ended : goal.returns-then-not-ended
unfolding finished finished_if
returns-then-not-ended c = fed_end (sym (rw (← c.ended.ensures, c.if-not-ended.true)))

pub returns : goal.returns
unfolding finished finished_if
returns c =
    fed_end (c.at_most_768.ensures ∙ sym (rw (← c.ended.ensures, c.if-not-ended.false, ← c.config.ensures)))
