-- `text::parse` meets its contract.
-- Kept: the check does not find what stands here, also with the lemmas named on the function.
use Rattle.std.proofs.Common.{sym, ◌∙◌}
use Rattle.text.proofs.Pieces.{parses_whole}
use Rattle.text.proofs.parse.Goals as goal

pub returns : goal.returns
returns c =
    parses_whole (c.feed.ensures.more (c.start.ensures.start _)) (sym c.in_ok-input.was ∙ c.verdict.ensures)
