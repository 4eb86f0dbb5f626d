-- `reply::reply` meets its contract.
-- Kept: the check does not find what stands here, also with the lemmas named on the function.
use Rattle.reply.proofs.Columns.{from_text}
use Rattle.reply.proofs.reply.Goals as goal

pub answer-requires : goal.answer-requires
answer-requires c =
    (c.args.text.now, from_text c.filled-read.ensures c.tracks.ensures (c.finish-p.ensures.end (c.feed-r.ensures.more (c.start.ensures.start _))))

pub returns : goal.returns
returns c =
    c.answer.ensures.writes
    (from_text c.filled-read.ensures c.tracks.ensures (c.finish-p.ensures.end (c.feed-r.ensures.more (c.start.ensures.start _))))
