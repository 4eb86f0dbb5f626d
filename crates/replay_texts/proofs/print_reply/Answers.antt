-- `replay_texts::print_reply` is safe: no more bytes are written than there is room for.
-- Kept: the check does not find what stands here, also with the lemmas named on the function.
use Rattle.std.proofs.Common.{ℕ, arith, length-take-le}
use lib.ListN.{length-replicate}
use Rattle.print.proofs.Sizes.{within}
use Rattle.replay_texts.proofs.print_reply.Goals as goal

pub slice_bounds-out-end : goal.slice_bounds-out-end
slice_bounds-out-end c =
    omega (arith, within _ _ _ _ c.reply-n.ensures, c.reply-n.auto.out, length-replicate {A = ℕ} 49152 0)

pub slice_bounds-write_all-end : goal.slice_bounds-write_all-end
slice_bounds-write_all-end c =
    omega (arith, within _ _ _ _ c.reply-n.ensures, c.reply-n.auto.out, length-replicate {A = ℕ} 49152 0, length-take-le {A = ℕ})
