-- `replay_case::read_lens` meets its contract: the lengths so far are read.
use Rattle.std.proofs.Common.{◌≡◌}
use Rattle.replay.specs.Numbers.{number_at, past}
use Rattle.replay_case.specs.Case.{length_of, filled}
use Rattle.replay_case.proofs.read_lens.Given as goal

abbrev pub invariant-loop-len : goal.invariant-loop-len
invariant-loop-len l = record {
  lens_read : l.len-items ≡ filled (λ n. length_of (number_at l.fn.list.text.now l.fn.list.at n)) l.len-index l.fn.lens;
  place : l.list ≡ past l.fn.list l.len-index;
}
