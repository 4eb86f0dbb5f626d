-- `replay_case::fix_count` meets its contract: what is counted and what is left make the sum.
use Rattle.std.proofs.Common.{◌≡◌, ◌+◌, ◌≤◌, min, drop}
use Rattle.trace.specs.Trace.{total}
use Rattle.replay_case.proofs.fix_count.Given as goal

abbrev pub invariant-loop-len : goal.invariant-loop-len
invariant-loop-len l = record {
  sum : min (l.count + total (drop l.len-index l.lens)) 65537 ≡ min (total l.lens) 65537;
  small : l.count ≤ 65537;
}
