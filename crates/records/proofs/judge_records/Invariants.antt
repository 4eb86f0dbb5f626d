-- `records::judge_records` meets its contract.
use Rattle.std.proofs.Common.{◌≡◌, drop}
use Rattle.records.specs.StepsJudge.{started, run}
use Rattle.records.proofs.judge_records.Given as goal

abbrev pub invariant-loop-f : goal.invariant-loop-f
invariant-loop-f l = run l.lens l.judge (drop l.f-index l.fixes) ≡ run l.lens (started l.lens) l.fixes
