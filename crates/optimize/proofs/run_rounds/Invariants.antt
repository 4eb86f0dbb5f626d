-- `optimize::run_rounds` meets its contract. The loop: the rounds that are left, from the state so far, give the whole run. Numbers grow by 512 a round.
use mathlib.Core.Path.{◌≡◌}
use mathlib.Core.Bool.{true}
use Prim.Native.Nat.{◌+◌, ◌-◌, ◌*◌}
use lib.ListN.{length}
use Rattle.optimize.specs.Rounds.{run_rounds}
use Rattle.optimize.specs.Steps.{run_of, last_visits_from, AtMost}
use Rattle.optimize.proofs.run_rounds.Given as goal

abbrev pub invariant-loop : goal.invariant-loop
invariant-loop l = record {
  left : run_rounds l.net (100 - l.counter) true (run_of l.s l.r) ≡ run_rounds l.net 100 true (run_of l.fn.s l.fn.r);
  visits : last_visits_from l.net (100 - l.counter) true (run_of l.s l.r) l.order ≡ last_visits_from l.net 100 true (run_of l.fn.s l.fn.r) l.fn.order;
  long : length l.s.partition ≡ length l.fn.s.partition;
  room : length l.order ≡ length l.fn.order;
  count : l.r.rounds ≡ l.counter;
  most : AtMost (512 + 512 * l.counter) l.s.partition;
}
