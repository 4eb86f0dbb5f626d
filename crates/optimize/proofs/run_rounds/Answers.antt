-- `optimize::run_rounds` meets its contract. The loop: the rounds that are left, from the state so far, give the whole run. Numbers grow by 512 a round.
-- Kept: the check does not find what stands here, also with the lemmas named on the function.
use mathlib.Core.Path.{◌∙◌, ap}
use native.Mathlib.Omega.{arith}
use Prim.Native.Nat.{◌+◌, ◌*◌, ◌≤◌}
use lib.ListN.{length}
use Rattle.optimize.specs.Rounds.{Run}
use Rattle.optimize.specs.Steps.{run_of}
use Rattle.optimize.proofs.Numbers.{at_most_more}
use Rattle.optimize.proofs.Rounds.{rounds_on, run_at_most, run_counts, visits_on, round_length}
use Rattle.optimize.proofs.run_rounds.Goals as goal

pub loop-preserved : goal.loop-preserved
loop-preserved c =
    let net = c.args.net.now in
    let l = c.loop in
    let v = l.invariant in
    let r = run_of l.s l.r in
    let e = c.round.ensures.0 in
    let few : length net.strength ≤ 512 = omega (arith, c.requires.0.0, c.requires.0.1, c.requires.0.2) in record {
      left = rounds_on net l.counter r v.left (omega (arith, c.loop-test.true)) e c.if-not-r.false;
      visits = visits_on net l.counter r l.order v.visits (omega (arith, c.loop-test.true)) e c.if-not-r.false c.round.ensures.1;
      long = ap (λ (x : Run). length x.state.partition) e ∙ round_length net r ∙ v.long;
      room = c.round.auto.order ∙ v.room;
      count = omega (arith, run_counts net r e, v.count);
      most = at_most_more (512 + 512 * l.counter + length net.strength) _ c.round.new.s.partition (omega (arith, few)) (run_at_most (512 + 512 * l.counter) net r e v.most);
    }
