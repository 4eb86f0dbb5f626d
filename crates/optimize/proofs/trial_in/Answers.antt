-- `optimize::trial_in` meets its contract.
-- Kept: the check does not find what stands here, also with the lemmas named on the function.
use mathlib.Core.Path.{◌≡◌, ap}
use lib.ListN.{length}
use Rattle.optimize.proofs.Start.{optimize_partition_is, last_visits_is}
use Rattle.optimize.proofs.trial_in.Goals as goal

pub returns : goal.returns
returns c =
    let net = c.args.net.now in
    let n = length c.strength.result.now in
    let k : n ≡ length net.strength = ap length c.strength.ensures.0 in
    record {
      run = optimize_partition_is net c.args.rng n k c.scatter.ensures c.from_partition.ensures c.run_rounds.ensures.0;
      visited = last_visits_is net c.args.rng n c.args.order.now k c.scatter.ensures c.from_partition.ensures c.run_rounds.ensures.1;
    }
