-- `codelength::sum_modules` meets its contract. The loop: the nodes from v on, added to the sums so far, give the sums of the groups.
-- Kept: the check does not find what stands here, also with the lemmas named on the function.
use mathlib.Core.Path.{ap}
use native.Mathlib.Omega.{arith}
use borrow.Author.Rules.{rules}
use Rattle.map_state.specs.MapState.{MapState}
use Rattle.codelength.proofs.Sums.{sums_cleared}
use Rattle.codelength.proofs.sum_modules.Goals as goal

pub loop-v-init : goal.loop-v-init
loop-v-init c =
    let w = c.s.view_is in
    record {
      added = sums_cleared _ _ _ _ _ _ _ _ c.fill.new.self c.fill-2.new.self _ _ w (omega arith) c.partition-n.ensures.0 (search rules) (search rules);
      part = ap (λ (x : MapState). x.partition) w;
      same_q = ap (λ (x : MapState). x.q_sum) w;
    }
