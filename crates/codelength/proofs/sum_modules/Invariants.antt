-- `codelength::sum_modules` meets its contract. The loop: the nodes from v on, added to the sums so far, give the sums of the groups.
use mathlib.Core.Path.{◌≡◌}
use Prim.Native.Nat.{◌-◌}
use lib.ListN.{length}
use Rattle.codelength.specs.Codelength.{add_nodes_from, module_sums}
use Rattle.codelength.specs.Steps.{sums_in}
use Rattle.codelength.proofs.sum_modules.Given as goal

abbrev pub invariant-loop-v : goal.invariant-loop-v
invariant-loop-v l = record {
  added : add_nodes_from l.net l.fn.s.partition (sums_in l.s) l.v (length l.fn.s.partition - l.v) ≡ module_sums l.net l.fn.s.partition;
  part : l.s.partition ≡ l.fn.s.partition;
  same_q : l.s.q_sum ≡ l.fn.s.q_sum;
}
