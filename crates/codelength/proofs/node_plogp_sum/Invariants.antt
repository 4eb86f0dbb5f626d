-- `codelength::node_plogp_sum` meets its contract. The loop: what is left to add, added to the sum so far, is the whole sum.
use mathlib.Core.Path.{◌≡◌}
use lib.ListN.{drop}
use Rattle.float.specs.Binary64.{zero64}
use Rattle.codelength.specs.Codelength.{node_plogp_from}
use Rattle.codelength.proofs.node_plogp_sum.Given as goal

abbrev pub invariant-loop-s : goal.invariant-loop-s
invariant-loop-s l = node_plogp_from l.d l.a (drop l.s-index l.strength) ≡ node_plogp_from l.d zero64 l.strength
