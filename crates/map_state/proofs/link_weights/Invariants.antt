-- `map_state::link_weights` meets its contract. The loop: what is left to add, added to the weights so far, is the whole.
use mathlib.Core.Path.{◌≡◌}
use lib.ListN.{drop}
use Rattle.map_state.specs.MapState.{link_weights_from, link_weights}
use Rattle.map_state.proofs.link_weights.Given as goal

abbrev pub invariant-loop-v : goal.invariant-loop-v
invariant-loop-v l = link_weights_from l.g l.h l.l (drop l.v l.row.partition.now) (drop l.v l.row.weights.now) ≡ link_weights l.g l.h l.row.partition.now l.row.weights.now
