-- `map_state::add_weights` meets its contract. The loop: what is left to add, added to the sum so far, is the whole sum.
use mathlib.Core.Path.{◌≡◌}
use lib.ListN.{drop}
use Rattle.map_state.specs.Network.{add_weights}
use Rattle.map_state.proofs.add_weights.Given as goal

abbrev pub invariant-loop-w : goal.invariant-loop-w
invariant-loop-w l = add_weights l.a (drop l.w-index l.row) ≡ add_weights l.start l.row
