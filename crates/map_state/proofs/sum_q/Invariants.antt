-- `map_state::sum_q` meets its contract. The loop: the groups whose lowest member is v or higher, added to the sum so far, give Q.
use mathlib.Core.Path.{◌≡◌}
use Prim.Native.Nat.{◌-◌}
use lib.ListN.{length}
use Rattle.map_state.specs.MapState.{sum_q_from, sum_q}
use Rattle.map_state.proofs.sum_q.Given as goal

abbrev pub invariant-loop-v : goal.invariant-loop-v
invariant-loop-v l = sum_q_from l.d l.partition l.exits l.a l.v (length l.partition - l.v) ≡ sum_q l.d l.partition l.exits
