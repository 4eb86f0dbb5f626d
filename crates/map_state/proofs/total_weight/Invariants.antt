-- `map_state::total_weight` meets its contract. The loop: the links of the nodes from u on, added to the sum so far, give the total.
use mathlib.Core.Path.{◌≡◌}
use Prim.Native.Nat.{◌-◌}
use Rattle.map_state.specs.Network.{total_from, total_weight}
use Rattle.map_state.proofs.total_weight.Given as goal

abbrev pub invariant-loop-u : goal.invariant-loop-u
invariant-loop-u l = total_from l.table.weights.now l.table.stride l.table.n l.t l.u (l.table.n - l.u) ≡ total_weight l.table.weights.now l.table.stride l.table.n
