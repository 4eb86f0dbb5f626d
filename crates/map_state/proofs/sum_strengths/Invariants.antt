-- `map_state::sum_strengths` meets its contract. The loop has written the strengths of the nodes below u.
use mathlib.Core.Path.{◌≡◌}
use Prim.Native.Nat.{ℕ, ◌<◌}
use lib.ListN.{length, get_or}
use lib.Ieee.{nan}
use Rattle.float.specs.Binary64.{zero64}
use Rattle.map_state.specs.Network.{add_weights, row_at}
use Rattle.map_state.proofs.sum_strengths.Given as goal

abbrev pub invariant-loop-u : goal.invariant-loop-u
invariant-loop-u l =
    ((k : ℕ) → k < l.u → get_or l.strength k nan ≡ add_weights zero64 (row_at l.table.weights.now l.table.stride l.table.n k)) × (length l.strength ≡ l.table.n)
