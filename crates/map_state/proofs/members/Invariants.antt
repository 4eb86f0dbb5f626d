-- `map_state::members` meets its contract. The loop: the members so far, and those that are left, are all of them.
use mathlib.Core.Path.{◌≡◌}
use Prim.Native.Nat.{◌+◌}
use lib.ListN.{drop}
use Rattle.map_state.specs.MapState.{count}
use Rattle.map_state.proofs.members.Given as goal

abbrev pub invariant-loop-p : goal.invariant-loop-p
invariant-loop-p l = l.k + count l.g (drop l.p-index l.partition) ≡ count l.g l.partition
