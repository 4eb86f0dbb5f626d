-- `map_state::renew_first` meets its contract. The loop has given the members below v the number, and the others keep theirs.
use mathlib.Core.Path.{◌≡◌}
use mathlib.Core.Bool.{cond}
use Prim.Native.Nat.{ℕ, ◌≤◌, ◌<◌}
use lib.Dec.{eqb}
use lib.ListN.{length, get_or}
use Rattle.map_state.proofs.renew_first.Given as goal

abbrev pub invariant-loop-v : goal.invariant-loop-v
invariant-loop-v l = record {
  given : (k : ℕ) → k < l.v → get_or l.first k 0 ≡ cond (eqb (get_or l.partition k 0) l.g) l.a (get_or l.initial.first k 0);
  kept : (k : ℕ) → l.v ≤ k → get_or l.first k 0 ≡ get_or l.initial.first k 0;
  long : length l.first ≡ length l.initial.first;
}
