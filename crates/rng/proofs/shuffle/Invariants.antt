-- `rng::shuffle` meets its contract. The loop has still to swap the items below i: the whole shuffle is what is left of it.
use mathlib.Core.Path.{◌≡◌}
use Prim.Native.Nat.{◌-◌, ◌≤◌}
use lib.ListN.{length}
use Rattle.rng.specs.Rng.{shuffle_from, shuffle}
use Rattle.rng.proofs.shuffle.Given as goal

abbrev pub invariant-loop-i : goal.invariant-loop-i
invariant-loop-i l = (shuffle l.rng l.initial.s ≡ shuffle_from (l.i - 1) l.x l.s) × (length l.s ≡ length l.initial.s) × (l.i ≤ length l.initial.s)
