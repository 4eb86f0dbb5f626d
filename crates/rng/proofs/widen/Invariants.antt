-- `rng::widen` meets its contract. The loop has written the elements below i.
use mathlib.Core.Path.{◌≡◌}
use Prim.Native.Nat.{ℕ, ◌<◌}
use lib.ListN.{length, get_or}
use Rattle.rng.proofs.widen.Given as goal

abbrev pub invariant-loop-i : goal.invariant-loop-i
invariant-loop-i l = ((k : ℕ) → k < l.i → get_or l.to k 0 ≡ get_or l.nodes k 0) × (length l.to ≡ length l.initial.to)
