-- `rng::fill` meets its contract. The loop has written the numbers below i.
use mathlib.Core.Path.{◌≡◌}
use Prim.Native.Nat.{ℕ, ◌<◌}
use lib.ListN.{length, get_or}
use Rattle.rng.proofs.fill.Given as goal

abbrev pub invariant-loop-i : goal.invariant-loop-i
invariant-loop-i g l = ((k : ℕ) (d : _) → k < l.i → g.T.From.from_gives k (get_or l.s k d)) × (length l.s ≡ length l.initial.s)
