-- `float::Small::count_up` meets its contract: r * r + d stays m * 2 ^ 54, and d falls.
use mathlib.Core.Path.{◌≡◌}
use Prim.Native.Nat.{◌+◌, ◌*◌, ◌^◌}
use Rattle.float.proofs.Small.count_up.Given as goal

abbrev pub invariant-loop-r : goal.invariant-loop-r
invariant-loop-r l = l.r * l.r + l.d ≡ l.fn.self.m * 2 ^ 54

abbrev pub decreases-loop-r : goal.decreases-loop-r
decreases-loop-r l = l.d
