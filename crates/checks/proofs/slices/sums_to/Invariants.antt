-- `checks::slices::sums_to` meets its contract. The invariant: what is left of n and the lengths from k on are together what n and all lengths are.
use mathlib.Core.Path.{◌≡◌}
use Prim.Native.Nat.{◌+◌, ◌≤◌}
use lib.ListN.{drop}
use Rattle.trace.specs.Trace.{total}
use Rattle.checks.proofs.slices.sums_to.Given as goal

abbrev pub invariant-loop-len : goal.invariant-loop-len
invariant-loop-len l = (total l.lens + l.left ≡ l.n + total (drop l.len-index l.lens)) × (l.left ≤ l.n)
