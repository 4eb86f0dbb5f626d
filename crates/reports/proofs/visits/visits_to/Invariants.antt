-- `reports::visits::visits_to` meets its contract. The loop: the visits so far, and those at the labels that are left, are all of them.
use mathlib.Core.Path.{◌≡◌}
use Prim.Native.Nat.{◌+◌}
use lib.ListN.{drop}
use Rattle.reports.specs.Visits.{visits_to}
use Rattle.reports.proofs.visits.visits_to.Given as goal

abbrev pub invariant-loop-k : goal.invariant-loop-k
invariant-loop-k l = l.n + visits_to (drop l.k-index l.labels) l.l ≡ visits_to l.labels l.l
