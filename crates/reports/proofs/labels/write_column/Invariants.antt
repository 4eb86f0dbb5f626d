-- `reports::labels::write_column` meets its contract.
use mathlib.Core.Path.{◌≡◌}
use mathlib.Core.List.{map}
use Prim.Native.Nat.{ℕ, ◌<◌}
use lib.ListN.{take}
use Rattle.lists.specs.Lists.{upto}
use Rattle.reports.proofs.labels.write_column.Given as goal

abbrev pub invariant-loop-l : goal.invariant-loop-l
invariant-loop-l g l = (h : ℕ → g.row.T.Denot) → ((k : ℕ) (v : g.row.T.Denot) → k < l.count → goal.F-post g l.f k v → v ≡ h k) → take l.l l.x-items ≡ take l.l (map h (upto l.count))
