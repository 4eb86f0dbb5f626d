-- `infomap::relabel_dense` meets its contract. The loop has labelled the nodes below v, and `next` counts the groups whose first member is below v.
use mathlib.Core.Path.{◌≡◌}
use Prim.Native.Nat.{ℕ, ◌<◌}
use lib.ListN.{length, get_or}
use Rattle.infomap.specs.Infomap.{rank}
use Rattle.infomap.proofs.Labels.{label_at}
use Rattle.infomap.proofs.relabel_dense.Given as goal

abbrev pub invariant-loop-v : goal.invariant-loop-v
invariant-loop-v l = ((k : ℕ) → k < l.v → get_or l.labels k 0 ≡ label_at l.partition k) × (l.next ≡ rank l.partition l.v) × (length l.labels ≡ length l.initial.labels)
