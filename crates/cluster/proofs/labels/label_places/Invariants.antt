-- `cluster::labels::label_places` meets its contract. The loop has labelled the places below i, u of them nodes.
use mathlib.Core.Path.{◌≡◌}
use mathlib.Core.Bool.{true}
use Prim.Native.Nat.{ℕ, ◌+◌, ◌^◌, ◌<◌, ◌≤◌}
use lib.ListN.{length}
use Rattle.cluster.proofs.Walk.{Left, Walked}
use Rattle.cluster.proofs.labels.label_places.Given as goal

abbrev pub invariant-loop-i : goal.invariant-loop-i
invariant-loop-i l = (l.singles.end ≡ l.count + length l.initial.labels) × (l.nodes.iter.count + length l.nodes.iter.iter.rest.now < 2 ^ 64)
    × ((u : ℕ) × (u ≤ l.i-counter) × (l.single ≡ true → l.singles.start + u ≡ l.count + l.i-counter)
    × Left l.nodes-2 u l.nodes.peeked l.nodes.iter.iter.rest.now l.nodes.iter.count
    × Walked l.single l.nodes-2 l.groups l.labels (length l.initial.labels) u l.i-counter)
