-- The number of labels, node by node.
use mathlib.Core.Path.{◌≡◌, sym, ◌∙◌}
use mathlib.Core.List.{List, [], ◌∷◌}
use Prim.Native.Nat.{ℕ, zero, suc, ◌+◌, ◌<◌, ◌≤◌, max}
use native.Mathlib.Nat.{le-max_left, le-max_right, max-le, max-zero, zero-max}
use native.Mathlib.Numerals.{add-one}
use native.Mathlib.Decide.{dec_lt}
use native.Mathlib.Omega.{arith}
use lib.ListN.{length, get_or, get_or-eq_default}
use Rattle.std.specs.List.{fold}
use Rattle.lists.proofs.Tests.{max_assoc}
use Rattle.cluster.specs.Cluster.{label_count}

fold_from : (gs : List ℕ) (m : ℕ) → fold (λ a l. max a (l + 1)) m gs ≡ max m (label_count gs)
unfolding label_count
fold_from [] m = sym (max-zero m)
fold_from (l ∷ ls) m = fold_from ls (max m (l + 1)) ∙ rw (add-one l) (max_assoc m (suc l) (label_count ls))

pub label_count_fold : (gs : List ℕ) → label_count gs ≡ fold (λ a l. max a (l + 1)) 0 gs
label_count_fold gs = sym (fold_from gs 0 ∙ zero-max (label_count gs))

-- A label is below their number.
pub label_lt : (ls : List ℕ) (u : ℕ) → u < length ls → get_or ls u 0 < label_count ls
unfolding label_count
label_lt [] u h = absurd (omega arith)
label_lt (l ∷ ls) zero h = let a = le-max_left (suc l) (label_count ls) in omega arith
label_lt (l ∷ ls) (suc u) h = let a = le-max_right (suc l) (label_count ls) in let b = label_lt ls u (omega arith) in omega arith

-- What is read past the labels is not above it.
pub label_le : (ls : List ℕ) (u : ℕ) → get_or ls u 0 ≤ label_count ls
label_le ls u = go (dec_lt u (length ls))
  where
    go : Dec (u < length ls) → get_or ls u 0 ≤ label_count ls
    go (yes h) = let a = label_lt ls u h in omega arith
    go (no h) = let a = get_or-eq_default ls 0 {n = u} (omega arith) in omega arith

-- Where all labels are below m, their number is at most m.
pub count_le : (ls : List ℕ) (m : ℕ) → ((u : ℕ) → u < length ls → get_or ls u 0 < m) → label_count ls ≤ m
unfolding label_count
count_le [] m h = omega arith
count_le (l ∷ ls) m h = max-le (let a = h 0 (omega arith) in omega arith) (count_le ls m (λ u k. h (suc u) (omega arith)))
