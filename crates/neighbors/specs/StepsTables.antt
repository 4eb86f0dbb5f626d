-- Serves the contracts of this crate's own functions; no public contract reaches it.
-- The table of weights while it is filled, and made one of the nodes' rows and columns. Definitions only.
use Rattle.std.specs.Prelude.{◌≡◌, ℕ, ◌+◌, ◌*◌, ◌<◌, ◌≤◌, Bool, List, length, get_or, Float}
use Rattle.std.specs.Float.{nan}
use Rattle.std.specs.Float.Ieee.{lt}
use Rattle.lists.specs.Lists.{upto, any_of, select}
use Rattle.float.specs.Binary64.{zero64}
use Rattle.neighbors.specs.Places.{Place}
use Rattle.distance.specs.Distance.{Metric}
use Rattle.neighbors.specs.Links.{weight}

-- The first k cells of a table of n columns are those of f.
unfoldable pub Tabled : (ℕ → ℕ → Float) → ℕ → List Float → ℕ → Type 0
Tabled f n t k = (a b : ℕ) → a < n → b < n → a * n + b < k → get_or t (a * n + b) nan ≡ f a b

-- Whether row i of a table of n columns has a weight above 0.
unfoldable pub has_weight : ℕ → List Float → ℕ → Bool
has_weight n t i = any_of (λ j. lt zero64 (get_or t (i * n + j) nan)) (upto n)

-- The rows of n that have one.
unfoldable pub rows_with_weight : ℕ → List Float → List ℕ
rows_with_weight n t = select (has_weight n t) (upto n)

-- A table for the weights of all pairs of at most 512 places.
pub record Square (ps : List Place) (t : List Float) : Type 0 where
  pub cells : length t ≡ length ps * length ps
  pub few : length ps ≤ 512

-- Row numbers below n, each at least its own place in the list, as in a list that rises.
pub record RowNumbers (n : ℕ) (ns : List ℕ) : Type 0 where
  pub few : length ns ≤ n
  pub above : (u : ℕ) → u < length ns → u ≤ get_or ns u 0
  pub below : (u : ℕ) → u < length ns → get_or ns u 0 < n

-- A table t of n columns becomes a table s of the rows and columns ns: the first k cells of s are theirs, and the others are t's.
pub record Compacted (n : ℕ) (ns : List ℕ) (t s : List Float) (k : ℕ) : Type 0 where
  pub moved : Tabled (λ u v. get_or t (get_or ns u 0 * n + get_or ns v 0) nan) (length ns) s k
  pub rest : (i : ℕ) → k ≤ i → get_or s i nan ≡ get_or t i nan

-- Row u of the nodes' cells is moved too: whatever the table t was at first, its first u + 1 rows of nodes stand in front.
abbrev pub RowMoved : ℕ → List ℕ → ℕ → List Float → List Float → Type 0
RowMoved n ns u s s' = (t : List Float) → Compacted n ns t s (u * length ns) → Compacted n ns t s' ((u + 1) * length ns)

-- The first k cells are the weights of the pairs of places.
abbrev pub Weighted : Metric → Float → List Place → List Float → ℕ → Type 0
Weighted dist r2 ps t k = Tabled (weight dist r2 ps) (length ps) t k

-- A table of weights whose rows before row i are filled.
abbrev pub RowsFilled : Metric → Float → List Place → List Float → ℕ → Type 0
RowsFilled dist r2 ps t i = Square ps t × (i < length ps) × Weighted dist r2 ps t (i * length ps)
