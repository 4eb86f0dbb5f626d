-- Tables of numbers in one list, row after row. Definitions only.
use Rattle.std.specs.Prelude.{ℕ, List, [], ◌∷◌, ◌++◌, map, Float}

-- The cells of f at rows and columns ns, row after row.
unfoldable pub rows_of : (ℕ → ℕ → Float) → List ℕ → List ℕ → List Float
rows_of f ns [] = []
rows_of f ns (i ∷ is) = map (f i) ns ++ rows_of f ns is

-- The table of f at the rows and columns ns.
unfoldable pub table_of : (ℕ → ℕ → Float) → List ℕ → List Float
table_of f ns = rows_of f ns ns
