-- Serves the contracts of this crate's own functions; no public contract reaches it.
-- The checks of tracks for a fit and for a report in one. Definitions only.
use Rattle.std.specs.Prelude.{ℕ, List, [], ◌∷◌, length, Float}
use Rattle.settings.specs.Checks.{Checked, in_turn}
use Rattle.checks.specs.Tracks.{check_lengths, check_counts, check_work, check_contents}

-- The checks of tracks in order, where 9 takes `counted` for the number of places and 10 takes `places`.
unfoldable pub check_columns : List Float → List Float → List Float → List ℕ → List ℕ → ℕ → ℕ → ℕ → ℕ → ℕ → Checked
check_columns xs ys ts ms lens labels counted places floats words =
    in_turn
    (check_lengths lens (length xs) (length ys) (length ts) (length ms) labels
    ∷ check_counts (length lens) (length xs) counted
    ∷ check_work (length xs) places floats words
    ∷ check_contents xs ys ts ms lens
    ∷ [])
