-- A call for the posting sheet: what it refuses, what it hands back, and how the output slice ends (docs/RULES.md, "Posting sheet"). Definitions only.
use Rattle.std.specs.Prelude.{ℕ, Bool, true, not, ◌&&◌, ◌||◌, List, [], ◌∷◌, eqb, leb, ltb, ℤ, pos, negsuc, length, Result, Ok, Err}
use Rattle.lists.specs.Lists.{overlay}
use Rattle.settings.specs.declared.refusal.Refusal.{Refusal}
use Rattle.settings.specs.declared.refusal.Refusal.TheVariants.{Output}
use Rattle.settings.specs.Checks.{Checked, refuse_if, in_turn}
use Rattle.checks.specs.Tracks.{check_label_lengths, check_counts}
use Rattle.posting.specs.Sheet.{sheet}

-- A label from -1 to 511.
unfoldable pub in_column : ℤ → Bool
in_column (pos n) = leb n 511
in_column (negsuc n) = eqb n 0

unfoldable pub all_in_column : List ℤ → Bool
all_in_column [] = true
all_in_column (l ∷ ls) = in_column l && all_in_column ls

-- "7, 8, 9, then 21 for a short output or a label outside -1 to 511." `room` is the length of the output slice. `places` is not given, so 9 passes it over.
unfoldable pub check_sheet : List ℕ → List ℤ → ℕ → Checked
check_sheet lens labels room =
    in_turn
    (check_label_lengths lens (length labels)
    ∷ check_counts (length lens) (length labels) 1
    ∷ refuse_if (ltb room (length (sheet lens labels)) || not (all_in_column labels)) Output
    ∷ [])

-- How a call ends: what it hands back, and what the output slice then holds.
pub record Ends : Type 0 where
  pub answer : Result ℕ Refusal
  pub output : List ℕ

abbrev pub ends : Result ℕ Refusal → List ℕ → Ends
ends r out = record { answer = r; output = out }

-- The text in front of the output slice, which keeps its contents past it, and how many bytes that is; a refusal leaves the slice as it was.
unfoldable pub ends_by : Checked → List ℕ → List ℕ → Ends
ends_by (Ok x) text out = ends (Ok (length text)) (overlay text out)
ends_by (Err e) text out = ends (Err e) out

unfoldable pub post_sheet : List ℕ → List ℤ → List ℕ → Ends
post_sheet lens labels out = ends_by (check_sheet lens labels (length out)) (sheet lens labels) out
