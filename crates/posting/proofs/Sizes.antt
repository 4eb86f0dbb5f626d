-- How long a sheet is: 14 bytes for each fix and for each page.
use mathlib.Core.Path.{◌≡◌, ap, ◌∙◌}
use mathlib.Core.List.{List}
use Prim.Native.Nat.{ℕ, ◌+◌, ◌*◌, ◌≤◌}
use native.Mathlib.Omega.{arith}
use lib.IntN.{ℤ}
use lib.ListN.{length}
use Rattle.lists.proofs.Items.{All}
use Rattle.posting.specs.Sheet.{entries, page_count, sheet}
use Rattle.posting.specs.Steps.{SheetWithin, lines_from}
use Rattle.posting.proofs.Pages.{sheet_lines}
use Rattle.posting.proofs.EntryPlaces.{entries_length, entries_within}
use Rattle.posting.proofs.EntryLines.{Line}
use Rattle.posting.proofs.LinePlaces.{lines_all, lines_count, flat_long}

module _ (lens : List ℕ) (labels : List ℤ) (w : SheetWithin lens labels) where
  pub all_lines : All Line (lines_from 0 (entries 0 lens labels))
  all_lines = lines_all 0 (entries 0 lens labels) (entries_within lens labels w)

  pub line_count : length (lines_from 0 (entries 0 lens labels)) ≡ length labels + page_count (length labels)
  unfolding page_count
  line_count = let n = entries_length 0 lens labels w.sum in omega (arith, lines_count 0 (entries 0 lens labels))

  pub sheet_long : length (sheet lens labels) ≡ 14 * (length labels + page_count (length labels))
  sheet_long = ap length (sheet_lines lens labels) ∙ flat_long (lines_from 0 (entries 0 lens labels)) all_lines ∙ ap (λ (n : ℕ). 14 * n) line_count

  pub sheet_short : length labels ≤ 768 → length (sheet lens labels) ≤ 49152
  unfolding page_count
  sheet_short h = let n = sheet_long in omega arith
