-- The check of a posting sheet: what it ensures where it accepts, and its last part as the code makes it.
use mathlib.Core.Path.{◌≡◌, refl, ap, ◌∙◌}
use mathlib.Core.Bool.{Bool, true, false, not, ◌||◌}
use mathlib.Core.List.{List}
use Prim.Native.Nat.{ℕ, ◌+◌, ◌*◌, ◌≤◌, ◌<◌}
use native.Mathlib.Omega.{arith}
use borrow.Author.Tests.{le-ltb, ltb-false, not-false, eq-eqb, ne_eqb}
use lib.Dec.{ltb}
use lib.IntN.{ℤ}
use lib.ListN.{length}
use Rattle.lists.proofs.Tests.{eqb_self, or_left, or_right, or_true}
use Rattle.settings.specs.declared.refusal.Refusal.TheVariants.{Output}
use Rattle.std.specs.Prelude.{Ok}
use Rattle.settings.specs.Checks.{refuse_if, first_of, in_turn}
use Rattle.settings.proofs.Turns.{passed, first_alone, turn_first, turn_rest}
use Rattle.trace.specs.Trace.{total}
use Rattle.checks.specs.Tracks.{same_lengths, check_lengths, check_label_lengths, check_counts}
use Rattle.checks.proofs.Lengths.{lengths_agree, counts_few}
use Rattle.posting.specs.Sheet.{sheet, page_count}
use Rattle.posting.specs.Posted.{all_in_column, check_sheet}
use Rattle.posting.specs.Steps.{SheetWithin}
use Rattle.posting.proofs.Sizes.{sheet_long}

module _ (lens : List ℕ) (labels : List ℤ) where
  pub within : check_label_lengths lens (length labels) ≡ Ok tt → check_counts (length lens) (length labels) 1 ≡ Ok tt → all_in_column labels ≡ true
      → SheetWithin lens labels
  within a b h =
      let n = length labels in
      let counted = counts_few (length lens) n 1 b in
      record { few_traces = counted.few_traces; few_fixes = counted.few_fixes; sum = (lengths_agree lens n n n n n a).sum; labels_within = h }

  -- ---- 21, as the code finds it: first by the labels, then by the length of the sheet
  or_false : (c : Bool) → (c || false) ≡ c
  or_false true = refl
  or_false false = refl

  module _ (room : ℕ) where
    abbrev pub short : Bool
    short = ltb room (14 * (length labels + page_count (length labels)))

    -- Where lengths and counts are accepted it decides.
    pub by_output : check_label_lengths lens (length labels) ≡ Ok tt → check_counts (length lens) (length labels) 1 ≡ Ok tt
        → check_sheet lens labels room ≡ refuse_if (not (all_in_column labels) || short) Output
    unfolding check_sheet in_turn first_of refuse_if
    by_output a b = rw (a, b) (go (all_in_column labels) refl)
      where
        go : (t : Bool) → all_in_column labels ≡ t
            → first_of (refuse_if (ltb room (length (sheet lens labels)) || not t) Output) (Ok tt) ≡ refuse_if (not t || short) Output
        go true h = rw (sheet_long lens labels (within a b h)) (first_alone (refuse_if (short || false) Output) ∙ ap (λ (c : Bool). refuse_if c Output) (or_false short))
        go false h = rw (or_true (ltb room (length (sheet lens labels))) true refl) refl

    -- Traces and labels within the limits, and room for the sheet, are enough.
    pub sheet_given : 0 < length lens → SheetWithin lens labels → 14 * (length labels + page_count (length labels)) ≤ room → check_sheet lens labels room ≡ Ok tt
    unfolding check_sheet check_lengths same_lengths check_counts in_turn first_of refuse_if
    sheet_given some w h =
        rw (
          ne_eqb (length lens) 0 (λ e. omega arith),
          eqb_self (length labels),
          eq-eqb (total lens) (length labels) w.sum,
          le-ltb 256 (length lens) w.few_traces,
          le-ltb 65536 (length labels) w.few_fixes,
          le-ltb room (length (sheet lens labels)) (rw (sheet_long lens labels w) h),
          w.labels_within,
        )
        refl

-- ---- where all is accepted
module _ (lens : List ℕ) (labels : List ℤ) (room : ℕ) (h : check_sheet lens labels room ≡ Ok tt) where
  output_passed : (ltb room (length (sheet lens labels)) || not (all_in_column labels)) ≡ false
  unfolding check_sheet
  output_passed = passed _ Output (turn_first _ _ (turn_rest _ _ (turn_rest _ _ h)))

  pub sheet_within : SheetWithin lens labels
  unfolding check_sheet
  sheet_within =
      within lens labels (turn_first _ _ h) (turn_first _ _ (turn_rest _ _ h))
      (not-false (all_in_column labels) (or_right (ltb room (length (sheet lens labels))) (not (all_in_column labels)) output_passed))

  pub sheet_room : length (sheet lens labels) ≤ room
  sheet_room = ltb-false room (length (sheet lens labels)) (or_left (ltb room (length (sheet lens labels))) (not (all_in_column labels)) output_passed)
