-- What the sheet's laws speak of: its lines, what a reader reads off one, and where the line of a fix stands. Definitions only; the laws are in posting/proofs/Laid.antt.
use Rattle.std.specs.Prelude.{◌≡◌, ℕ, zero, suc, ◌+◌, ◌*◌, ◌/◌, ◌<◌, true, false, cond, List, [], ◌∷◌, eqb, ℤ, pos, negsuc, length, take, drop, get_or}
use Rattle.std.proofs.Math.Option.{Option, none, some, bind}
use Rattle.text.specs.Bytes.{line_feed, space}
use Rattle.text.specs.Fields.{Field, number, dash, bad, field_of}
use Rattle.trace.specs.Trace.{total}
use Rattle.posting.specs.Sheet.{Entry, entry, heading, per_page, page_count, sheet}

-- Line k of a text whose lines have 14 bytes, counted from 0.
abbrev pub line_at : ℕ → List ℕ → List ℕ
line_at k s = take 14 (drop (14 * k) s)

-- ---- a line, read by its columns

unfoldable pub without_spaces : List ℕ → List ℕ
without_spaces [] = []
without_spaces (b ∷ bs) = let r = without_spaces bs in cond (eqb b space) r (b ∷ bs)

-- The field in the w columns from column a on; spaces in front do not count.
abbrev pub field_in : ℕ → ℕ → List ℕ → Field
field_in a w l = field_of (without_spaces (take w (drop a l)))

-- The number that a field says, and the label.
unfoldable pub number_in : Field → Option ℕ
number_in (number false n) = some n
number_in (number true n) = none
number_in dash = none
number_in bad = none

unfoldable pub label_in : Field → Option ℤ
label_in (number false n) = some (pos n)
label_in (number true zero) = none
label_in (number true (suc n)) = some (negsuc n)
label_in dash = none
label_in bad = none

-- Trace, fix and label of a line: in columns 0 to 2, 4 to 8 and 10 to 12.
unfoldable pub read_entry : List ℕ → Option Entry
read_entry l =
    bind (number_in (field_in 0 3 l)) (λ (t : ℕ). bind (number_in (field_in 4 5 l)) (λ (f : ℕ). bind (label_in (field_in 10 3 l)) (λ (z : ℤ). some (entry t f z))))

-- ---- the sheet

-- The line of fix i of the sheet, counted from 0: above it stand the fixes before it, and a heading for each page up to its own.
abbrev pub line_of : ℕ → ℕ
line_of i = i + i / per_page + 1

-- Fix f of trace t, counted over all traces: behind the fixes of the traces before.
abbrev pub fix_number : List ℕ → ℕ → ℕ → ℕ
fix_number lens t f = total (take t lens) + f

pub record Laid (lens : List ℕ) (labels : List ℤ) : Type 0 where
  -- "The length must be 14 × (fixes + pages)", and every 14th byte is a line feed.
  pub long : length (sheet lens labels) ≡ 14 * (length labels + page_count (length labels))
  pub feeds : (k : ℕ) → k < length labels + page_count (length labels) → get_or (sheet lens labels) (14 * k + 13) 0 ≡ line_feed
  -- Each page starts with its heading: one line and 60 lines of fixes are a page.
  pub headings : (p : ℕ) → p < page_count (length labels) → line_at ((1 + per_page) * p) (sheet lens labels) ≡ heading
  -- Each other line reads back to its trace, fix and label, in the order of the fixes.
  pub lines : (t f : ℕ) → t < length lens → f < get_or lens t 0
      → read_entry (line_at (line_of (fix_number lens t f)) (sheet lens labels)) ≡ some (entry t f (get_or labels (fix_number lens t f) (pos 0)))
