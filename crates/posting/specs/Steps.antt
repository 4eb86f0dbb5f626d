-- Serves the contracts of this crate's own functions; no public contract reaches it.
-- The sheet written fix by fix, as the code does.
use Rattle.std.specs.Prelude.{◌≡◌, ℕ, zero, suc, ◌+◌, ◌/◌, ◌%◌, ◌≤◌, ◌<◌, true, cond, List, [], ◌∷◌, ◌++◌, eqb, ℤ, length}
use Rattle.trace.specs.Trace.{total}
use Rattle.text.specs.Bytes.{space}
use Rattle.posting.specs.Sheet.{Entry, entry_line, heading, per_page}
use Rattle.posting.specs.Posted.{in_column, all_in_column}

-- The last digit of n.
abbrev pub last_digit : ℕ → ℕ
last_digit n = 48 + n % 10

-- What stands in a column in front of others, where n is the number up to this column: its last digit, or a space where there is none yet.
unfoldable pub front_digit : ℕ → ℕ
front_digit n = cond (eqb n 0) space (last_digit n)

-- w columns in front of others, in which n is written.
unfoldable pub front_columns : ℕ → ℕ → List ℕ
front_columns zero n = []
front_columns (suc w) n = front_columns w (n / 10) ++ (front_digit n ∷ [])

-- The lines that fix i of the sheet gives: the first of a page stands below a heading.
unfoldable pub lines_at : ℕ → Entry → List (List ℕ)
lines_at i e = cond (eqb (i % per_page) 0) (heading ∷ entry_line e ∷ []) (entry_line e ∷ [])

-- The lines of fixes of which the first is fix i of the sheet.
unfoldable pub lines_from : ℕ → List Entry → List (List ℕ)
lines_from i [] = []
lines_from i (e ∷ es) = lines_at i e ++ lines_from (suc i) es

-- Trace, fix and label stand within their columns.
pub record Within (t f : ℕ) (l : ℤ) : Type 0 where
  pub trace_within : t < 1000
  pub fix_within : f < 100000
  pub label_within : in_column l ≡ true

-- So do those of all fixes of a trace, i fixes being before them.
pub record TraceWithin (i t : ℕ) (labels : List ℤ) : Type 0 where
  pub few_traces : t < 1000
  pub few_fixes : i + length labels ≤ 65536
  pub labels_within : all_in_column labels ≡ true

-- So do those of all traces, whose lengths sum up to the labels.
pub record SheetWithin (lens : List ℕ) (labels : List ℤ) : Type 0 where
  pub few_traces : length lens ≤ 256
  pub few_fixes : length labels ≤ 65536
  pub sum : total lens ≡ length labels
  pub labels_within : all_in_column labels ≡ true
