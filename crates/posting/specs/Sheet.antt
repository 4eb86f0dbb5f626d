-- The posting sheet (docs/RULES.md, "Posting sheet"): the labels of all fixes laid out as bytes. Definitions only.
use Rattle.std.specs.Prelude.{ℕ, suc, ◌+◌, ◌-◌, ◌*◌, ◌/◌, ℤ, length, take, drop, replicate}
use mathlib.Core.List.{List, [], ◌∷◌, ◌++◌, map, flatten}
use Rattle.lists.specs.Lists.{upto}
use Rattle.text.specs.Bytes.{bytes, line_feed, space}
use Rattle.print.specs.Lines.{decimal, label_text}

-- A fix as the sheet shows it: its trace, its number within the trace, and its label.
pub record Entry : Type 0 where
  pub trace : ℕ
  pub fix : ℕ
  pub label : ℤ

abbrev pub entry : ℕ → ℕ → ℤ → Entry
entry t f l = record { trace = t; fix = f; label = l }

-- The fixes of trace t from its fix f on, which have these labels.
unfoldable pub trace_entries : ℕ → ℕ → List ℤ → List Entry
trace_entries t f [] = []
trace_entries t f (l ∷ ls) = entry t f l ∷ trace_entries t (suc f) ls

-- Those of the traces from t on, which have these lengths; fix counts within its trace, from 0. An empty trace has none.
unfoldable pub entries : ℕ → List ℕ → List ℤ → List Entry
entries t [] ls = []
entries t (n ∷ ns) ls = trace_entries t 0 (take n ls) ++ entries (suc t) ns (drop n ls)

-- A text at the right end of w columns, with spaces in front.
unfoldable pub right_aligned : ℕ → List ℕ → List ℕ
right_aligned w s = replicate (w - length s) space ++ s

-- "Trace right-aligned in 3 columns, a space, fix in 5, a space, label in 3, a line feed."
unfoldable pub entry_line : Entry → List ℕ
entry_line e =
    right_aligned 3 (decimal e.trace)
    ++ (space ∷ right_aligned 5 (decimal e.fix) ++ (space ∷ right_aligned 3 (label_text e.label) ++ (line_feed ∷ [])))

unfoldable pub heading : List ℕ
unfolding bytes
heading = bytes "TRC   FIX LBL\n"

-- "Each page starts with `TRC   FIX LBL`": the heading, and a line for each of its fixes.
unfoldable pub page : List Entry → List ℕ
page es = heading ++ flatten (map entry_line es)

-- A page "holds 60 fixes".
abbrev pub per_page : ℕ
per_page = 60

-- How many pages n fixes have: "rounded up".
unfoldable pub page_count : ℕ → ℕ
page_count n = (n + (per_page - 1)) / per_page

-- The fixes by pages: the first 60, the next 60 and so on.
unfoldable pub pages : List Entry → List (List Entry)
pages es = map (λ (k : ℕ). take per_page (drop (per_page * k) es)) (upto (page_count (length es)))

-- The sheet of traces of these lengths, whose fixes have these labels.
unfoldable pub sheet : List ℕ → List ℤ → List ℕ
sheet lens labels = flatten (map page (pages (entries 0 lens labels)))
