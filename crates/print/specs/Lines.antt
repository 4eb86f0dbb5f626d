-- What the program `stops` prints (docs/RULES.md, "Program `stops`"), as lists of bytes.
use Rattle.std.specs.Prelude.{ℕ, zero, suc, ◌+◌, ◌/◌, ◌%◌, cond, List, [], ◌∷◌, ◌++◌, take, drop, ltb, ℤ, pos, negsuc}
use Rattle.settings.specs.declared.refusal.Refusal.{Refusal}
use Rattle.settings.specs.Refusals.{number_of, trace_of}
use Rattle.text.specs.Bytes.{bytes, line_feed, space}

-- The decimal digits of n, at most f of them.
unfoldable pub digits : ℕ → ℕ → List ℕ
digits zero n = []
digits (suc f) n = cond (ltb n 10) ((48 + n) ∷ []) (digits f (n / 10) ++ ((48 + n % 10) ∷ []))

-- Those of a number of 64 bits are at most 20.
unfoldable pub decimal : ℕ → List ℕ
decimal n = digits 20 n

-- A label is a number from 0 up, or -1 for none; a fit gives no other.
unfoldable pub label_text : ℤ → List ℕ
unfolding bytes
label_text (pos n) = decimal n
label_text (negsuc n) = bytes "-1"

-- A line `trace fix label`.
unfoldable pub line : ℕ → ℕ → ℤ → List ℕ
line t f l = decimal t ++ (space ∷ decimal f ++ (space ∷ label_text l ++ (line_feed ∷ [])))

-- The lines of trace t from its fix f on, which have these labels.
unfoldable pub trace_lines : ℕ → ℕ → List ℤ → List ℕ
trace_lines t f [] = []
trace_lines t f (l ∷ ls) = line t f l ++ trace_lines t (suc f) ls

-- The lines of the traces from t on, of these lengths; fix counts within its trace, from 0.
unfoldable pub lines : ℕ → List ℕ → List ℤ → List ℕ
lines t [] ls = []
lines t (n ∷ ns) ls = trace_lines t 0 (take n ls) ++ lines (suc t) ns (drop n ls)

unfoldable pub label_names : List ℕ
unfolding bytes
label_names = bytes "trace fix label\n"

-- The labels of all fixes, in traces of these lengths.
unfoldable pub labels_text : List ℕ → List ℤ → List ℕ
labels_text lens labels = label_names ++ lines 0 lens labels

unfoldable pub refused_names : List ℕ
unfolding bytes
refused_names = bytes "refused trace\n"

-- A refusal: its number and its trace.
unfoldable pub refusal_text : Refusal → List ℕ
refusal_text e = refused_names ++ (decimal (number_of e) ++ (space ∷ decimal (trace_of e) ++ (line_feed ∷ [])))
