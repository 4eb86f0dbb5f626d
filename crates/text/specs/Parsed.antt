-- What parsing a text hands back, and how it leaves the slices.
use Rattle.std.specs.Prelude.{◌≡◌, ℕ, Bool, true, false, List, length, take, nat_lt, Result, Ok, Err}
use Rattle.lists.specs.Lists.{overlay}
use Rattle.settings.specs.declared.config.Config.{Config}
use Rattle.settings.specs.declared.refusal.Refusal.{Refusal}
use Rattle.settings.specs.declared.refusal.Refusal.TheVariants.{Counts, Text}
use Rattle.settings.specs.Checks.{Checked}
use Rattle.settings.specs.Settings.{check_config}
use Rattle.text.specs.declared.Input.{Input}
use Rattle.text.specs.Values.{FixLine, Read, outside, inside, read, xs_of, ys_of, times_of, marks_of, lengths_of, Columns, columns}

-- `Ok` with what stands in the text beside its columns, or the refusal.
abbrev pub Parsed : Type 0
Parsed = Result Input Refusal

-- 9, after the check of the settings. 7 and 8 cannot be: there is a fix, and the lengths agree.
unfoldable pub too_many : Checked → Parsed
too_many (Ok x) = Err Counts
too_many (Err e) = Err e

unfoldable pub unless_many : Bool → Config → ℕ → ℕ → Parsed
unless_many true c n k = too_many (check_config c)
unless_many false c n k = Ok (record { config = c; fixes = n; traces = k })

-- n fixes in k traces: at most 768 are taken.
unfoldable pub at_most768 : Config → ℕ → ℕ → Parsed
at_most768 c n k = unless_many (nat_lt 768 n) c n k

-- 22 comes before all others. The rules' numbers of a refusal are `number_of` and `trace_of` of crate `settings`.
unfoldable pub parsed : Read → Parsed
parsed outside = Err Text
parsed (inside c ls) = at_most768 c (length ls) (length (lengths_of ls))

-- ---- the slices

-- l at the front of s, as far as s has room; what is behind stays.
unfoldable pub into : {A : Type 0} → List A → List A → List A
into s l = overlay (take (length s) l) s

-- The slices with the columns of these fixes at their front.
unfoldable pub with_columns : Columns → List FixLine → Columns
with_columns c ls =
    columns (into c.xs (xs_of ls)) (into c.ys (ys_of ls)) (into c.times (times_of ls)) (into c.marks (marks_of ls)) (into c.lens (lengths_of ls))

-- The slices after parsing, where r is the answer. Every refusal leaves them as they were.
unfoldable pub filled : Parsed → Read → Columns → Columns
filled (Err e) w c = c
filled (Ok i) outside c = c
filled (Ok i) (inside s ls) c = with_columns c ls

-- Parsing the text t with the slices c hands back r and leaves the slices c'.
pub record Parses (t : List ℕ) (c : Columns) (r : Parsed) (c' : Columns) : Type 0 where
  pub answer : r ≡ parsed (read t)
  pub slices : c' ≡ filled r (read t) c
