-- A whole program, from the bytes of its input to those of its output: `stops` in one form, `sheet` in the other (docs/RULES.md, "Program `stops`" and
-- "Program `sheet`").
use Rattle.std.specs.Prelude.{ℕ, Bool, true, false, List, ltb, ℤ, length, replicate}
use Rattle.float.specs.Binary64.{zero64}
use Rattle.settings.specs.declared.config.Config.{Config}
use Rattle.settings.specs.declared.refusal.Refusal.TheVariants.{Counts, Text}
use Rattle.settings.specs.Settings.{check_config}
use Rattle.trace.specs.declared.Tracks.{Tracks}
use Rattle.infostop.specs.Fit.{Outcome, refused, fitted, unless_refused, fit}
use Rattle.text.specs.Values.{FixLine, Read, outside, inside, read, xs_of, ys_of, times_of, marks_of, lengths_of, Columns, columns}
use Rattle.text.specs.Parsed.{Parsed}
use Rattle.text.specs.Pieces.{ReadAs}
use Rattle.print.specs.Lines.{labels_text, refusal_text}
use Rattle.print.specs.Written.{Writes}
use Rattle.posting.specs.Sheet.{sheet}
use Rattle.reply.specs.declared.Form.{Form}
use Rattle.reply.specs.declared.Form.TheVariants.{Lines, Sheet}

-- The labels, in traces of these lengths: a line for each fix (docs/RULES.md, "Program `stops`"), or the posting sheet ("Posting sheet").
unfoldable pub labels_as : Form → List ℕ → List ℤ → List ℕ
labels_as Lines lens labels = labels_text lens labels
labels_as Sheet lens labels = sheet lens labels

-- The labels, or the refusal: "a refusal is written as `stops` writes it".
unfoldable pub outcome_text : Form → List ℕ → Outcome → List ℕ
outcome_text form lens (refused e) = refusal_text e
outcome_text form lens (fitted f) = labels_as form lens f.labels

-- It takes 768 fixes and 64 places: the Bool tells whether there are more fixes, which is 9 after the refusals of settings. The work slices are those of 768 fixes.
unfoldable pub fixes_text : Form → Bool → Config → List FixLine → List ℕ
fixes_text form true c ls = outcome_text form (lengths_of ls) (unless_refused (check_config c) (refused Counts))
fixes_text form false c ls = outcome_text form (lengths_of ls) (fit c (xs_of ls) (ys_of ls) (times_of ls) (marks_of ls) (lengths_of ls) (length ls) 64 7168 3584)

-- 22 comes before all others.
unfoldable pub read_text : Form → Read → List ℕ
read_text form outside = refusal_text Text
read_text form (inside c ls) = fixes_text form (ltb 768 (length ls)) c ls

unfoldable pub program_text : Form → List ℕ → List ℕ
program_text form t = read_text form (read t)

-- The slices that the program reads into, before it reads.
abbrev pub fresh_columns : Columns
fresh_columns = columns (replicate 768 zero64) (replicate 768 zero64) (replicate 768 zero64) (replicate 768 0) (replicate 768 0)

-- The slices as they are handed over.
abbrev pub columns_of : Tracks → Columns
columns_of t = columns t.xs.now t.ys.now t.times.now t.marks.now t.lens.now

-- p was read from the text t, and the slices c hold its first 768 fixes.
abbrev pub FromText : List ℕ → Parsed → Columns → Type 0
FromText t p c = ReadAs fresh_columns t p c

-- Whatever text p and the slices c were read from, its answer in this form is written.
pub record Answers (form : Form) (p : Parsed) (c : Columns) (out : List ℕ) (r : ℕ) (out' : List ℕ) : Type 0 where
  pub writes : {t : List ℕ} → FromText t p c → Writes (program_text form t) out r out'
