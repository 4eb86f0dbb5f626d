-- The answer to a text of any length, in either form, has at most 49,152 bytes, so in a slice of that length it stands whole.
use mathlib.Core.Path.{◌≡◌, refl}
use mathlib.Core.Bool.{Bool, true, false}
use mathlib.Core.List.{List}
use Prim.Native.Nat.{ℕ, ◌≤◌}
use native.Mathlib.Omega.{arith}
use borrow.Author.Tests.{ltb-false}
use lib.Dec.{ltb}
use lib.IntN.{ℤ}
use lib.ListN.{length, take, length-map}
use Rattle.settings.specs.declared.config.Config.{Config}
use Rattle.settings.specs.declared.refusal.Refusal.TheVariants.{Text, Counts}
use Rattle.std.specs.Prelude.{Ok, Err}
use Rattle.settings.specs.Checks.{Checked}
use Rattle.settings.specs.Settings.{check_config}
use Rattle.infostop.specs.Fit.{Outcome, refused, fitted, unless_refused, fit}
use Rattle.infostop.proofs.Accepted.{fit_labels}
use Rattle.text.specs.Values.{FixLine, Read, outside, inside, read, xs_of, ys_of, times_of, marks_of, lengths_of}
use Rattle.print.specs.Written.{Writes}
use Rattle.print.proofs.Sizes.{labels_length, refusal_length, whole}
use Rattle.posting.specs.Steps.{SheetWithin}
use Rattle.posting.proofs.Sizes.{sheet_short}
use Rattle.reply.specs.declared.Form.{Form}
use Rattle.reply.specs.declared.Form.TheVariants.{Lines, Sheet}
use Rattle.reply.specs.Program.{labels_as, outcome_text, fixes_text, read_text, program_text}
use Rattle.reply.proofs.FitWithin.{fit_within}

refused_short : (form : Form) (lens : List ℕ) (k : Checked) → length (outcome_text form lens (unless_refused k (refused Counts))) ≤ 49152
unfolding unless_refused outcome_text
refused_short form lens (Ok u) = omega (arith, refusal_length Counts)
refused_short form lens (Err e) = omega (arith, refusal_length e)

labels_short : (form : Form) (lens : List ℕ) (labels : List ℤ) → SheetWithin lens labels → length labels ≤ 768 → length (labels_as form lens labels) ≤ 49152
unfolding labels_as
labels_short Lines lens labels w h = omega (arith, labels_length lens labels)
labels_short Sheet lens labels w h = sheet_short lens labels w h

module _ (form : Form) (c : Config) (ls : List FixLine) where
  abbrev answer : Outcome
  answer = fit c (xs_of ls) (ys_of ls) (times_of ls) (marks_of ls) (lengths_of ls) (length ls) 64 7168 3584

  outcome_short : length ls ≤ 768 → (o : Outcome) → answer ≡ o → length (outcome_text form (lengths_of ls) o) ≤ 49152
  unfolding outcome_text
  outcome_short h (refused e) q = omega (arith, refusal_length e)
  outcome_short h (fitted f) q =
      let l = fit_labels c (xs_of ls) (ys_of ls) (times_of ls) (marks_of ls) (lengths_of ls) (length ls) 64 7168 3584 f q in
      let w = fit_within c (xs_of ls) (ys_of ls) (times_of ls) (marks_of ls) (lengths_of ls) (length ls) 64 7168 3584 f q in
      labels_short form (lengths_of ls) f.labels w (omega (arith, l, length-map ls (λ (z : FixLine). z.x)))

  fixes_short : (b : Bool) → ltb 768 (length ls) ≡ b → length (fixes_text form b c ls) ≤ 49152
  unfolding fixes_text
  fixes_short true q = refused_short form (lengths_of ls) (check_config c)
  fixes_short false q = outcome_short (ltb-false 768 (length ls) q) answer refl

read_short : (form : Form) (q : Read) → length (read_text form q) ≤ 49152
unfolding read_text
read_short form outside = omega (arith, refusal_length Text)
read_short form (inside c ls) = fixes_short form c ls (ltb 768 (length ls)) refl

-- What `reply` and `answer` write is the whole answer.
pub answer_whole : (form : Form) (t out : List ℕ) (r : ℕ) (out' : List ℕ) → Writes (program_text form t) out r out' → length out ≡ 49152
    → take r out' ≡ program_text form t
unfolding program_text
answer_whole form t out r out' w e = (whole (program_text form t) out r out' w (omega (arith, e, read_short form (read t)))).1
