-- What was heard on standard input, as a text that `reply::answer` takes: a broken input is answered as the empty text is.
use mathlib.Core.Path.{◌≡◌, refl, sym, ap, ◌∙◌}
use mathlib.Core.List.{List, []}
use mathlib.Core.Option.{bind}
use Prim.Native.Nat.{ℕ}
use native.Mathlib.Omega.{arith}
use lib.ListN.{length}
use Rattle.text.specs.Bytes.{bytes}
use Rattle.text.specs.Form.{past, setting_names, lines_of}
use Rattle.text.specs.Values.{outside, inside, values_of, read, Columns}
use Rattle.text.specs.Parsed.{Parsed, parsed}
use Rattle.print.specs.Written.{Writes}
use Rattle.print.proofs.Sizes.{within}
use Rattle.input.specs.Calls.{Call, Heard, whole, broken, heard, ReadFrom}
use Rattle.reply.specs.declared.Form.{Form}
use Rattle.reply.specs.Program.{read_text, program_text, fresh_columns, FromText}
use Rattle.reply.proofs.Room.{answer_whole}
use Rattle.program.specs.Answer.{answer_to, Answered}

-- The empty text is not in the form.
nothing_read : read [] ≡ outside
unfolding read values_of lines_of bind past setting_names bytes
nothing_read = refl

pub text_of : Heard → List ℕ
text_of (whole t) = t
text_of broken = []

pub heard_text : (h : Heard) (p : Parsed) (c : Columns) → ReadFrom h fresh_columns p c → FromText (text_of h) p c
unfolding text_of parsed
heard_text (whole t) p c r = r
heard_text broken p c r =
    record {
      answer = r ∙ sym (ap parsed nothing_read);
      slices = λ s. λ ls. λ q. absurd (let z : outside ≡ inside s ls = sym nothing_read ∙ q in cc);
    }

heard_answer : (form : Form) (h : Heard) → program_text form (text_of h) ≡ answer_to form h
unfolding text_of answer_to program_text read_text
heard_answer form (whole t) = refl
heard_answer form broken = ap (read_text form) nothing_read

-- What is written into 49,152 bytes is the whole answer.
pub heard_answered : (form : Form) (gs : List Call) (out : List ℕ) (r : ℕ) (out' : List ℕ) → Writes (program_text form (text_of (heard gs))) out r out'
    → length out ≡ 49152 → length out' ≡ length out → Answered form out' r
heard_answered form gs out r out' w e k =
    record {
      within = omega (arith, within _ _ _ _ w);
      first = record { calls = gs; answer = answer_whole form (text_of (heard gs)) out r out' w e ∙ heard_answer form (heard gs) };
    }
