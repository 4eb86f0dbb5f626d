-- What a program prints for what it heard on standard input: `stops` in one form, `sheet` in the other (docs/RULES.md, "Program `stops`" and "Program `sheet`").
use Rattle.std.specs.Prelude.{◌≡◌, ℕ, ◌≤◌, List, length, take}
use Rattle.settings.specs.declared.refusal.Refusal.TheVariants.{Text}
use Rattle.print.specs.Lines.{refusal_text}
use Rattle.input.specs.Calls.{Call, Heard, whole, broken, heard}
use Rattle.reply.specs.declared.Form.{Form}
use Rattle.reply.specs.Program.{program_text}

-- The answer to the whole text; 22 where a read failed before its end.
unfoldable pub answer_to : Form → Heard → List ℕ
answer_to form (whole t) = program_text form t
answer_to form broken = refusal_text Text

-- These bytes are the answer, in this form, to what calls of `read` gave.
pub record Answer (form : Form) (bytes : List ℕ) : Type 0 where
  pub calls : List Call
  pub answer : bytes ≡ answer_to form (heard calls)

-- The first r bytes of `out` are such an answer.
pub record Answered (form : Form) (out : List ℕ) (r : ℕ) : Type 0 where
  pub within : r ≤ length out
  pub first : Answer form (take r out)
