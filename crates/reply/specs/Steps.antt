-- Serves the contracts of this crate's own functions; no public contract reaches it.
use Rattle.std.specs.Prelude.{ℕ, ◌≤◌, List, length, take}
use Rattle.infostop.specs.Fit.{fit}
use Rattle.text.specs.declared.Input.{Input}
use Rattle.text.specs.Values.{Columns}
use Rattle.reply.specs.declared.Form.{Form}
use Rattle.reply.specs.Program.{outcome_text}

-- The slices have room for the fixes and traces of the input.
pub record Room (i : Input) (c : Columns) : Type 0 where
  pub few_fixes : i.fixes ≤ 768
  pub xs_room : i.fixes ≤ length c.xs
  pub ys_room : i.fixes ≤ length c.ys
  pub times_room : i.fixes ≤ length c.times
  pub marks_room : i.fixes ≤ length c.marks
  pub lens_room : i.traces ≤ length c.lens

-- The answer of the fit to the first fixes and traces of the slices, as a text.
abbrev pub fit_text : Form → Input → Columns → List ℕ
fit_text form i c =
    outcome_text form (take i.traces c.lens)
    (fit i.config (take i.fixes c.xs) (take i.fixes c.ys) (take i.fixes c.times) (take i.fixes c.marks) (take i.traces c.lens)
    i.fixes 64 7168 3584)
