-- What is printed for the rules' example and its refusal `15 0`, and labels of two traces. Proved by computing.
use Rattle.std.specs.Prelude.{◌≡◌, refl, List, [], ◌∷◌, ℕ, ℤ, pos, negsuc}
use Rattle.settings.specs.declared.refusal.Refusal.{Refusal}
use Rattle.settings.specs.declared.refusal.Refusal.TheVariants.{TimeOrder, PartlyTimed, Text}
use Rattle.text.specs.Bytes.{bytes}
use Rattle.print.specs.Lines.{digits, decimal, label_text, line, trace_lines, lines, label_names, labels_text, refused_names, refusal_text}

prints : List ℕ → List ℤ → List ℕ
unfolding labels_text label_names lines trace_lines line label_text decimal digits bytes
prints lens labels = labels_text lens labels

refuses : Refusal → List ℕ
unfolding refusal_text refused_names decimal digits bytes
refuses e = refusal_text e

example : prints (2 ∷ []) (pos 0 ∷ pos 0 ∷ []) ≡ bytes "trace fix label\n0 0 0\n0 1 0\n"
unfolding prints
example = refl

-- Fix counts within its trace.
two_traces : prints (2 ∷ 1 ∷ []) (pos 0 ∷ negsuc 0 ∷ pos 12 ∷ []) ≡ bytes "trace fix label\n0 0 0\n0 1 -1\n1 0 12\n"
unfolding prints
two_traces = refl

time_order : refuses (TimeOrder 0) ≡ bytes "refused trace\n15 0\n"
unfolding refuses
time_order = refl

with_trace : refuses (PartlyTimed 107) ≡ bytes "refused trace\n14 107\n"
unfolding refuses
with_trace = refl

not_in_form : refuses Text ≡ bytes "refused trace\n22 0\n"
unfolding refuses
not_in_form = refl
