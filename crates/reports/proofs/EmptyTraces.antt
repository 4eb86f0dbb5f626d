-- Reports on an empty trace: its visits are all 0, and its view is an empty part and no refusal. No view is refused with 11.
use mathlib.Core.Path.{◌≡◌, refl, ap, ◌∙◌}
use mathlib.Core.List.{List, [], ◌∷◌, map}
use mathlib.Core.Logic.{◌≢◌}
use Prim.Native.Nat.{ℕ, ◌<◌}
use native.Mathlib.Omega.{arith}
use borrow.Author.Tests.{lt-leb}
use lib.IntN.{ℤ}
use lib.ListN.{length, take, drop, get_or, replicate}
use lib.Ieee.{Float}
use Rattle.lists.specs.Lists.{upto}
use Rattle.lists.proofs.Upto.{length_upto}
use Rattle.distance.specs.Distance.{euclidean}
use Rattle.trace.specs.Trace.{fixes, total}
use Rattle.trace.proofs.Parts.{trace_at}
use Rattle.stay.proofs.EmptyTraces.{no_median}
use Rattle.std.specs.Prelude.{Ok, Err}
use Rattle.settings.specs.Checks.{Checked, refuse_if, first_of, in_turn}
use Rattle.settings.proofs.RefusalNumbers.{no_eleven}
use Rattle.checks.specs.Tracks.{check_label_lengths}
use Rattle.cluster.specs.FixLabels.{stay_labels}
use Rattle.infostop.specs.declared.model.Infostop.{Infostop}
use Rattle.infostop.specs.ModelPlaces.{model_labels}
use Rattle.reports.specs.Labels.{labels_in}
use Rattle.reports.specs.Visits.{visited_labels, visits_to, trace_visits, trace_fixes}
use Rattle.reports.specs.View.{check_view, view_part, trace_view, refusal_number}

-- ---- visits

all_none : (ls : List ℕ) → map (visits_to []) ls ≡ replicate (length ls) 0
unfolding visits_to
all_none [] = refl
all_none (l ∷ ls) = ap (λ (r : List ℕ). 0 ∷ r) (all_none ls)

no_visits : (m : Infostop) → trace_visits m [] ≡ replicate (labels_in (model_labels m)) 0
unfolding trace_visits visited_labels stay_labels
no_visits m =
    rw (no_median euclidean m.config)
    (all_none (upto (labels_in (model_labels m))) ∙ ap (λ (n : ℕ). replicate n 0) (length_upto (labels_in (model_labels m))))

pub empty_visits : (m : Infostop) (xs ys ts : List Float) (ms lens : List ℕ) (trace : ℕ) → trace < length lens → get_or lens trace 0 ≡ 0
    → trace_visits m (trace_fixes xs ys ts ms lens trace) ≡ replicate (labels_in (model_labels m)) 0
empty_visits m xs ys ts ms lens trace h e =
    let fs = fixes xs ys ts ms in
    ap (trace_visits m) (trace_at lens fs trace h ∙ ap (λ (n : ℕ). take n (drop (total (take trace lens)) fs)) e) ∙ no_visits m

-- ---- the trace view

part_none : (c : Checked) (lens : List ℕ) (trace : ℕ) (labels : List ℤ) → get_or lens trace 0 ≡ 0 → view_part c lens trace labels ≡ []
part_none (Ok u) lens trace labels e = rw e
part_none (Err r) lens trace labels e = refl

pub empty_view : (lens : List ℕ) (trace : ℕ) (labels : List ℤ) → get_or lens trace 0 ≡ 0 → trace_view lens trace labels ≡ []
empty_view lens trace labels e = part_none (check_view lens (length labels) trace) lens trace labels e

-- It is refused neither for being empty nor for anything else: where the lengths agree and the trace is in the list, none is.
pub view_accepted : (lens : List ℕ) (labels trace : ℕ) → check_label_lengths lens labels ≡ Ok tt → trace < length lens → check_view lens labels trace ≡ Ok tt
unfolding check_view in_turn first_of refuse_if
view_accepted lens labels trace a h = rw (a, lt-leb (length lens) trace h)

pub view_number : (c : Checked) → refusal_number c ≢ 11
view_number (Ok u) e = absurd (omega arith)
view_number (Err r) e = no_eleven r e
