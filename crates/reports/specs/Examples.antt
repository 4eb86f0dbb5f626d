-- The reports' definitions, run at a few values.
use Rattle.std.specs.Prelude.{◌≡◌, refl, true, List, [], ◌∷◌, ℕ, pos, negsuc, Float}
use Rattle.std.proofs.Math.Option.{some}
use Rattle.std.specs.Float.{binary64}
use Rattle.std.specs.Float.Ieee.{add, mul, of_int, of_bits, to_bits}
use Rattle.lists.specs.Lists.{from, upto}
use Rattle.float.specs.Binary64.{whole64, zero64, same_bits}
use Rattle.distance.specs.Distance.{euclidean}
use Rattle.stay.specs.Ordered.{ordered, median}
use Rattle.trace.specs.Trace.{Fix, total}
use Rattle.stay.specs.Stays.{stay_medians}
use Rattle.neighbors.specs.Places.{same_place, places_in, place_of}
use Rattle.settings.specs.Checks.{refuse_if, first_of, in_turn}
use Rattle.settings.specs.Tries.{with_step}
use Rattle.checks.specs.Tracks.{same_lengths, check_lengths}
use Rattle.cluster.specs.FixLabels.{label_for, stay_labels}
use Rattle.infostop.specs.declared.model.Infostop.{Infostop}
use Rattle.reports.specs.View.{check_view, trace_start, trace_view}
use Rattle.reports.specs.Labels.{label_end, labels_in, is_label}
use Rattle.reports.specs.LabelMedians.{with_label, label_median, label_medians}
use Rattle.reports.specs.Visits.{visited_labels, visits_to, trace_visits}

-- A fitted model with the one place (x, 0), of label 0, and the settings 10 10 1 300 86400 2 42 with a step of the grid.
model_on : Float → Float → Infostop
model_on step x =
    record {
      config = with_step step;
      xs = x ∷ [];
      ys = zero64 ∷ [];
      labels = pos 0 ∷ [];
      count = 1;
      fitted = true;
    }

model : Float → Infostop
model = model_on zero64

-- Two stays at (x, 0), one after the other: the second begins more than 86400 later.
stays : Float → List Fix
stays x = fix 0 ∷ fix 300 ∷ fix 90000 ∷ fix 90300 ∷ []
  where
    fix : ℕ → Fix
    fix t = record { at = record { x = x; y = zero64 }; time = some (whole64 t) }

-- What is computed below: to unfold this is to unfold all that it names.
unfoldable computed : Unit {0}
unfolding model_on model stays add mul of_int of_bits to_bits same_bits from upto euclidean stay_medians same_place places_in place_of label_for stay_labels ordered median
    label_end labels_in is_label with_label label_median label_medians visited_labels visits_to trace_visits
    refuse_if first_of in_turn total same_lengths check_lengths check_view trace_start
computed = tt

-- They are two visits, though the labels of the fixes are one range.
two_visits : trace_visits (model zero64) (stays zero64) ≡ 2 ∷ []
unfolding computed
two_visits = refl

-- At -0.0 they are none, bit for bit.
no_visit : trace_visits (model zero64) (stays (of_bits binary64 0x8000_0000_0000_0000)) ≡ 0 ∷ []
unfolding computed
no_visit = refl

-- With step 1 stays at 4.75 are at the place 5.
on_grid : trace_visits (model_on (whole64 1) (whole64 5)) (stays (of_bits binary64 0x4013_0000_0000_0000)) ≡ 2 ∷ []
unfolding computed
on_grid = refl

-- Places at 0, 7, 10 and 20 with the labels 0, -1, 0 and 0, and one at 5 with the label 1: each place counts once.
medians_by_places :
    label_medians (pos 0 ∷ negsuc 0 ∷ pos 0 ∷ pos 0 ∷ pos 1 ∷ []) (whole64 0 ∷ whole64 7 ∷ whole64 10 ∷ whole64 20 ∷ whole64 5 ∷ [])
    ≡ whole64 10 ∷ whole64 5 ∷ []
unfolding computed
medians_by_places = refl

-- The second of two traces of lengths 1 and 2, and a third that is not there.
second_trace : trace_view (1 ∷ 2 ∷ []) 1 (pos 4 ∷ pos 5 ∷ pos 6 ∷ []) ≡ pos 5 ∷ pos 6 ∷ []
unfolding computed
second_trace = refl

no_third : trace_view (1 ∷ 2 ∷ []) 2 (pos 4 ∷ pos 5 ∷ pos 6 ∷ []) ≡ []
unfolding computed
no_third = refl
