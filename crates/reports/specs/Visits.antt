-- Visits (docs/RULES.md, "Visits"). Definitions only.
use Rattle.std.specs.Prelude.{◌≡◌, ℕ, suc, true, ◌||◌, cond, List, [], ◌∷◌, map, leb, ltb, ℤ, length, get_or, replicate, Float, Result}
use Rattle.lists.specs.Lists.{upto}
use Rattle.distance.specs.Distance.{euclidean}
use Rattle.trace.specs.Trace.{Fix, fixes, traces}
use Rattle.stay.specs.Stays.{stay_medians}
use Rattle.neighbors.specs.Places.{Place, places_in}
use Rattle.settings.specs.declared.refusal.Refusal.{Refusal}
use Rattle.settings.specs.Checks.{Checked, is_refused, in_turn}
use Rattle.checks.specs.Tracks.{check_report_tracks}
use Rattle.cluster.specs.FixLabels.{stay_labels}
use Rattle.infostop.specs.declared.model.Infostop.{Infostop}
use Rattle.infostop.specs.ModelPlaces.{place_count, model_xs, model_ys, model_labels}
use Rattle.reports.specs.Reports.{check_model, report_if, slice_after}
use Rattle.reports.specs.Labels.{labels_in, is_label}

-- The model's places. It keeps no counts of their stays, and none matters here.
abbrev pub model_places : Infostop → List Place
model_places m = places_in (model_xs m) (model_ys m) (replicate (place_count m) 0)

-- The labels of a trace's accepted stays: that of the model's place which the median is, bit for bit; -1 where it is none. The places of a fit all differ;
-- where a model made by hand has one twice, the first counts.
unfoldable pub visited_labels : Infostop → List Fix → List ℤ
visited_labels m t = stay_labels (model_places m) (model_labels m) (stay_medians euclidean m.config t)

-- How many of the labels are l.
unfoldable pub visits_to : List ℤ → ℕ → ℕ
visits_to [] l = 0
visits_to (k ∷ ks) l = let r = visits_to ks l in cond (is_label l k) (suc r) r

-- "For each label upward, its visits": one number a label.
unfoldable pub trace_visits : Infostop → List Fix → List ℕ
trace_visits m t = map (visits_to (visited_labels m t)) (upto (labels_in (model_labels m)))

-- The fixes of the trace of number `trace`.
abbrev pub trace_fixes : List Float → List Float → List Float → List ℕ → List ℕ → ℕ → List Fix
trace_fixes xs ys ts ms lens trace = get_or (traces lens (fixes xs ys ts ms)) trace []

-- The report for the trace of number `trace`, with work slices and an output slice.
module _ (m : Infostop) (xs ys ts : List Float) (ms lens : List ℕ) (trace : ℕ) (floats : List Float) (words : List ℤ) (out : List ℕ) where
  -- "Where a report is given tracks, the checks 7 to 17 come first": then 20, then 21.
  unfoldable pub check_visits : Checked
  check_visits =
      in_turn
      (check_report_tracks xs ys ts ms lens (length floats) (length words)
      ∷ check_model m.fitted (leb (length lens) trace || ltb (length out) (labels_in (model_labels m)))
      ∷ [])

  pub record VisitsReported (r : Result ℕ Refusal) (floats' : List Float) (words' : List ℤ) (out' : List ℕ) : Type 0 where
    pub answer : r ≡ report_if check_visits (labels_in (model_labels m))
    pub out_end : out' ≡ slice_after check_visits (trace_visits m (trace_fixes xs ys ts ms lens trace)) out
    -- Work is free after success.
    pub work_kept : is_refused check_visits ≡ true → (floats' ≡ floats) × (words' ≡ words)
