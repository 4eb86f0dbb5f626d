-- Reports on the model: what they check, what they hand back, and how an output slice ends (docs/RULES.md, "When no labels are given" and "Model").
-- Definitions only.
use Rattle.std.specs.Prelude.{◌≡◌, ℕ, Bool, not, ◌||◌, List, [], ◌∷◌, ltb, ℤ, length, Float, Result, Ok, Err}
use Rattle.lists.specs.Lists.{overlay}
use Rattle.settings.specs.declared.refusal.Refusal.{Refusal}
use Rattle.settings.specs.declared.refusal.Refusal.TheVariants.{NotFitted, Output}
use Rattle.settings.specs.Checks.{Checked, refuse_if, in_turn}
use Rattle.infostop.specs.declared.model.Infostop.{Infostop}
use Rattle.infostop.specs.ModelPlaces.{place_count, model_xs, model_ys, model_labels}

-- "For reports that take the model: 20, then 21."
unfoldable pub check_model : Bool → Bool → Checked
check_model fitted lacking = in_turn (refuse_if (not fitted) NotFitted ∷ refuse_if lacking Output ∷ [])

-- A report of n items, or no report: a refusal, whose number and trace are `number_of` and `trace_of` of crate `settings`.
abbrev pub report_if : Checked → ℕ → Result ℕ Refusal
report_if (Ok x) n = Ok n
report_if (Err e) n = Err e

-- "Past its answer an output slice keeps its old contents." A refusal leaves all as it was.
abbrev pub slice_after : {A : Type 0} → Checked → List A → List A → List A
slice_after (Ok x) l old = overlay l old
slice_after (Err e) l old = old

-- The places, x and y apart.
abbrev pub check_points : Infostop → ℕ → ℕ → Checked
check_points m xs ys = check_model m.fitted (ltb xs (place_count m) || ltb ys (place_count m))

pub record PointsReported (m : Infostop) (xs ys : List Float) (r : Result ℕ Refusal) (xs' ys' : List Float) : Type 0 where
  pub answer : r ≡ report_if (check_points m (length xs) (length ys)) (place_count m)
  pub xs_end : xs' ≡ slice_after (check_points m (length xs) (length ys)) (model_xs m) xs
  pub ys_end : ys' ≡ slice_after (check_points m (length xs) (length ys)) (model_ys m) ys

-- Their labels.
abbrev pub check_labels : Infostop → ℕ → Checked
check_labels m labels = check_model m.fitted (ltb labels (place_count m))

pub record LabelsReported (m : Infostop) (labels : List ℤ) (r : Result ℕ Refusal) (labels' : List ℤ) : Type 0 where
  pub answer : r ≡ report_if (check_labels m (length labels)) (place_count m)
  pub labels_end : labels' ≡ slice_after (check_labels m (length labels)) (model_labels m) labels
