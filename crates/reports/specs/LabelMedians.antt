-- Label medians (docs/RULES.md, "Label medians", in rising label: the median of each label's places). Definitions only.
use Rattle.std.specs.Prelude.{◌≡◌, ℕ, ◌||◌, cond, List, [], ◌∷◌, map, ltb, ℤ, length, Float, Result}
use Rattle.lists.specs.Lists.{upto}
use Rattle.stay.specs.Ordered.{ordered, median}
use Rattle.settings.specs.declared.refusal.Refusal.{Refusal}
use Rattle.settings.specs.Checks.{Checked}
use Rattle.infostop.specs.declared.model.Infostop.{Infostop}
use Rattle.infostop.specs.ModelPlaces.{model_xs, model_ys, model_labels}
use Rattle.reports.specs.Reports.{check_model, report_if, slice_after}
use Rattle.reports.specs.Labels.{labels_in, is_label}

-- One coordinate of each place with the label l, in place order. The places have the labels ks and the coordinates vs.
unfoldable pub with_label : ℕ → List ℤ → List Float → List Float
with_label l [] vs = []
with_label l (k ∷ ks) [] = []
with_label l (k ∷ ks) (v ∷ vs) = let r = with_label l ks vs in cond (is_label l k) (v ∷ r) r

-- The median of the label's places in that coordinate, as for a stay: of the coordinates in order. Of no place it is NaN.
unfoldable pub label_median : List ℤ → List Float → ℕ → Float
label_median ks vs l = median (ordered (with_label l ks vs))

-- In rising label.
unfoldable pub label_medians : List ℤ → List Float → List Float
label_medians ks vs = map (label_median ks vs) (upto (labels_in ks))

-- The report: x and y apart, and the number of labels.
abbrev pub check_medians : Infostop → ℕ → ℕ → Checked
check_medians m xs ys = check_model m.fitted (ltb xs (labels_in (model_labels m)) || ltb ys (labels_in (model_labels m)))

pub record MediansReported (m : Infostop) (xs ys : List Float) (r : Result ℕ Refusal) (xs' ys' : List Float) : Type 0 where
  pub answer : r ≡ report_if (check_medians m (length xs) (length ys)) (labels_in (model_labels m))
  pub xs_end : xs' ≡ slice_after (check_medians m (length xs) (length ys)) (label_medians (model_labels m) (model_xs m)) xs
  pub ys_end : ys' ≡ slice_after (check_medians m (length xs) (length ys)) (label_medians (model_labels m) (model_ys m)) ys
