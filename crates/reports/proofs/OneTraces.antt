-- One trace of agreed tracks: where it lies, and the labels that the model gives its stays.
use mathlib.Core.Path.{◌≡◌, sym, ap, ap₂, ◌∙◌}
use mathlib.Core.List.{List, []}
use Prim.Native.Nat.{ℕ, ◌+◌, ◌-◌, ◌<◌, ◌≤◌}
use native.Mathlib.Nat.{add-sub_cancel_left}
use native.Mathlib.Omega.{arith}
use lib.IntN.{ℤ}
use lib.ListN.{length, get_or, take, drop, replicate, length-replicate}
use Rattle.distance.specs.declared.Point.{Point}
use Rattle.distance.specs.Distance.{euclidean, points}
use Rattle.trace.specs.Trace.{Fix, total, traces}
use Rattle.stay.specs.Stays.{stay_medians}
use Rattle.neighbors.proofs.Within.{place_points_in}
use Rattle.trace.proofs.Parts.{trace_at}
use Rattle.cluster.specs.FixLabels.{stay_labels}
use Rattle.infostop.specs.declared.model.Infostop.{Infostop}
use Rattle.lists.proofs.Parts.{lent, back, back_part}
-- Named so that the examples are checked before these lemmas.
use Rattle.reports.specs.Examples
use Rattle.infostop.specs.ModelPlaces.{place_count, model_xs, model_ys, model_labels}
use Rattle.reports.specs.View.{trace_start}
use Rattle.reports.specs.Visits.{model_places, visited_labels}
use Rattle.reports.specs.Steps.{LabelledStays}
use Rattle.reports.proofs.Starts.{start_within}

-- The trace lies within the fixes.
pub within : (lens : List ℕ) (k at n : ℕ) → k < length lens → total lens ≡ n → at ≡ trace_start lens k → at + get_or lens k 0 ≤ n
within lens k at n h e is = omega (arith, start_within lens k h)

-- Its fixes are the part of all that the code lends.
pub lent_trace : (lens : List ℕ) (k : ℕ) (fs : List Fix) {at : ℕ} {t : List Fix} → k < length lens → at ≡ trace_start lens k → t ≡ take (get_or lens k 0) (drop at fs)
    → t ≡ get_or (traces lens fs) k []
unfolding trace_start
lent_trace lens k fs h is e = e ∙ ap (λ (z : ℕ). take (get_or lens k 0) (drop z fs)) is ∙ sym (trace_at lens fs k h)

-- What has come back as r items behind n.
pub written_read : (n r : ℕ) (out l : List ℤ) → n ≤ length l → length out ≡ n + r - n → take r (drop n (back n (n + r) out l)) ≡ out
written_read n r out l h e = ap (λ (j : ℕ). take j (drop n (back n (n + r) out l))) (sym (add-sub_cancel_left n r)) ∙ back_part n (n + r) out l h e

-- What `label_stays` wrote for a trace of `long` fixes: r labels, by the places of the model, which are at the points qs and have the labels pl.
module _ (m : Infostop) {qs : List Point} {pl : List ℤ} (at : qs ≡ points (model_xs m) (model_ys m)) (labels : pl ≡ model_labels m)
    (full : length (model_xs m) ≡ place_count m) (full_ys : length (model_ys m) ≡ place_count m)
    {one long r : ℕ} {t fs : List Fix} {written : List ℤ} (same : one ≡ long) (is : t ≡ fs)
    (d : LabelledStays one qs pl (stay_medians euclidean m.config t) written r) where
  pub visited_read : lent long (long + r) written ≡ visited_labels m fs
  unfolding visited_labels
  visited_read =
      let cs : List ℕ = replicate (place_count m) 0 in
      let long_cs = length-replicate {A = ℕ} (place_count m) 0 ∙ sym full in
      ap₂ (λ (k b : ℕ). take k (drop b written)) (add-sub_cancel_left long r) (sym same)
      ∙ d.labels (model_places m) (sym (at ∙ place_points_in (model_xs m) (model_ys m) cs (full_ys ∙ sym full) long_cs))
      ∙ ap₂ (λ (l : List ℤ) (f : List Fix). stay_labels (model_places m) l (stay_medians euclidean m.config f)) labels is
