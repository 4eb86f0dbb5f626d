-- The labels that an accepted fit gives to fixes are -1 or below the number of places, hence below 512.
use mathlib.Core.Path.{◌≡◌, refl, sym, subst}
use mathlib.Core.Logic.{◌⊎◌, inl, inr}
use mathlib.Core.List.{List}
use mathlib.Core.Option.{Option, none, some}
use Prim.Native.Nat.{ℕ, ◌≤◌, ◌<◌}
use native.Mathlib.Nat.{le_trans}
use native.Mathlib.Omega.{arith}
use lib.IntN.{ℤ, pos}
use lib.ListN.{length, get_or}
use lib.Ieee.{Float}
use Rattle.lists.specs.Lists.{minus_one}
use Rattle.distance.specs.declared.Point.{Point}
use Rattle.distance.specs.Distance.{euclidean, Metric}
use Rattle.trace.specs.Trace.{Fix, fix_count}
use Rattle.neighbors.specs.Places.{Place, place_of, places}
use Rattle.neighbors.proofs.Found.{counted, all_counted}
use Rattle.cluster.specs.Cluster.{cluster}
use Rattle.cluster.specs.FixLabels.{label_for}
use Rattle.cluster.proofs.FixLabels.{label_at}
use Rattle.cluster.proofs.LabelsBelow.{Below, label_below}
use Rattle.settings.specs.declared.config.Config.{Config}
use Rattle.stay.specs.Stays.{all_medians, all_fix_medians}
use Rattle.stay.proofs.AllMedians.{all_medians_few}
use Rattle.infostop.specs.Fit.{Fitted, fitted, given_by, fit_traces, fit}
use Rattle.infostop.proofs.Accepted as a
use Rattle.infostop.proofs.FittedPlaces.{fit_places_few}

-- A median's label is one of the places', or -1.
median_below : (n : ℕ) (ps : List Place) (pl : List ℤ) → ((i : ℕ) → Below n (get_or pl i minus_one)) → (m : Option Point) → Below n (label_for ps pl m)
unfolding label_for
median_below n ps pl h none = inl refl
median_below n ps pl h (some m) = h (place_of ps m)

traces_below : (dist : Metric) (c : Config) (cap : ℕ) (ts : List (List Fix)) (f : Fitted) → fit_traces dist c cap ts ≡ fitted f → cap ≤ 512 → fix_count ts ≤ 65536
    → (k : ℕ) → Below (length f.places) (get_or f.labels k minus_one)
unfolding given_by
traces_below dist c cap ts f e l n k =
    let d = a.traces_done dist c cap ts f e in
    let ms = all_medians dist c ts in
    let ps = places ms in
    let pl = (cluster dist c.r2 c.label_singleton c.seed ps).labels in
    let s = all_counted ms in
    let m = all_medians_few dist c ts in
    subst (λ (z : Fitted). Below (length z.places) (get_or z.labels k minus_one)) (sym d.is)
    (rw (label_at dist c ps pl ts k)
    (median_below (length ps) ps pl (label_below dist c.r2 c.label_singleton c.seed ps (counted ms) (le_trans d.few l) (omega arith)) (get_or (all_fix_medians dist c ts) k none)))

module _ (c : Config) (xs ys times : List Float) (marks lens : List ℕ) (labels cap floats words : ℕ) (f : Fitted) (e : fit c xs ys times marks lens labels cap floats words ≡ fitted f) where
  -- A fix's label is -1 or below the number of places,
  pub fit_labels_places : (k : ℕ) → k < length f.labels → Below (length f.places) (get_or f.labels k minus_one)
  fit_labels_places k h =
      let d = a.accepted c xs ys times marks lens labels cap floats words f e in
      let n = a.counted c xs ys times marks lens labels cap floats words f d.tracks in
      let q = a.count_is c xs ys times marks lens labels cap floats words f e in
      traces_below euclidean c cap (a.ts c xs ys times marks lens labels cap floats words f) f d.fits n.few_places (omega arith) k

  -- which are at most 512.
  pub fit_labels_below : (k : ℕ) → k < length f.labels → (get_or f.labels k minus_one ≡ minus_one) ⊎ ((l : ℕ) × (l < 512) × (get_or f.labels k minus_one ≡ pos l))
  fit_labels_below k h = go (fit_labels_places k h)
    where
      go : Below (length f.places) (get_or f.labels k minus_one) → Below 512 (get_or f.labels k minus_one)
      go (inl q) = inl q
      go (inr (l, p, q)) = let m = fit_places_few c xs ys times marks lens labels cap floats words f e in inr (l, omega arith, q)
