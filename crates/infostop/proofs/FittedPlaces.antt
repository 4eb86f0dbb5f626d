-- What an accepted fit gives for places: their labels have no gap, of any two places a bit pattern differs, and any two are at most 3×10^9 apart.
use mathlib.Core.Path.{◌≡◌, sym, ◌∙◌, subst}
use mathlib.Core.List.{List, [], ◌∷◌, map}
use Prim.Native.Nat.{ℕ, ◌≤◌, ◌<◌}
use native.Mathlib.Nat.{le_trans}
use native.Mathlib.Omega.{arith}
use lib.ListN.{length, get_or, length-map}
use lib.Ieee.{Float}
use Rattle.lists.specs.Lists.{upto}
use Rattle.lists.proofs.Upto.{length_upto}
use Rattle.lists.proofs.Items.{All, all_at, at_all}
use Rattle.distance.specs.declared.Point.{Point}
use Rattle.distance.specs.Distance.{euclidean, Metric}
use Rattle.distance.proofs.Bound.{grid_bound}
use Rattle.distance.proofs.GridLaws.{Step}
use Rattle.trace.specs.Trace.{Fix, fixes, fix_count}
use Rattle.trace.proofs.Fixes.{no_fix}
use Rattle.neighbors.specs.Places.{Place, no_place, places, AllDiffer}
use Rattle.neighbors.proofs.Found.{counted, all_counted}
use Rattle.neighbors.proofs.Differ.{places_differ}
use Rattle.neighbors.proofs.Sources.{AtPlace, places_all}
use Rattle.cluster.specs.Cluster.{cluster, NoGap}
use Rattle.cluster.proofs.NoGap.{no_gap}
use Rattle.settings.specs.declared.config.Config.{Config}
use Rattle.settings.proofs.UsableConfig.{config_accepted}
use Rattle.checks.proofs.Accepted.{length_traces, tracks_accepted}
use Rattle.stay.specs.Stays.{all_medians}
use Rattle.stay.proofs.AllMedians.{all_medians_few}
use Rattle.stay.proofs.Limit.{FixIn, MedianIn, all_medians_within}
use Rattle.infostop.specs.Fit.{Fitted, fitted, given_by, fit_traces, fit}
use Rattle.infostop.specs.FittedModels.{AllNear}
use Rattle.infostop.proofs.Accepted as a

points_all : (ps : List Place) → All (AtPlace MedianIn) ps → All MedianIn (map (λ (p : Place). p.at) ps)
points_all [] h = tt
points_all (p ∷ ps) h = (h.0, points_all ps h.1)

near : (ps : List Place) → All (AtPlace MedianIn) ps → AllNear (map (λ (p : Place). p.at) ps)
near ps h i j k l = grid_bound (point i) (point j) (at i k) (at j l)
  where
    point : ℕ → Point
    point i = get_or (map (λ (p : Place). p.at) ps) i no_place.at

    at : (i : ℕ) → i < length (map (λ (p : Place). p.at) ps) → MedianIn (point i)
    at = at_all MedianIn (map (λ (p : Place). p.at) ps) no_place.at (points_all ps h)

module _ (dist : Metric) (c : Config) (cap : ℕ) (ts : List (List Fix)) (f : Fitted) (e : fit_traces dist c cap ts ≡ fitted f) where
  abbrev ms : List Point
  ms = all_medians dist c ts

  traces_no_gap : cap ≤ 512 → fix_count ts ≤ 65536 → NoGap f.place_labels
  unfolding given_by
  traces_no_gap k n =
      let d = a.traces_done dist c cap ts f e in
      let s = all_counted ms in
      let m = all_medians_few dist c ts in
      subst (λ (z : Fitted). NoGap z.place_labels) (sym d.is)
      (no_gap dist c.r2 c.label_singleton c.seed (places ms) (counted ms) (le_trans d.few k) (omega arith))

  traces_differ : AllDiffer (map (λ (p : Place). p.at) f.places)
  unfolding given_by
  traces_differ = subst (λ (z : Fitted). AllDiffer (map (λ (p : Place). p.at) z.places)) (sym (a.traces_done dist c cap ts f e).is) (places_differ ms)

  -- Each place has a label.
  traces_place_labels : length f.place_labels ≡ length f.places
  unfolding given_by cluster
  traces_place_labels =
      subst (λ (z : Fitted). length z.place_labels ≡ length z.places) (sym (a.traces_done dist c cap ts f e).is)
      (length-map (upto (length (places ms))) _ ∙ length_upto (length (places ms)))

module _ (c : Config) (xs ys times : List Float) (marks lens : List ℕ) (labels cap floats words : ℕ) (f : Fitted) (e : fit c xs ys times marks lens labels cap floats words ≡ fitted f) where
  done : a.AcceptedFit c xs ys times marks lens labels cap floats words f
  done = a.accepted c xs ys times marks lens labels cap floats words f e

  few : cap ≤ 512
  few = (a.counted c xs ys times marks lens labels cap floats words f done.tracks).few_places

  -- There is a place for each label below one that a place has.
  pub fit_no_gap : NoGap f.place_labels
  fit_no_gap =
      let n = (a.counted c xs ys times marks lens labels cap floats words f done.tracks).few_fixes in
      let k = a.count_is c xs ys times marks lens labels cap floats words f e in
      traces_no_gap euclidean c cap (a.ts c xs ys times marks lens labels cap floats words f) f done.fits few (omega arith)

  -- Places with different numbers differ.
  pub fit_differ : AllDiffer (map (λ (p : Place). p.at) f.places)
  fit_differ = traces_differ euclidean c cap (a.ts c xs ys times marks lens labels cap floats words f) f done.fits

  -- They are at most 512.
  pub fit_places_few : length f.places ≤ 512
  unfolding given_by
  fit_places_few =
      let d = a.traces_done euclidean c cap (a.ts c xs ys times marks lens labels cap floats words f) f done.fits in
      subst (λ (z : Fitted). length z.places ≤ 512) (sym d.is) (le_trans d.few few)

  -- Each has a label.
  pub fit_place_labels : length f.place_labels ≡ length f.places
  fit_place_labels = traces_place_labels euclidean c cap (a.ts c xs ys times marks lens labels cap floats words f) f done.fits

  -- The fixes are within the coordinate limit,
  fixes_in : All (All FixIn) (a.ts c xs ys times marks lens labels cap floats words f)
  fixes_in =
      let ts = a.ts c xs ys times marks lens labels cap floats words f in
      let u = (tracks_accepted xs ys times marks lens labels cap floats words done.tracks).tracks.each_trace in
      all_at (All FixIn) ts [] (λ k h. all_at FixIn (get_or ts k []) no_fix (u k (rw (← length_traces lens (fixes xs ys times marks)) h)).in_limit_lem)

  -- so the medians on the grid are near enough for the distance's bound, and the places with them.
  pub fit_near : AllNear (map (λ (p : Place). p.at) f.places)
  unfolding given_by
  fit_near =
      let ts = a.ts c xs ys times marks lens labels cap floats words f in
      let r = (config_accepted c done.config).resolution in
      let step : Step c.min_spatial_resolution = record { fine = r.from_least; coarse = r.to_largest } in
      let ms = all_medians_within euclidean c step ts fixes_in in
      let d = a.traces_done euclidean c cap ts f done.fits in
      subst (λ (z : Fitted). AllNear (map (λ (p : Place). p.at) z.places)) (sym d.is) (near (places (all_medians euclidean c ts)) (places_all MedianIn (all_medians euclidean c ts) ms))
