-- The model that a fit hands back with labels: its labels have no gap, and its places differ and are near enough for the distance's bound.
use mathlib.Core.Path.{◌≡◌, refl, sym, ap, ap₂, ◌∙◌, subst}
use mathlib.Core.List.{List, [], ◌∷◌, map}
use Rattle.std.specs.Prelude.{Ok}
use Prim.Native.Nat.{ℕ, ◌≤◌}
use native.Mathlib.Omega.{arith}
use lib.IntN.{ℤ, negsuc}
use lib.ListN.{length, take, replicate}
use lib.Ieee.{Float}
use Rattle.lists.proofs.Overlay.{take_front}
use Rattle.float.specs.Binary64.{zero64}
use Rattle.distance.specs.declared.Point.{Point}
use Rattle.neighbors.specs.Places.{Place, place_xs, place_ys, AllDiffer}
use Rattle.distance.specs.Distance.{points}
use Rattle.neighbors.proofs.Within.{length_place_xs, length_place_ys}
use Rattle.infomap.specs.declared.Mark.{Mark}
use Rattle.cluster.specs.Cluster.{NoGap}
use Rattle.settings.specs.declared.config.Config.{Config}
use Rattle.infostop.specs.Fit.{Fitted, Outcome, refused, fitted, fit}
use Rattle.infostop.proofs.FittedPlaces.{fit_no_gap, fit_differ, fit_near, fit_places_few, fit_place_labels}
use Rattle.infostop.specs.declared.model.Infostop.{Infostop}
use Rattle.infostop.specs.declared.answer.Fit.{Fit}
use Rattle.infostop.specs.Models.{fitted_model}
use Rattle.infostop.specs.Ends.{told, told_by, Ended}
use Rattle.infostop.specs.FittedModels.{AllNear, FittedPlaces}

points_of : (ps : List Place) → points (place_xs ps) (place_ys ps) ≡ map (λ (p : Place). p.at) ps
unfolding points place_xs place_ys
points_of [] = refl
points_of (p ∷ ps) = ap (λ (l : List Point). p.at ∷ l) (points_of ps)

-- The arrays of a fitted model hold what the fit gave.
model_places :
    (c : Config) (f : Fitted) → length f.places ≤ 512 → length f.place_labels ≡ length f.places → NoGap f.place_labels → AllDiffer
    (map (λ (p : Place). p.at) f.places) → AllNear (map (λ (p : Place). p.at) f.places) → FittedPlaces (fitted_model c f)
model_places c f few long gap diff near = record {
  few = few;
  no_gap = subst NoGap (sym (take_front f.place_labels (replicate 512 (negsuc 0)) _ (length f.places) (sym long) refl)) gap;
  differ = subst AllDiffer (sym places_are) diff;
  near = subst AllNear (sym places_are) near;
}
  where
    xs_are : take (length f.places) (fitted_model c f).xs ≡ place_xs f.places
    xs_are = take_front (place_xs f.places) (replicate 512 zero64) _ (length f.places) (sym (length_place_xs f.places)) refl

    ys_are : take (length f.places) (fitted_model c f).ys ≡ place_ys f.places
    ys_are = take_front (place_ys f.places) (replicate 512 zero64) _ (length f.places) (sym (length_place_ys f.places)) refl

    places_are : points (take (length f.places) (fitted_model c f).xs) (take (length f.places) (fitted_model c f).ys) ≡ map (λ (p : Place). p.at) f.places
    places_are = ap₂ points xs_are ys_are ∙ points_of f.places

module _ (m : Infostop) (xs ys times : List Float) (marks lens : List ℕ) (old : List ℤ) (cap floats words : ℕ) (r : Fit) (labels : List ℤ) where
  abbrev o : Outcome
  o = fit m.config xs ys times marks lens (length old) cap floats words

  -- For every fit that ends with labels.
  pub fitted_places : Ended m old o r labels → (k : Mark) (rounds : ℕ) → r.answer ≡ Ok (record { mark = k; rounds = rounds }) → FittedPlaces r.model
  fitted_places x k rounds a = go o refl x
    where
      go : (u : Outcome) → o ≡ u → Ended m old u r labels → FittedPlaces r.model
      go (refused e) q y =
          let t : told_by (Ok (record { mark = k; rounds = rounds })) ≡ told (refused e) = ap told_by (sym a) ∙ y.answer in
          absurd (let z : ◌≡◌ {A = ℕ} 0 1 = cc in omega arith)
      go (fitted f) q y =
          subst FittedPlaces (sym y.model)
          (model_places m.config f (fit_places_few m.config xs ys times marks lens (length old) cap floats words f q)
          (fit_place_labels m.config xs ys times marks lens (length old) cap floats words f q)
          (fit_no_gap m.config xs ys times marks lens (length old) cap floats words f q)
          (fit_differ m.config xs ys times marks lens (length old) cap floats words f q)
          (fit_near m.config xs ys times marks lens (length old) cap floats words f q))
