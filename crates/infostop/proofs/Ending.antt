-- From the places and their clustering to the end of the fit.
use mathlib.Core.Path.{◌≡◌, refl, sym, ap, ◌∙◌, subst}
use mathlib.Core.Bool.{Bool, true, false}
use mathlib.Core.List.{List, ◌++◌}
use Rattle.std.specs.Prelude.{Result, Ok, Err}
use Prim.Native.Nat.{ℕ, ◌*◌, ◌≤◌}
use native.Mathlib.Omega.{arith}
use borrow.Author.Tests.{le-ltb, lt-ltb}
use lib.Dec.{ltb}
use lib.IntN.{ℤ, negsuc}
use lib.ListN.{length, take, drop}
use lib.Ieee.{Float}
use Rattle.lists.specs.Lists.{overlay}
use Rattle.distance.specs.declared.Point.{Point}
use Rattle.distance.specs.Distance.{euclidean}
use Rattle.trace.specs.Trace.{Fix}
use Rattle.neighbors.specs.Places.{Place, places}
use Rattle.neighbors.specs.StepsPlaces.{front}
use Rattle.cluster.specs.Cluster.{Clustering, cluster, none_labelled}
use Rattle.infomap.specs.Infomap.{RunMark}
use Rattle.settings.specs.declared.config.Config.{Config}
use Rattle.settings.specs.declared.refusal.Refusal.{Refusal}
use Rattle.settings.specs.declared.refusal.Refusal.TheVariants.{TooManyPlaces}
use Rattle.stay.specs.Stays.{all_medians}
use Rattle.cluster.specs.FixLabels.{fix_labels, stay_labels}
use Rattle.cluster.specs.Steps.{event_labels}
use Rattle.stay.specs.StepsAll.{AllFound}
use Rattle.cluster.proofs.FixLabels.{found_labels}
use Rattle.infostop.specs.Fit.{Fitted, Outcome, refused, fitted, unless_none, given_by, from_places}
use Rattle.infostop.specs.declared.model.Infostop.{Infostop}
use Rattle.infostop.specs.declared.answer.Labelled.{Labelled}
use Rattle.infostop.specs.declared.answer.Fit.{Fit}
use Rattle.infostop.specs.declared.steps.PlaceArrays.{PlaceArrays}
use Rattle.infostop.specs.Models.{fitted_model, model_after}
use Rattle.infostop.specs.Ends.{refused_with, labelled_by, told, told_by, labels_after, Ended}
use Rattle.stay.specs.StepsAll.{medians_in}
use Rattle.stay.proofs.MediansRead.{medians_front}
use Rattle.infostop.specs.Steps.{Space, in_arrays, places_found, from_clustering, outcome_in, Grouped, handed_back, places_outcome}
use Rattle.infostop.proofs.Arrays.{array, array_part, array_whole}
use Rattle.infostop.proofs.Placed.{found_some, found_none, count_few, front_is}

-- A refusal that is the outcome.
pub refused_ends : (m : Infostop) (old : List ℤ) (o : Outcome) (e : Refusal) → o ≡ refused e → Ended m old o (handed_back (Err e) m) old
refused_ends m old o e q = record { answer = ap told (sym q); model = ap (model_after m) (sym q); fixes = ap (labels_after old) (sym q) }

pub no_kept : {A : Type 0} (m : RunMark) (r n t : ℕ) → labelled_by m r ≡ refused_with n t → A
no_kept m r n t q = absurd (let z : ◌≡◌ {A = ℕ} 0 1 = cc in omega arith)

-- An answer with the next model, a refusal with the old one.
abbrev pub with_model : Infostop → Infostop → Result Labelled Refusal → Fit
with_model m next (Ok k) = handed_back (Ok k) next
with_model m next (Err e) = handed_back (Err e) m

-- An answer that tells the outcome, with the model that fits it.
ended : (m next : Infostop) (old labels : List ℤ) (o : Outcome) (a : Result Labelled Refusal) → told_by a ≡ told o → ((f : Fitted) → o ≡ fitted f → next ≡ fitted_model m.config f) → labels ≡ labels_after old o
    → Ended m old o (with_model m next a) labels
ended m next old labels (refused e) (Ok k) q h l = no_kept _ _ _ _ q
ended m next old labels (refused e) (Err e') q h l = record { answer = q; model = refl; fixes = l }
ended m next old labels (fitted f) (Ok k) q h l = record { answer = q; model = h f refl; fixes = l }
ended m next old labels (fitted f) (Err e) q h l = no_kept _ _ _ _ (sym q)

unless_fitted : (b : Bool) (g f : Fitted) → unless_none b g ≡ fitted f → f ≡ g
unfolding unless_none
unless_fitted true g f e = absurd (let z : ◌≡◌ {A = ℕ} 0 1 = cc in omega arith)
unless_fitted false g f e = let q : g ≡ f = cc in sym q

module _ (m : Infostop) (cap k : ℕ) (floats : List Float) (words old : List ℤ) (ts : List (List Fix)) (few_stays : k ≤ length old) (room : 4 * length old ≤ length floats)
    (f : AllFound m.config ts (length old) (take (4 * length old) floats) (take (length old) words) k) where
  abbrev c : Config
  c = m.config

  abbrev ps : List Place
  ps = places (all_medians euclidean c ts)

  abbrev K : Clustering
  K = cluster euclidean c.r2 c.label_singleton c.seed ps

  in_front : medians_in (length old) k (take (4 * length old) floats) ≡ medians_in (length old) k floats
  in_front = medians_front (length old) k floats few_stays room

  pub medians_found : medians_in (length old) k floats ≡ all_medians euclidean c ts
  medians_found = sym in_front ∙ f.medians

  labels_found : event_labels (stay_labels ps K.labels (medians_in (length old) k floats)) (take (length old) words) ≡ fix_labels euclidean c ps K.labels ts
  labels_found =
      ap (λ (z : List Point). event_labels (stay_labels ps K.labels z) (take (length old) words)) (sym in_front) ∙ found_labels c ts (length old)
      (take (4 * length old) floats) (take (length old) words) k f ps K.labels

  -- More places than the cap is 19.
  pub too_many_outcome : ltb cap (length ps) ≡ true → places_outcome c cap ts ≡ refused TooManyPlaces
  unfolding from_places
  too_many_outcome e = ap (from_places euclidean c cap ts ps) e

  outcome_is : ltb cap (length ps) ≡ false → places_outcome c cap ts ≡ unless_none (none_labelled K.labels) (given_by euclidean c cap ts ps K)
  unfolding from_places
  outcome_is e = ap (from_places euclidean c cap ts ps) e

  clustered : from_clustering ps (medians_in (length old) k floats) (take (length old) words) K ≡ unless_none (none_labelled K.labels) (given_by euclidean c cap ts ps K)
  unfolding from_clustering given_by
  clustered = ap (λ (z : List ℤ). unless_none (none_labelled K.labels) (record { labels = z; places = ps; place_labels = K.labels; mark = K.mark; rounds = K.rounds })) labels_found

  module _ (few : length ps ≤ cap) (a : Result Labelled Refusal) (pl labels : List ℤ) (g : Grouped c k ps floats words old a pl labels) where
    outcomes : outcome_in c k ps floats words old ≡ places_outcome c cap ts
    outcomes = clustered ∙ sym (outcome_is (le-ltb cap (length ps) few))

    -- The model of these places, with their labels.
    abbrev next : List ℤ → Infostop
    next l = record { config = c; xs = (in_arrays ps).xs; ys = (in_arrays ps).ys; labels = overlay l (array (negsuc 0)); count = length ps; fitted = true }

    pub placed_end : Ended m old (places_outcome c cap ts) (with_model m (next pl) a) labels
    unfolding given_by
    placed_end =
        ended m (next pl) old labels (places_outcome c cap ts) a (g.answer ∙ ap told outcomes)
        (λ h q. let r = unless_fitted _ (given_by euclidean c cap ts ps K) h (sym (outcome_is (le-ltb cap (length ps) few)) ∙ q) in
        ap next g.of_places ∙ ap (fitted_model c) (sym r))
        (g.of_fixes ∙ ap (labels_after old) outcomes)

-- ---- what `from_medians` comes to
module _ (m : Infostop) (cap k : ℕ) (floats : List Float) (words old : List ℤ) (few : cap ≤ 512) (space : Space (length old) k cap (length floats) (length words)) (ts : List (List Fix))
    (f : AllFound m.config ts (length old) (take (4 * length old) floats) (take (length old) words) k) (ms : List Point) (are : ms ≡ medians_in (length old) k floats) where
  room : 4 * length old ≤ length floats
  room = omega (arith, space.floats_length)

  abbrev qs : List Place
  qs = ps m cap k floats words old ts space.few_stays room f

  found_is : places ms ≡ qs
  found_is = ap places (are ∙ medians_found m cap k floats words old ts space.few_stays room f)

  pub too_many_end : (e : Refusal) → Err e ≡ places_found cap (places ms) → Ended m old (places_outcome m.config cap ts) (handed_back (Err e) m) old
  too_many_end e h =
      let q = found_none cap (places ms) e h in
      refused_ends m old (places_outcome m.config cap ts) e
      (rw q.1 (too_many_outcome m cap k floats words old ts space.few_stays room f (rw found_is at (lt-ltb cap (length (places ms)) q.0))))

  module _ (a : PlaceArrays) (e : Ok a ≡ places_found cap (places ms)) (r : Result Labelled Refusal) (pl labels : List ℤ) (long : length pl ≡ length (take a.count (array (negsuc 0))))
      (g : Grouped m.config k (front a.xs a.ys a.counts a.count) floats words old r pl labels) where
    arrays_are : a ≡ in_arrays qs
    arrays_are = (found_some cap (places ms) a e).1 ∙ ap in_arrays found_is

    end : Ended m old (places_outcome m.config cap ts)
        (with_model m (record { config = m.config; xs = a.xs; ys = a.ys; labels = overlay pl (array (negsuc 0)); count = a.count; fitted = true }) r) labels
    end =
        subst
        (λ (z : PlaceArrays). Ended m old (places_outcome m.config cap ts)
        (with_model m (record { config = m.config; xs = z.xs; ys = z.ys; labels = overlay pl (array (negsuc 0)); count = z.count; fitted = true }) r) labels) (sym arrays_are)
        (placed_end m cap k floats words old ts space.few_stays room f (subst (λ (z : List Place). length z ≤ cap) found_is (found_some cap (places ms) a e).0) r pl labels
        (subst (λ (z : List Place). Grouped m.config k z floats words old r pl labels) (front_is a qs arrays_are) g))

    -- s is the answer, as far as it is looked at.
    pub medians_end : (s : Result Labelled Refusal) → r ≡ s → Ended m old (places_outcome m.config cap ts)
        (with_model m (record { config = m.config; xs = a.xs; ys = a.ys; labels = pl ++ drop a.count (array (negsuc 0)); count = a.count; fitted = true }) s) labels
    medians_end s q = rw (← q, array_whole (negsuc 0) pl a.count (long ∙ array_part (negsuc 0) a.count (count_few cap (places ms) a few e))) end
