-- Serves the contracts of this crate's own functions; no public contract reaches it.
-- What the steps of the code ask for and work out.
use Rattle.std.specs.Prelude.{◌≡◌, ℕ, ◌+◌, ◌*◌, ◌<◌, ◌≤◌, cond, List, leb, ltb, ℤ, length, take, replicate, Float, Result, Ok, Err}
use Rattle.lists.specs.Lists.{overlay}
use Rattle.float.specs.Binary64.{zero64}
use Rattle.distance.specs.declared.Point.{Point}
use Rattle.distance.specs.Distance.{euclidean}
use Rattle.trace.specs.Trace.{Fix}
use Rattle.neighbors.specs.Places.{Place, place_at, places, place_xs, place_ys}
use Rattle.neighbors.specs.StepsPlaces.{stay_count, place_counts}
use Rattle.cluster.specs.Cluster.{Clustering, cluster, none_labelled}
use Rattle.stay.specs.Stays.{all_medians}
use Rattle.stay.specs.StepsAll.{medians_in, AllFound}
use Rattle.cluster.specs.FixLabels.{stay_labels}
use Rattle.cluster.specs.Steps.{event_labels}
use Rattle.settings.specs.declared.config.Config.{Config}
use Rattle.settings.specs.declared.refusal.Refusal.{Refusal}
use Rattle.settings.specs.declared.refusal.Refusal.TheVariants.{TooManyPlaces}
use Rattle.infostop.specs.Fit.{Fitted, Outcome, unless_none, from_places, fit_traces}
use Rattle.infostop.specs.declared.model.Infostop.{Infostop}
use Rattle.infostop.specs.declared.steps.PlaceArrays.{PlaceArrays}
use Rattle.infostop.specs.declared.answer.Labelled.{Labelled}
use Rattle.infostop.specs.declared.answer.Fit.{Fit}
use Rattle.infostop.specs.Ends.{told, told_by, labels_after, Ended}

-- At most 512 places, and so many labels: each place has a stay, and all have at most 65,536.
pub record PlaceSlices (ps : List Place) (labels : ℕ) : Type 0 where
  pub labels_length : labels ≡ length ps
  pub few : length ps ≤ 512
  pub counted : (i : ℕ) → i < length ps → 0 < (place_at ps i).count
  pub stays : stay_count ps ≤ 65536

-- Places in front of arrays of 512.
abbrev pub in_arrays : List Place → PlaceArrays
in_arrays ps =
    record {
      xs = overlay (place_xs ps) (replicate 512 zero64);
      ys = overlay (place_ys ps) (replicate 512 zero64);
      counts = overlay (place_counts ps) (replicate 512 0);
      count = length ps;
    }

-- Those that are no more than the cap; 19 for more.
unfoldable pub places_found : ℕ → List Place → Result PlaceArrays Refusal
places_found cap ps = cond (leb (length ps) cap) (Ok (in_arrays ps)) (Err TooManyPlaces)

-- Room for n fixes with k stays and p places in work slices of these lengths.
pub record Space (n k p floats words : ℕ) : Type 0 where
  pub few_fixes : n ≤ 65536
  pub few_stays : k ≤ n
  pub floats_length : 4 * n + p * p ≤ floats
  pub words_length : n + n ≤ words

-- What is given for places whose clustering is k: the stays have the medians ms, and the fixes the stay numbers es.
abbrev pub fitted_by : List Place → List Point → List ℤ → Clustering → Fitted
fitted_by ps ms es k = record { labels = event_labels (stay_labels ps k.labels ms) es; places = ps; place_labels = k.labels; mark = k.mark; rounds = k.rounds }

unfoldable pub from_clustering : List Place → List Point → List ℤ → Clustering → Outcome
from_clustering ps ms es k = unless_none (none_labelled k.labels) (fitted_by ps ms es k)

-- What `label_tracks` works out from places, the work slices and the labels before.
module _ (c : Config) (k : ℕ) (ps : List Place) (floats : List Float) (words old : List ℤ) where
  abbrev pub clustering_in : Clustering
  clustering_in = cluster euclidean c.r2 c.label_singleton c.seed ps

  abbrev pub outcome_in : Outcome
  outcome_in = from_clustering ps (medians_in (length old) k floats) (take (length old) words) clustering_in

  pub record Grouped (a : Result Labelled Refusal) (place_labels labels : List ℤ) : Type 0 where
    pub of_places : place_labels ≡ clustering_in.labels
    pub answer : told_by a ≡ told outcome_in
    pub of_fixes : labels ≡ labels_after old outcome_in

-- What a fit hands back, by its answer and the model that it leaves.
abbrev pub handed_back : Result Labelled Refusal → Infostop → Fit
handed_back a m = record { answer = a; model = m }

-- The fit from the distinct medians of the traces on: 19, then the grouping.
abbrev pub places_outcome : Config → ℕ → List (List Fix) → Outcome
places_outcome c cap ts = let ps = places (all_medians euclidean c ts) in from_places euclidean c cap ts ps (ltb cap (length ps))

-- The labels of n fixes by their stays, whose numbers stand in front of `words`.
abbrev pub FixLabelsAre : List Point → List Place → List ℤ → List ℤ → ℕ → List ℤ → Type 0
FixLabelsAre ms ps pl words n labels = labels ≡ event_labels (stay_labels ps pl ms) (take n words)

-- How a fit ends whose stays are found: their medians and numbers stand in the work slices.
abbrev pub EndsFromStays : Infostop → ℕ → ℕ → List Float → List ℤ → List ℤ → Fit → List ℤ → Type 0
EndsFromStays m k cap floats words old r labels =
    (ts : List (List Fix)) → AllFound m.config ts (length old) (take (4 * length old) floats) (take (length old) words) k
    → Ended m old (places_outcome m.config cap ts) r labels

-- How a fit of tracks ends that have passed the checks.
abbrev pub EndsFromTracks : Infostop → List (List Fix) → List ℤ → ℕ → Fit → List ℤ → Type 0
EndsFromTracks m ts old cap r labels = Ended m old (fit_traces euclidean m.config cap ts) r labels
