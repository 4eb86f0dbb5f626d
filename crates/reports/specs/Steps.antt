-- Serves the contracts of this crate's own functions; no public contract reaches it.
-- What the steps of the visits' code ask for and work out. Definitions only.
use Rattle.std.specs.Prelude.{◌≡◌, ℕ, ◌+◌, ◌*◌, ◌<◌, ◌≤◌, List, ℤ, take, drop}
use Rattle.distance.specs.declared.Point.{Point}
use Rattle.neighbors.specs.Places.{Place}
use Rattle.neighbors.specs.StepsPlaces.{place_points}
use Rattle.cluster.specs.FixLabels.{stay_labels}
use Rattle.infostop.specs.declared.model.Infostop.{Infostop}
use Rattle.infostop.specs.ModelPlaces.{model_labels}
use Rattle.reports.specs.Labels.{labels_in}

-- Room for the stays of a trace of n fixes in work slices of these lengths.
pub record StayRoom (n floats words : ℕ) : Type 0 where
  pub few : n ≤ 65536
  pub floats_room : 4 * n ≤ floats
  pub words_room : n + n ≤ words

-- The labels of a trace's r stays, at most n, which have the medians ms: behind the first n words. The places are at the points qs.
pub record LabelledStays (n : ℕ) (qs : List Point) (pl : List ℤ) (ms : List Point) (words : List ℤ) (r : ℕ) : Type 0 where
  pub few : r ≤ n
  pub labels : (ps : List Place) → place_points ps ≡ qs → take r (drop n words) ≡ stay_labels ps pl ms

-- What the visits are written from: a trace of those of tracks with `fixes` fixes, the number `count` of the model's labels, and room for work and answer.
-- `floats`, `words` and `out` are the lengths of the lent slices.
pub record VisitsAsked (m : Infostop) (count fixes traces trace floats words out : ℕ) : Type 0 where
  pub few : fixes ≤ 65536
  pub floats_room : 4 * fixes ≤ floats
  pub words_room : 4 * fixes ≤ words
  pub there : trace < traces
  pub labels : count ≡ labels_in (model_labels m)
  pub room : count ≤ out
