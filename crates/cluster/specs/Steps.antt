-- Serves the contracts of this crate's own functions; no public contract reaches it.
-- The labels that stays and fixes have by their stay numbers.
use Rattle.std.specs.Prelude.{List, map, ◌≡◌, ℤ, pos, negsuc, get_or}
use Rattle.std.proofs.Math.Option.{some}
use Rattle.distance.specs.declared.Point.{Point}
use Rattle.neighbors.specs.Places.{Place}
use Rattle.neighbors.specs.StepsPlaces.{place_points}
use Rattle.cluster.specs.FixLabels.{label_for, stay_labels}

-- The label of a stay by its number; -1 for -1.
unfoldable pub event_label : List ℤ → ℤ → ℤ
event_label stay_labels (pos n) = get_or stay_labels n (negsuc 0)
event_label stay_labels (negsuc n) = negsuc 0

unfoldable pub event_labels : List ℤ → List ℤ → List ℤ
event_labels stay_labels events = map (event_label stay_labels) events

-- l is the label of a stay with the median m, by the places at the points qs, whatever their counts.
abbrev pub MedianLabelIs : List Point → List ℤ → Point → ℤ → Type 0
MedianLabelIs qs pl m l = (ps : List Place) → place_points ps ≡ qs → l ≡ label_for ps pl (some m)

-- `out` holds the labels of the stays with the medians ms, by the places at the points qs, whatever their counts.
abbrev pub StayLabelsAre : List Point → List Point → List ℤ → List ℤ → Type 0
StayLabelsAre ms qs pl out = (ps : List Place) → place_points ps ≡ qs → out ≡ stay_labels ps pl ms
