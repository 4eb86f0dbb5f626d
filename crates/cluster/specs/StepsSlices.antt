-- Serves the contracts of this crate's own functions; no public contract reaches it.
-- What the code's slices and answer stand for.
use Rattle.std.specs.Prelude.{◌≡◌, Bool, ℕ, ◌*◌, ◌<◌, ◌≤◌, List, ℤ, length, Float}
use Rattle.neighbors.specs.Places.{Place, place_at}
use Rattle.neighbors.specs.StepsPlaces.{stay_count}
use Rattle.neighbors.specs.StepsTables.{Square, Tabled}
use Rattle.neighbors.specs.Links.{weight, nodes}
use Rattle.distance.specs.Distance.{Metric}
use Rattle.infomap.specs.Infomap.{mark_of}
use Rattle.infomap.specs.declared.Kept.{Kept}
use Rattle.cluster.specs.Cluster.{Clustering, cluster}

abbrev pub clustering_of : List ℤ → Kept → Clustering
clustering_of labels k = record { labels = labels; mark = mark_of k.mark; rounds = k.rounds; codelength = k.codelength }

-- A table for at most 512 places: each has a stay, and all have at most 65,536.
pub record Countable (ps : List Place) (t : List Float) : Type 0 where
  pub square : Square ps t
  pub counted : (i : ℕ) → i < length ps → 0 < (place_at ps i).count
  pub stays : stay_count ps ≤ 65536

-- From the table of n places and their nodes: whatever places they are, this is their clustering.
abbrev pub ClusteredFrom : ℕ → List Float → List ℕ → Bool → ℕ → List ℤ → Kept → Type 0
ClusteredFrom n t linked single seed labels r =
    (dist : Metric) (r2 : Float) (ps : List Place) → length ps ≡ n → Tabled (weight dist r2 ps) n t (n * n) → linked ≡ nodes dist r2 ps
    → clustering_of labels r ≡ cluster dist r2 single seed ps
