-- docs/RULES.md, "Stays" and "Grid": the groups of a trace, which of them are stays, and their medians on the grid; and those of all traces. Definitions only.
use Rattle.std.specs.Prelude.{◌-◌, Bool, not, ◌&&◌, ◌||◌, length, get_or, Float}
use Rattle.std.proofs.Math.Bool.{true, false, cond}
use mathlib.Core.List.{List, [], ◌∷◌, ◌++◌, map}
use Rattle.std.proofs.Math.Option.{Option, none, some}
use Rattle.std.proofs.Math.Dec.{leb}
use Rattle.std.proofs.Math.ListN.{replicate}
use Rattle.std.specs.Float.{nan}
use Rattle.std.specs.Float.Ieee.{le, sub}
use Rattle.float.specs.Binary64.{sub64}
use Rattle.distance.specs.declared.Point.{Point}
use Rattle.settings.specs.declared.config.Config.{Config}
use Rattle.distance.specs.Distance.{Metric}
use Rattle.distance.specs.Grid.{point_on_grid}
use Rattle.stay.specs.Ordered.{ordered, median}
use Rattle.trace.specs.Trace.{Fix, timed}

-- A group is a list of fixes that follow each other. Its median: each coordinate's by itself.
unfoldable pub middle : List Fix → Point
unfolding ordered median
middle g = record { x = median (ordered (map (λ (f : Fix). f.at.x) g)); y = median (ordered (map (λ (f : Fix). f.at.y) g)) }

-- The median of an accepted stay: "each coordinate of a median becomes round(c / res) × res before places are told apart". Places, links, chains, the rule
-- for -1 and visits take this one; the join test measures from `middle`.
unfoldable pub stay_median : Config → List Fix → Point
unfolding middle point_on_grid
stay_median s g = point_on_grid s.min_spatial_resolution (middle g)

-- The time b less the time a. Without the two times it is NaN, which is within no bound.
unfoldable pub since : Option Float → Option Float → Float
unfolding sub
since none b = nan
since (some s) none = nan
since (some s) (some t) = sub64 t s

-- The times of a group's first and last fix.
unfoldable pub first_time : List Fix → Option Float
first_time g = get_or (map (λ (f : Fix). f.time) g) 0 none

unfoldable pub last_time : List Fix → Option Float
last_time g = get_or (map (λ (f : Fix). f.time) g) (length g - 1) none

module _ (dist : Metric) (s : Config) where
  -- "A fix joins if its distance to the median is <= r1 and, when timed, its time less the last is <= max_time_between."
  unfoldable pub joins : Bool → List Fix → Fix → Bool
  unfolding le middle since last_time
  joins t g f = le (dist f.at (middle g)) s.r1 && (not t || le (since (last_time g) f.time) s.max_time_between)

  -- "A fix that doesn't join closes the group and opens the next; the trace's end closes the last": the open group, then the fixes to come.
  unfoldable pub groups_from : Bool → List Fix → List Fix → List (List Fix)
  unfolding joins
  groups_from t g [] = g ∷ []
  groups_from t g (f ∷ fs) = elim (joins t g f) [ true ↦ groups_from t (g ++ (f ∷ [])) fs | false ↦ g ∷ groups_from t (f ∷ []) fs ]

  -- The groups of a trace, closed one after the other.
  unfoldable pub groups : List Fix → List (List Fix)
  unfolding groups_from timed
  groups [] = []
  groups (f ∷ fs) = groups_from (timed (f ∷ fs)) (f ∷ []) fs

-- Which of the groups are stays.
module _ (s : Config) where
  -- "A closed group is a stay if it has at least min_size fixes and, when timed, last less first time is >= min_staying_time."
  unfoldable pub is_stay : Bool → List Fix → Bool
  unfolding le since first_time last_time
  is_stay t g = leb s.min_size (length g) && (not t || le s.min_staying_time (since (first_time g) (last_time g)))

  -- The medians of those that are stays, on the grid.
  unfoldable pub medians_of : Bool → List (List Fix) → List Point
  unfolding is_stay stay_median
  medians_of t [] = []
  medians_of t (g ∷ gs) = let r = medians_of t gs in cond (is_stay t g) (stay_median s g ∷ r) r

  -- For each fix of the groups the median of the accepted stay it lies in, or none.
  unfoldable pub fix_medians_of : Bool → List (List Fix) → List (Option Point)
  unfolding is_stay stay_median
  fix_medians_of t [] = []
  fix_medians_of t (g ∷ gs) = replicate (length g) (cond (is_stay t g) (some (stay_median s g)) none) ++ fix_medians_of t gs

module _ (dist : Metric) (s : Config) where
  -- Of one trace, on the grid: the medians of its accepted stays, in order; of each fix the median of the accepted stay that it lies in, or none.
  unfoldable pub stay_medians : List Fix → List Point
  unfolding groups medians_of
  stay_medians fs = medians_of s (timed fs) (groups dist s fs)

  unfoldable pub fix_medians : List Fix → List (Option Point)
  unfolding groups fix_medians_of
  fix_medians fs = fix_medians_of s (timed fs) (groups dist s fs)

-- The medians of the accepted stays of all traces, on the grid, in order.
unfoldable pub all_medians : Metric → Config → List (List Fix) → List Point
all_medians dist s [] = []
all_medians dist s (t ∷ ts) = stay_medians dist s t ++ all_medians dist s ts

-- Of each fix, in order of the traces, the median, on the grid, of the accepted stay that it lies in, or none.
unfoldable pub all_fix_medians : Metric → Config → List (List Fix) → List (Option Point)
all_fix_medians dist s [] = []
all_fix_medians dist s (t ∷ ts) = fix_medians dist s t ++ all_fix_medians dist s ts
