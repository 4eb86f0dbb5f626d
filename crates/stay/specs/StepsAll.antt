-- Serves the contracts of this crate's own functions; no public contract reaches it.
-- What `all_stays` asks for and what it ensures.
use Rattle.std.specs.Prelude.{ℕ, ◌+◌, ◌*◌, ◌≤◌, ◌≡◌, List, [], ◌∷◌, ◌++◌, ℤ, length, take, drop, Float}
use Rattle.distance.specs.declared.Point.{Point}
use Rattle.distance.specs.Distance.{Metric, euclidean, points}
use Rattle.settings.specs.declared.config.Config.{Config}
use Rattle.trace.specs.Trace.{Fix}
use Rattle.stay.specs.Stays.{stay_medians, all_medians}
use Rattle.stay.specs.StepsEvents.{event_map}

-- Of each fix, in order of the traces, the number of the accepted stay that it lies in, or -1. The stays of all traces are numbered in order, from k.
unfoldable pub all_events : Metric → Config → ℕ → List (List Fix) → List ℤ
all_events dist s k [] = []
all_events dist s k (t ∷ ts) = event_map dist s k t ++ all_events dist s (k + length (stay_medians dist s t)) ts

-- There is a number for each of n fixes, and the work slice is four times as long.
pub record AllRoom (n events work : ℕ) : Type 0 where
  pub events_length : events ≡ n
  pub work_length : work ≡ 4 * n
  pub few : n ≤ 65536

-- The medians of k stays, in the third and the fourth n of a work slice.
abbrev pub medians_in : ℕ → ℕ → List Float → List Point
medians_in n k work = points (take k (drop (2 * n) work)) (take k (drop (3 * n) work))

-- Of traces with n fixes: the number r of all their stays, at most n; the stay number of each fix; and the medians.
pub record AllFound (s : Config) (ts : List (List Fix)) (n : ℕ) (work : List Float) (events : List ℤ) (r : ℕ) : Type 0 where
  pub count : r ≡ length (all_medians euclidean s ts)
  pub few : r ≤ n
  pub numbered : events ≡ all_events euclidean s 0 ts
  pub medians : medians_in n r work ≡ all_medians euclidean s ts
