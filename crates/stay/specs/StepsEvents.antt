-- Serves the contracts of this crate's own functions; no public contract reaches it.
-- The stay numbers of the fixes of one trace.
use Rattle.std.specs.Prelude.{ℕ, suc, Bool, true, false, cond, ℤ, pos, negsuc, length}
use mathlib.Core.List.{List, [], ◌∷◌, ◌++◌}
use Rattle.std.proofs.Math.ListN.{replicate}
use Rattle.distance.specs.Distance.{Metric}
use Rattle.settings.specs.declared.config.Config.{Config}
use Rattle.trace.specs.Trace.{Fix, timed}
use Rattle.stay.specs.Stays.{is_stay, groups}

-- The number of an accepted stay, or -1.
unfoldable pub event_number : Bool → ℕ → ℤ
event_number true k = pos k
event_number false k = negsuc 0

module _ (s : Config) where
  -- For each fix of the groups the number of its stay, counted from k, or -1.
  unfoldable pub events_from : Bool → ℕ → List (List Fix) → List ℤ
  unfolding is_stay event_number
  events_from t k [] = []
  events_from t k (g ∷ gs) = replicate (length g) (event_number (is_stay s t g) k) ++ events_from t (cond (is_stay s t g) (suc k) k) gs

module _ (dist : Metric) (s : Config) where
  -- Of one trace, counted from k.
  unfoldable pub event_map : ℕ → List Fix → List ℤ
  unfolding groups events_from
  event_map k fs = events_from s (timed fs) k (groups dist s fs)
