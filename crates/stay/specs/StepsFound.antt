-- Serves the contracts of this crate's own functions; no public contract reaches it.
-- What `stays` asks for and what it ensures.
use Rattle.std.specs.Prelude.{ℕ, ◌+◌, ◌*◌, ◌/◌, ◌≤◌, ◌<◌, ◌^◌, ◌≡◌, List, map, ℤ, length, Float}
use Rattle.std.proofs.lemmas.List.Edits.{sets}
use Rattle.distance.specs.declared.Point.{Point}
use Rattle.distance.specs.Distance.{euclidean}
use Rattle.settings.specs.declared.config.Config.{Config}
use Rattle.lists.specs.StepsParts.{part}
use Rattle.trace.specs.Trace.{Fix}
use Rattle.stay.specs.Stays.{stay_medians}
use Rattle.stay.specs.StepsEvents.{event_map}

-- There is a number for each of n fixes, and a quarter of the work slice has room for the stays so far and n more.
pub record Lengths (n events work found : ℕ) : Type 0 where
  pub events_length : events ≡ n
  pub room : 4 * (found + n) ≤ work
  pub numbers : found + n < 2 ^ 31

-- The k-th quarter of a work slice, from 0.
abbrev pub quarter : ℕ → List Float → List Float
quarter k w = part (k * (length w / 4)) (length w / 4) w

-- Of the trace fs: the number of its stays; the stay number of each fix, counted from `found`; and its medians, written from place `found` on
-- into quarters 2 (x) and 3 (y) of the work slice, which are otherwise as they were. Quarters 0 and 1 are free.
pub record Found (s : Config) (fs : List Fix) (found : ℕ) (w v : List Float) (events : List ℤ) (r : ℕ) : Type 0 where
  pub count : r ≡ length (stay_medians euclidean s fs)
  pub numbered : events ≡ event_map euclidean s found fs
  pub medians_x : quarter 2 v ≡ sets (quarter 2 w) found (map (λ (p : Point). p.x) (stay_medians euclidean s fs))
  pub medians_y : quarter 3 v ≡ sets (quarter 3 w) found (map (λ (p : Point). p.y) (stay_medians euclidean s fs))
