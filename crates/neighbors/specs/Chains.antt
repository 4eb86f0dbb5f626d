-- Chains of places over the computed distance (docs/RULES.md, "Links"). Definitions only.
use Rattle.std.specs.Prelude.{◌≡◌, ℕ, ◌<◌, true, List, length, Float}
use Rattle.neighbors.specs.Places.{Place}
use Rattle.distance.specs.Distance.{Metric}
use Rattle.neighbors.specs.Links.{link}

-- A list of places from i to k, each linked to the next; one place alone is a chain from itself to itself.
pub data Chain (dist : Metric) (r2 : Float) (ps : List Place) : ℕ → ℕ → Type 0 where
  alone : {i : ℕ} → i < length ps → Chain dist r2 ps i i
  step : {i j k : ℕ} → i < length ps → link dist r2 ps i j ≡ true → Chain dist r2 ps j k → Chain dist r2 ps i k
