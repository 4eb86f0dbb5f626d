-- Serves the contracts of this crate's own functions; no public contract reaches it.
-- What the slices of one case are: up to 400 fixes, a number for each, and a work slice of 1,600. Definitions only.
use Rattle.std.specs.Prelude.{◌≡◌, ℕ, ◌≤◌}

pub record Room (xs work events : ℕ) : Type 0 where
  pub events_length : events ≡ xs
  pub work_length : work ≡ 1600
  pub few : xs ≤ 400
