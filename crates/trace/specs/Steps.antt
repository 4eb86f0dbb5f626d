-- Serves the contracts of this crate's own functions; no public contract reaches it.
-- The marks of one trace.
use Rattle.std.specs.Prelude.{ℕ, Bool, List, eqb}
use Rattle.std.specs.List.{list_all}

-- Whether all marks are 1.
unfoldable pub all_marked : List ℕ → Bool
all_marked ms = list_all (λ (m : ℕ). eqb m 1) ms
