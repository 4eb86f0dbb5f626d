-- Serves the contracts of this crate's own functions; no public contract reaches it.
-- What the code's enum answers, and what its search for the next candidate finds.
use Rattle.std.specs.Prelude.{◌≡◌, ℕ, ◌<◌, ◌≤◌, true, List, Option, Some, None, length, get_or, Float}
use Rattle.std.specs.Float.{nan}
use Rattle.std.specs.Float.Ieee.{lt}
use Rattle.float.specs.Binary64.{zero64}
use Rattle.map_state.specs.Network.{Network}
use Rattle.map_state.specs.MapState.{MapState, stats_of}
use Rattle.map_state.specs.Steps.{AtNode}
use Rattle.map_state.specs.declared.ModuleStats.{ModuleStats}
use Rattle.scan.specs.Scan.{Answer, no_move, move, highest_from}
use Rattle.scan.specs.declared.Candidate.{Candidate}
use Rattle.scan.specs.declared.Scan.{Scan}
use Rattle.scan.specs.declared.Scan.TheVariants.{Stay, Move}

-- What each case of the code's enum answers.
unfoldable pub answer_of : Scan → Answer
answer_of Stay = no_move
answer_of (Move g change) = move g change

-- c is a neighbour's group at or above `floor`, and of the neighbours below k none has a lower one.
pub record Lowest (part : List ℕ) (ws : List Float) (floor k : ℕ) (c : Candidate) : Type 0 where
  pub inside : c.member < length part
  pub near : lt zero64 (get_or ws c.member nan) ≡ true
  pub number : c.group ≡ get_or part c.member 0
  pub up : floor ≤ c.group
  pub least : (v : ℕ) → v < k → lt zero64 (get_or ws v nan) ≡ true → floor ≤ get_or part v 0 → c.group ≤ get_or part v 0

-- What a search among the neighbours below k finds; none where all their groups are below `floor`.
abbrev pub Next : List ℕ → List Float → ℕ → ℕ → Option Candidate → Type 0
Next part ws floor k (Some c) = Lowest part ws floor k c
Next part ws floor k None = (v : ℕ) → v < k → lt zero64 (get_or ws v nan) ≡ true → get_or part v 0 < floor

-- A node u whose scan is at node v: `src` are the sums of u's group.
abbrev pub AtPair : Network → MapState → ℕ → ModuleStats → ℕ → Type 0
AtPair net s u src v = (AtNode net s u) × (v < length s.partition) × (src ≡ stats_of s (get_or s.partition u 0))

-- A node u that can be tested: there is a free number for a new group.
abbrev pub Testable : Network → MapState → ℕ → Type 0
Testable net s u = (AtNode net s u) × (highest_from 0 s.partition < 1000000)
