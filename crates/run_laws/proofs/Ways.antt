-- Ways along the links of a network, and groupings whose groups are joined by them. Definitions only.
use mathlib.Core.Path.{◌≡◌}
use Prim.Native.Nat.{ℕ, ◌<◌}
use mathlib.Core.Bool.{true}
use mathlib.Core.List.{List}
use lib.ListN.{length, get_or}
use lib.Ieee.{nan, lt}
use Rattle.float.specs.Binary64.{zero64}
use Rattle.map_state.specs.Network.{Network, row}

-- Node u has a link to node v: entry v of its row is above 0.
abbrev pub Linked : Network → ℕ → ℕ → Type 0
Linked net u v = lt zero64 (get_or (row net u) v nan) ≡ true

-- Every link goes both ways.
abbrev pub BothWays : Network → Type 0
BothWays net = (u v : ℕ) → u < length net.strength → v < length net.strength → lt zero64 (get_or (row net u) v nan) ≡ lt zero64 (get_or (row net v) u nan)

-- A way from one node to another, each linked to the next; a node alone is a way from itself to itself.
pub data Way (net : Network) : ℕ → ℕ → Type 0 where
  end : {u : ℕ} → Way net u u
  go : {u v w : ℕ} → v < length net.strength → Linked net u v → Way net v w → Way net u w

-- A grouping of the nodes in which two nodes of one group are joined by a way, which may pass through other groups.
pub record Joined (net : Network) (part : List ℕ) : Type 0 where
  pub long : length part ≡ length net.strength
  pub ways : (u v : ℕ) → u < length net.strength → v < length net.strength → get_or part u 0 ≡ get_or part v 0 → Way net u v
