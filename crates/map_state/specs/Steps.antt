-- Serves the contracts of this crate's own functions; no public contract reaches it.
-- What the code's functions ask of the network and of the state, and what holds of the code's slices.
use Rattle.std.specs.Prelude.{◌≡◌, ℕ, ◌+◌, ◌*◌, ◌<◌, ◌≤◌, cond, List, eqb, length, get_or, take, Float}
use Rattle.map_state.specs.Network.{Network}
use Rattle.map_state.specs.MapState.{MapState, lowest, stats_of, store_at}
use Rattle.map_state.specs.declared.ModuleStats.{ModuleStats}

abbrev pub net_of : List Float → ℕ → List Float → Float → Network
net_of table stride strength d = record { table = table; stride = stride; strength = strength; d = d }

-- The table has a row for each of n nodes, at most 512, and all of them at the full stride.
pub record Rows (table : List Float) (stride n : ℕ) : Type 0 where
  pub narrow : stride ≤ 512
  pub wide : n ≤ stride
  pub rows : n * stride ≤ length table

-- The table has a row for each of n nodes, at most 512: n numbers of it. The last may end there, and rows may share numbers.
pub record EachRow (table : List Float) (stride n : ℕ) : Type 0 where
  pub narrow : stride ≤ 512
  pub few : n ≤ 512
  pub inside : (u : ℕ) → u < n → u * stride + n ≤ length table

-- Of each node the lowest member of its group.
unfoldable pub Firsts : List ℕ → List ℕ → Type 0
Firsts part first = (v : ℕ) → v < length part → get_or first v 0 ≡ lowest (get_or part v 0) part

-- The groups' sums of at most 512 nodes.
abbrev pub Summed : List ℕ → List Float → List Float → Type 0
Summed part exits strengths = (length part ≤ 512) × (length exits ≡ length part) × (length strengths ≡ length part)

-- The lists of a state are of one length, at most 512.
abbrev pub Even : MapState → Type 0
Even s = Summed s.partition s.exits s.strengths

-- A state of the network's nodes, and one of them.
abbrev pub Fits : Network → MapState → Type 0
Fits net s = length net.strength ≡ length s.partition

abbrev pub AtNode : Network → MapState → ℕ → Type 0
AtNode net s u = Fits net s × (u < length s.partition)

-- The sums of u's group and of group h, which it moves to.
abbrev pub MoveSums : MapState → ℕ → ℕ → ModuleStats → ModuleStats → Type 0
MoveSums s u h src dest = (src ≡ stats_of s (get_or s.partition u 0)) × (dest ≡ stats_of s h)

-- The slices have room for at most 512 nodes.
abbrev pub Room : List ℕ → List ℕ → List Float → List Float → Type 0
Room part first exits strengths = (length part ≤ 512) × (length part ≤ length first) × (length part ≤ length exits) × (length part ≤ length strengths)

-- Of the nodes, `after` is `xs` with x stored at the lowest member of group g.
abbrev pub StoredAt : List ℕ → List Float → List Float → ℕ → Float → Type 0
StoredAt part xs after g x = take (length part) after ≡ store_at part (take (length part) xs) g x

-- `after` is `first` with the members of group g given a.
abbrev pub Renewed : List ℕ → List ℕ → List ℕ → ℕ → ℕ → Type 0
Renewed part first after g a = (v : ℕ) → v < length part → get_or after v 0 ≡ cond (eqb (get_or part v 0) g) a (get_or first v 0)
