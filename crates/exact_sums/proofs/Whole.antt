-- Networks whose weights are whole numbers, and the sums of a partition as whole numbers. Definitions only.
use mathlib.Core.Path.{◌≡◌}
use Prim.Native.Nat.{ℕ, zero, suc, ◌^◌, ◌<◌, ◌≤◌}
use mathlib.Core.Bool.{◌||◌, cond}
use mathlib.Core.List.{List, [], ◌∷◌}
use lib.Dec.{eqb}
use lib.ListN.{length, get_or}
use lib.Ieee.{Float, nan}
use Rattle.lists.proofs.Sums.{sum, only}
use Rattle.float.specs.Binary64.{whole64}
use Rattle.map_state.specs.Network.{Network, row}
use Rattle.map_state.specs.MapState.{count}
use Rattle.map_state.specs.declared.ModuleStats.{ModuleStats}

-- The whole numbers f 0, .., f (n - 1) as floats.
unfoldable pub wholes : ℕ → (ℕ → ℕ) → List Float
wholes zero f = []
wholes (suc n) f = whole64 (f 0) ∷ wholes n (λ v. f (suc v))

-- The weights are the whole numbers w: alike both ways, 0 from a node to itself, and together at most 2^52.
pub record WholeWeights (net : Network) (w : ℕ → ℕ → ℕ) : Type 0 where
  pub rows : (u : ℕ) → u < length net.strength → row net u ≡ wholes (length net.strength) (w u)
  pub strengths : (u : ℕ) → u < length net.strength → get_or net.strength u nan ≡ whole64 (sum (length net.strength) (w u))
  pub both : (u v : ℕ) → u < length net.strength → v < length net.strength → w u v ≡ w v u
  pub none : (u : ℕ) → u < length net.strength → w u u ≡ 0
  pub small : sum (length net.strength) (λ u. sum (length net.strength) (w u)) ≤ 2 ^ 52

-- Of the weights f to the nodes: those into the group g, those out of it, and those into neither g nor h.
unfoldable pub into : List ℕ → ℕ → (ℕ → ℕ) → ℕ
into part g f = sum (length part) (λ v. only (eqb (get_or part v 0) g) (f v))

unfoldable pub out_of : List ℕ → ℕ → (ℕ → ℕ) → ℕ
out_of part g f = sum (length part) (λ v. cond (eqb (get_or part v 0) g) 0 (f v))

unfoldable pub aside : List ℕ → ℕ → ℕ → (ℕ → ℕ) → ℕ
aside part g h f = sum (length part) (λ v. cond (eqb (get_or part v 0) g || eqb (get_or part v 0) h) 0 (f v))

-- A group's exit weight and strength.
unfoldable pub exit_of : (ℕ → ℕ → ℕ) → List ℕ → ℕ → ℕ
exit_of w part g = into part g (λ v. out_of part g (w v))

unfoldable pub strength_of : (ℕ → ℕ → ℕ) → List ℕ → ℕ → ℕ
strength_of w part g = into part g (λ v. sum (length part) (w v))

-- The same as the run has them.
abbrev pub whole_stats : (ℕ → ℕ → ℕ) → List ℕ → ℕ → ModuleStats
whole_stats w part g = record { exit = whole64 (exit_of w part g); strength = whole64 (strength_of w part g); n_nodes = count g part }

-- ---- groups under two numberings

-- Group g of the one partition is group g' of the other.
abbrev pub Match : List ℕ → List ℕ → ℕ → ℕ → Type 0
Match part part' g g' = (v : ℕ) → v < length part → eqb (get_or part v 0) g ≡ eqb (get_or part' v 0) g'

-- Two nodes are in one group by the one partition exactly if they are by the other.
pub record Alike (part part' : List ℕ) : Type 0 where
  pub long : length part' ≡ length part
  pub groups : (v x : ℕ) → v < length part → x < length part → eqb (get_or part v 0) (get_or part x 0) ≡ eqb (get_or part' v 0) (get_or part' x 0)
