-- How a pass goes on, node by node.
use mathlib.Core.Path.{◌≡◌, refl, ◌∙◌}
use mathlib.Core.List.{List, [], ◌∷◌}
use Prim.Native.Nat.{ℕ, ◌+◌, ◌<◌, ◌≤◌}
use native.Mathlib.Numerals.{add-one}
use native.Mathlib.Omega.{arith}
use lib.ListN.{length, length-set, get_or, drop, drop_of_length-le}
use lib.Seq.{drop-cons}
use Rattle.rng.specs.Steps.{Below}
use Rattle.rng.proofs.Visits.{below_at}
use Rattle.map_state.specs.Network.{Network}
use Rattle.map_state.specs.MapState.{MapState, apply_move}
use Rattle.optimize.specs.Rounds.{Pass, act, pass}
use Rattle.scan.specs.Scan.{Answer, no_move, move}
use Rattle.scan.specs.Steps.{answer_of}
use Rattle.scan.specs.declared.Scan.{Scan}
use Rattle.scan.specs.declared.Scan.TheVariants.{Stay}

pub act_stay : (n : Network) (w : Pass) (u : ℕ) {a : Scan} → a ≡ Stay → w ≡ act n w u (answer_of a)
unfolding act answer_of
act_stay n w u e = rw e

pub pass_on : (f : Network → MapState → ℕ → Answer) (n : Network) (w : Pass) (order : List ℕ) (i : ℕ) {w' : Pass} {u : ℕ} {a : Answer} → i < length order → u ≡ get_or order i 0 → a ≡ f n w.state u → w' ≡ act n w u a
    → pass f n w' (drop (i + 1) order) ≡ pass f n w (drop i order)
unfolding pass
pass_on f n w order i h p q e = rw (e, q, p, add-one i, drop-cons order i 0 h)

pub pass_end : (f : Network → MapState → ℕ → Answer) (n : Network) (w : Pass) (order : List ℕ) (i : ℕ) → length order ≤ i → w ≡ pass f n w (drop i order)
unfolding pass
pass_end f n w order i h = rw (drop_of_length-le order {i = i} h)

-- an item of an order is a node
pub node_in : (n : ℕ) (part order : List ℕ) (i : ℕ) {u : ℕ} → u ≡ get_or order i 0 → Below n order → i < length order → length part ≡ n → u < length part
node_in n part order i e b h l = omega (arith, e, below_at n order b i h, l)

-- ---- a pass keeps the number of nodes

pub act_length : (n : Network) (w : Pass) (u : ℕ) (a : Answer) → length (act n w u a).state.partition ≡ length w.state.partition
unfolding act apply_move
act_length n w u no_move = refl
act_length n w u (move h d) = length-set w.state.partition u h

pub pass_length : (f : Network → MapState → ℕ → Answer) (n : Network) (w : Pass) (us : List ℕ) → length (pass f n w us).state.partition ≡ length w.state.partition
unfolding pass
pass_length f n w [] = refl
pass_length f n w (u ∷ us) = pass_length f n (act n w u (f n w.state u)) us ∙ act_length n w u (f n w.state u)
