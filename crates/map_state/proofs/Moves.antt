-- The change of codelength from a row, and a move in the code's arrays, of which the first n places are the state.
use mathlib.Core.Path.{◌≡◌, refl, ap, ◌∙◌}
use mathlib.Core.List.{List}
use Prim.Native.Nat.{ℕ, ◌<◌, ◌≤◌}
use native.Mathlib.Omega.{arith}
use lib.ListN.{length, get_or, set, take, length-set}
use lib.Seq.{length-take-le, take-set-lt}
use lib.Ieee.{Float, nan}
use Rattle.map_state.specs.Network.{Network, row}
use Rattle.map_state.specs.MapState.{MapState, lowest, link_weights, after_move, module_pair_delta, moved_from, delta_from, moved_by, apply_move, store_at, sum_q}
use Rattle.map_state.specs.Steps.{Firsts, Renewed, StoredAt}
use Rattle.map_state.specs.declared.ModuleStats.{ModuleStats}
use Rattle.map_state.specs.declared.Moved.{Moved}
use Rattle.map_state.proofs.Leaders.{apply_move_is, firsts_move}

-- `delta_from` of a network with this row is what the function `delta_move` promises
pub delta_from_row : (net : Network) (part : List ℕ) (q : Float) (u h : ℕ) (src dest : ModuleStats)
    → module_pair_delta net.d q src dest (after_move (link_weights (get_or part u 0) h part (row net u)) (get_or net.strength u nan) src dest) ≡ delta_from net part q u h src dest
unfolding delta_from moved_from
delta_from_row net part q u h src dest = refl

module _ (n : ℕ) (p : List ℕ) (s : MapState) (u h : ℕ) (same : take n p ≡ s.partition) (room : n ≤ length p) (inside : u < length s.partition) where
  abbrev part : List ℕ
  part = take n (set p u h)

  abbrev old : ℕ
  old = get_or s.partition u 0

  within : u < n
  within = let e = length-take-le n p room in omega (arith, ap length same)

  part_is : part ≡ set s.partition u h
  part_is = take-set-lt n p u h within ∙ ap (λ (l : List ℕ). set l u h) same

  part_long : length part ≡ n
  part_long = length-take-le n (set p u h) (omega (arith, length-set p u h))

  stored : (xs ys : List Float) (g : ℕ) (x : Float) → StoredAt part xs ys g x → take n ys ≡ store_at (set s.partition u h) (take n xs) g x
  stored xs ys g x e = rw (part_long, part_is) at e

  -- the state after it
  pub moved_view : (net : Network) (m : Moved) (e e1 e2 t t1 t2 : List Float) (r : Float) → m ≡ moved_by net s u h → take n e ≡ s.exits → take n t ≡ s.strengths
      → StoredAt part e e1 old m.src.exit → StoredAt part e1 e2 h m.dest.exit → StoredAt part t t1 old m.src.strength → StoredAt part t1 t2 h m.dest.strength
      → r ≡ sum_q net.d part (take n e2) → ◌≡◌ {A = MapState} (record { partition = part; exits = take n e2; strengths = take n t2; q_sum = r }) (apply_move net s u h)
  moved_view net m e e1 e2 t t1 t2 r pm pe pt a b c d q =
      rw part_is (apply_move_is net s u h pm (rw pe at (stored e e1 old m.src.exit a)) (stored e1 e2 h m.dest.exit b) (rw pt at (stored t t1 old m.src.strength c)) (stored t1 t2 h m.dest.strength d) (rw part_is at q))

  -- and its lowest members
  pub moved_firsts : (f f1 f2 : List ℕ) → Firsts (take n p) f → Renewed part f f1 old (lowest old part) → Renewed part f1 f2 h (lowest h part) → Firsts part f2
  moved_firsts f f1 f2 k a b = rw part_is (firsts_move s.partition f f2 u h inside (rw same at k) f1 (rw part_is at a) (rw part_is at b))
