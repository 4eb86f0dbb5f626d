-- No more places stand in three columns than the first is long.
use mathlib.Core.List.{List, [], ◌∷◌}
use Prim.Native.Nat.{ℕ, ◌≤◌, zero-le}
use native.Mathlib.Nat.{le_trans}
use native.Mathlib.Omega.{arith}
use lib.ListN.{length, take}
use Rattle.std.proofs.Common.{length-take}
use lib.Ieee.{Float}
use Rattle.neighbors.specs.Places.{places_in}

at_most : (xs ys : List Float) (cs : List ℕ) → length (places_in xs ys cs) ≤ length xs
unfolding places_in
at_most [] ys cs = zero-le
at_most (x ∷ xs) [] cs = zero-le
at_most (x ∷ xs) (y ∷ ys) [] = zero-le
at_most (x ∷ xs) (y ∷ ys) (c ∷ cs) = omega (arith, at_most xs ys cs)

pub few_places : (n : ℕ) (xs ys : List Float) (cs : List ℕ) → n ≤ 128 → length (places_in (take n xs) ys cs) ≤ 128
few_places n xs ys cs h = le_trans (at_most (take n xs) ys cs) (omega (arith, length-take n xs))
