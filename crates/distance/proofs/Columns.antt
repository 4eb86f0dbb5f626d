-- The points of two columns of one length: how many they are, each of them, and the first of them with those behind it.
use mathlib.Core.Path.{◌≡◌, refl, ap}
use mathlib.Core.List.{List, [], ◌∷◌}
use Prim.Native.Nat.{ℕ, zero, suc, ◌<◌}
use native.Mathlib.Omega.{arith}
use lib.ListN.{length, get_or}
use lib.Ieee.{Float, nan}
use Rattle.distance.specs.declared.Point.{Point}
use Rattle.distance.specs.Distance.{points}
use Rattle.distance.specs.Steps.{point_at}

pub length_points : (xs ys : List Float) → length ys ≡ length xs → length (points xs ys) ≡ length xs
unfolding points
length_points [] ys h = refl
length_points (x ∷ xs) [] h = absurd (omega arith)
length_points (x ∷ xs) (y ∷ ys) h = ap suc (length_points xs ys (omega arith))

pub point_read : (xs ys : List Float) (i : ℕ) → length ys ≡ length xs → i < length (points xs ys)
    → ◌≡◌ {A = Point} (record { x = get_or xs i nan; y = get_or ys i nan }) (point_at (points xs ys) i)
unfolding points
point_read [] ys i p h = absurd (omega arith)
point_read (x ∷ xs) [] i p h = absurd (omega arith)
point_read (x ∷ xs) (y ∷ ys) zero p h = refl
point_read (x ∷ xs) (y ∷ ys) (suc i) p h = point_read xs ys i (omega arith) (omega arith)

pub points_next : (x y : Float) (xs ys : List Float) → points (x ∷ xs) (y ∷ ys) ≡ record { x = x; y = y } ∷ points xs ys
unfolding points
points_next x y xs ys = refl

pub points_none : (xs ys : List Float) → length xs ≡ 0 → points xs ys ≡ []
unfolding points
points_none [] ys h = refl
points_none (x ∷ xs) ys h = absurd (omega arith)
