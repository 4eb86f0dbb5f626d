-- The fixes with the first of them apart, as an iterator over them gives it.
use mathlib.Core.Path.{◌≡◌, refl}
use mathlib.Core.List.{List, [], ◌∷◌}
use Prim.Native.Nat.{ℕ}
use native.Mathlib.Omega.{arith}
use lib.ListN.{length}
use lib.Ieee.{Float}
use Rattle.trace.specs.Trace.{time_of, fixes}

pub fixes_next :
    (x y t : Float) (m : ℕ) (xs ys ts : List Float) (ms : List ℕ)
    → fixes (x ∷ xs) (y ∷ ys) (t ∷ ts) (m ∷ ms) ≡ record { at = record { x = x; y = y }; time = time_of m t } ∷ fixes xs ys ts ms
unfolding fixes
fixes_next x y t m xs ys ts ms = refl

pub fixes_none : (xs ys ts : List Float) (ms : List ℕ) → length xs ≡ 0 → fixes xs ys ts ms ≡ []
unfolding fixes
fixes_none [] ys ts ms h = refl
fixes_none (x ∷ xs) ys ts ms h = absurd (omega arith)
