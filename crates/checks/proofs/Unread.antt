-- The value of a time whose mark is not 1 is never read: tracks that differ only there are the same tracks.
use mathlib.Core.Path.{◌≡◌, refl, ap, ap₂}
use mathlib.Core.Bool.{Bool, true, false, cond}
use mathlib.Core.List.{List, [], ◌∷◌}
use mathlib.Core.Option.{Option, none, some}
use Prim.Native.Nat.{ℕ, suc}
use native.Mathlib.Omega.{arith}
use borrow.Author.Tests.{eqb-true}
use lib.Dec.{eqb}
use lib.ListN.{length, get_or}
use lib.Ieee.{Float, nan}
use Rattle.trace.specs.Trace.{Fix, time_of, fixes}
use Rattle.checks.specs.Tracks.{check_contents, check_tracks, check_report_tracks}

same_time : (m : ℕ) (t u : Float) → (m ≡ 1 → t ≡ u) → time_of m t ≡ time_of m u
unfolding time_of
same_time m t u h = go (eqb m 1) refl
  where
    go : (b : Bool) → eqb m 1 ≡ b → cond b (some t) none ≡ cond b (some u) none
    go true e = ap some (h (eqb-true m 1 e))
    go false e = refl

-- Marked times agree.
abbrev pub SameMarked : List Float → List Float → List ℕ → Type 0
SameMarked ts us ms = (length ts ≡ length us) × ((i : ℕ) → get_or ms i 0 ≡ 1 → get_or ts i nan ≡ get_or us i nan)

pub same_fixes : (xs ys ts us : List Float) (ms : List ℕ) → SameMarked ts us ms → fixes xs ys ts ms ≡ fixes xs ys us ms
unfolding fixes
same_fixes [] ys ts us ms s = refl
same_fixes (x ∷ xs) [] ts us ms s = refl
same_fixes (x ∷ xs) (y ∷ ys) [] [] ms s = refl
same_fixes (x ∷ xs) (y ∷ ys) [] (u ∷ us) ms s = absurd (let e = s.0 in omega arith)
same_fixes (x ∷ xs) (y ∷ ys) (t ∷ ts) [] ms s = absurd (let e = s.0 in omega arith)
same_fixes (x ∷ xs) (y ∷ ys) (t ∷ ts) (u ∷ us) [] s = refl
same_fixes (x ∷ xs) (y ∷ ys) (t ∷ ts) (u ∷ us) (m ∷ ms) s =
    let e = s.0 in
    ap₂ (λ (w : Option Float) (fs : List Fix). record { at = record { x = x; y = y }; time = w } ∷ fs) (same_time m t u (s.1 0)) (same_fixes xs ys ts us ms (omega arith, λ i. s.1 (suc i)))

pub same_check : (xs ys ts us : List Float) (ms lens : List ℕ) (labels places floats words : ℕ) → SameMarked ts us ms
    → check_tracks xs ys ts ms lens labels places floats words ≡ check_tracks xs ys us ms lens labels places floats words
unfolding check_tracks check_contents
same_check xs ys ts us ms lens labels places floats words s = rw (same_fixes xs ys ts us ms s, s.0)

pub same_report_check :
    (xs ys ts us : List Float) (ms lens : List ℕ) (floats words : ℕ) → SameMarked ts us ms → check_report_tracks xs ys ts ms lens floats words ≡
    check_report_tracks xs ys us ms lens floats words
unfolding check_report_tracks check_contents
same_report_check xs ys ts us ms lens floats words s = rw (same_fixes xs ys ts us ms s, s.0)
