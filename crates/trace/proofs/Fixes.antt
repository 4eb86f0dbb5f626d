-- The fixes that lists stand for, one by one, and their times.
use mathlib.Core.Path.{◌≡◌, refl, sym, ap, ap₂, ◌∙◌}
use mathlib.Core.Bool.{Bool, true, false, ◌&&◌, cond}
use mathlib.Core.List.{List, [], ◌∷◌}
use mathlib.Core.Option.{Option, none, some}
use Prim.Native.Nat.{ℕ, zero, suc, ◌<◌}
use native.Mathlib.Omega.{arith}
use borrow.Author.Tests.{eqb-true}
use lib.Dec.{eqb}
use lib.ListN.{length, get_or}
use lib.Ieee.{Float, nan}
use Rattle.float.specs.Binary64.{zero64}
use Rattle.lists.proofs.Tests.{and_left, and_right}
use Rattle.distance.specs.declared.Point.{Point}
use Rattle.trace.specs.Trace.{read_time, Fix, time_of, fixes, has_time, timed}
use Rattle.trace.specs.Steps.{all_marked}

-- stands for a fix past the end of a list
abbrev pub no_fix : Fix
no_fix = record { at = record { x = nan; y = nan }; time = none }

abbrev pub point_at : List Fix → ℕ → Point
point_at fs i = (get_or fs i no_fix).at

abbrev pub time_at : List Fix → ℕ → Option Float
time_at fs i = (get_or fs i no_fix).time

pub fixes_length : (xs ys ts : List Float) (ms : List ℕ) → length ys ≡ length xs → length ts ≡ length xs → length ms ≡ length xs → length (fixes xs ys ts ms) ≡ length xs
unfolding fixes
fixes_length [] ys ts ms a b c = refl
fixes_length (x ∷ xs) [] ts ms a b c = absurd (omega arith)
fixes_length (x ∷ xs) (y ∷ ys) [] ms a b c = absurd (omega arith)
fixes_length (x ∷ xs) (y ∷ ys) (t ∷ ts) [] a b c = absurd (omega arith)
fixes_length (x ∷ xs) (y ∷ ys) (t ∷ ts) (m ∷ ms) a b c = ap suc (fixes_length xs ys ts ms (omega arith) (omega arith) (omega arith))

pub fixes_at : (xs ys ts : List Float) (ms : List ℕ) (i : ℕ) → length ys ≡ length xs → length ts ≡ length xs → length ms ≡ length xs → i < length xs
    → get_or (fixes xs ys ts ms) i no_fix ≡ record { at = record { x = get_or xs i nan; y = get_or ys i nan }; time = time_of (get_or ms i 0) (get_or ts i nan) }
unfolding fixes
fixes_at [] ys ts ms i a b c h = absurd (omega arith)
fixes_at (x ∷ xs) [] ts ms i a b c h = absurd (omega arith)
fixes_at (x ∷ xs) (y ∷ ys) [] ms i a b c h = absurd (omega arith)
fixes_at (x ∷ xs) (y ∷ ys) (t ∷ ts) [] i a b c h = absurd (omega arith)
fixes_at (x ∷ xs) (y ∷ ys) (t ∷ ts) (m ∷ ms) zero a b c h = refl
fixes_at (x ∷ xs) (y ∷ ys) (t ∷ ts) (m ∷ ms) (suc i) a b c h = fixes_at xs ys ts ms i (omega arith) (omega arith) (omega arith) (omega arith)

-- The value beside a mark that is not 1 is not read.

pub as_read : (m : ℕ) (t : Float) {r : Float} → r ≡ read_time m t → time_of m r ≡ time_of m t
unfolding time_of read_time
as_read m t e = rw e (go (eqb m 1))
  where
    go : (b : Bool) → cond b (some (cond b t zero64)) none ≡ cond b (some t) none
    go true = refl
    go false = refl

-- the value beside a mark 0 does not matter
pub time_unread : (t t' : Float) → time_of 0 t ≡ time_of 0 t'
unfolding time_of
time_unread t t' = refl

-- the trace is timed if all marks are 1
pub has_time_lem : (m : ℕ) (t : Float) → has_time (time_of m t) ≡ eqb m 1
unfolding has_time time_of
has_time_lem m t = go (eqb m 1)
  where
    go : (b : Bool) → has_time (cond b (some t) none) ≡ b
    go true = refl
    go false = refl

pub timed_marked : (xs ys ts : List Float) (ms : List ℕ) → length ys ≡ length xs → length ts ≡ length xs → length ms ≡ length xs → all_marked ms ≡ timed (fixes xs ys ts ms)
unfolding fixes timed all_marked
timed_marked [] ys ts [] a b c = refl
timed_marked [] ys ts (m ∷ ms) a b c = absurd (omega arith)
timed_marked (x ∷ xs) [] ts ms a b c = absurd (omega arith)
timed_marked (x ∷ xs) (y ∷ ys) [] ms a b c = absurd (omega arith)
timed_marked (x ∷ xs) (y ∷ ys) (t ∷ ts) [] a b c = absurd (omega arith)
timed_marked (x ∷ xs) (y ∷ ys) (t ∷ ts) (m ∷ ms) a b c = ap₂ ◌&&◌ (sym (has_time_lem m t)) (timed_marked xs ys ts ms (omega arith) (omega arith) (omega arith))

marked_at : (ms : List ℕ) (i : ℕ) → i < length ms → all_marked ms ≡ true → get_or ms i 0 ≡ 1
unfolding all_marked
marked_at [] i h e = absurd (omega arith)
marked_at (m ∷ ms) zero h e = eqb-true m 1 (and_left (eqb m 1) (all_marked ms) e)
marked_at (m ∷ ms) (suc i) h e = marked_at ms i (omega arith) (and_right (eqb m 1) (all_marked ms) e)

-- the times of a timed trace are those of the list
pub time_at_lem : (xs ys ts : List Float) (ms : List ℕ) → length ys ≡ length xs → length ts ≡ length xs → length ms ≡ length xs → all_marked ms ≡ true
    → (i : ℕ) → i < length xs → time_at (fixes xs ys ts ms) i ≡ some (get_or ts i nan)
unfolding time_of
time_at_lem xs ys ts ms a b c e i h =
    ap (λ (f : Fix). f.time) (fixes_at xs ys ts ms i a b c h) ∙ ap (λ (m : ℕ). time_of m (get_or ts i nan)) (marked_at ms i (omega arith) e)
