-- Traces: fixes, each a point with a time or none, from the columns of the caller's slices. Definitions only.
use Rattle.std.specs.Prelude.{ℕ, ◌+◌, Bool, true, false, ◌&&◌, cond, List, [], ◌∷◌, eqb, length, take, drop, Float}
use Rattle.std.proofs.Math.Option.{Option, none, some}
use Rattle.float.specs.Binary64.{zero64}
use Rattle.distance.specs.declared.Point.{Point}

pub record Fix : Type 0 where
  pub at : Point
  pub time : Option Float

-- A time from its mark and value: what stands beside a mark 0 cannot matter.
unfoldable pub time_of : ℕ → Float → Option Float
time_of m t = cond (eqb m 1) (some t) none

-- The value that is read beside a mark m: 0.0, and not the value, unless m is 1.
unfoldable pub read_time : ℕ → Float → Float
read_time m t = cond (eqb m 1) t zero64

-- The fixes from lists of coordinates, times and marks.
unfoldable pub fixes : List Float → List Float → List Float → List ℕ → List Fix
unfolding time_of
fixes [] ys ts ms = []
fixes (x ∷ xs) [] ts ms = []
fixes (x ∷ xs) (y ∷ ys) [] ms = []
fixes (x ∷ xs) (y ∷ ys) (t ∷ ts) [] = []
fixes (x ∷ xs) (y ∷ ys) (t ∷ ts) (m ∷ ms) = record { at = record { x = x; y = y }; time = time_of m t } ∷ fixes xs ys ts ms

unfoldable pub has_time : Option Float → Bool
has_time none = false
has_time (some t) = true

-- A trace is timed if all its fixes are.
unfoldable pub timed : List Fix → Bool
unfolding has_time
timed [] = true
timed (f ∷ fs) = has_time f.time && timed fs

-- The sum of the trace lengths.
unfoldable pub total : List ℕ → ℕ
total [] = 0
total (n ∷ ns) = n + total ns

-- The traces: the fixes cut by their lengths.
unfoldable pub traces : List ℕ → List Fix → List (List Fix)
traces [] fs = []
traces (n ∷ ns) fs = take n fs ∷ traces ns (drop n fs)

-- All fixes of the traces.
unfoldable pub fix_count : List (List Fix) → ℕ
fix_count [] = 0
fix_count (t ∷ ts) = length t + fix_count ts
