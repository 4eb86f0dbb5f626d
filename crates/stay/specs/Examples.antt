-- The definitions, run at a few values: the rules' list for a median and for single traces.
use Rattle.std.specs.Prelude.{◌≡◌, refl, List, [], ◌∷◌, ℕ, ℤ, pos, negsuc, Float}
use Rattle.std.proofs.Math.Option.{Option, none, some}
use Rattle.std.specs.Float.{binary64}
use Rattle.std.specs.Float.Ieee.{of_int, of_bits}
use Rattle.float.specs.Binary64.{zero64, whole64}
use Rattle.distance.specs.Distance.{euclidean}
use Rattle.settings.specs.Tries.{with_step, settings}
use Rattle.stay.specs.Ordered.{ordered, median}
use Rattle.trace.specs.Trace.{Fix}
use Rattle.stay.specs.StepsEvents.{event_map}
use Rattle.stay.specs.Stays.{stay_median, stay_medians}

-- the median of 1, 2, 3, 10 is 2.5
pub median_2_5 : median (whole64 1 ∷ whole64 2 ∷ whole64 3 ∷ whole64 10 ∷ []) ≡ of_bits binary64 0x4004_0000_0000_0000
unfolding median of_int of_bits
median_2_5 = refl

ordered_4 : ordered (whole64 10 ∷ whole64 2 ∷ whole64 3 ∷ whole64 1 ∷ []) ≡ whole64 1 ∷ whole64 2 ∷ whole64 3 ∷ whole64 10 ∷ []
unfolding ordered of_int
ordered_4 = refl

fix : ℕ → ℕ → Option Float → Fix
fix x y t = record { at = record { x = whole64 x; y = whole64 y }; time = t }

events : List Fix → List ℤ
events fs = event_map euclidean settings 0 fs

-- What is computed below: to unfold this is to unfold all that it names.
unfoldable computed : Unit {0}
unfolding fix events event_map stay_median stay_medians euclidean of_int
computed = tt

-- (0,0), (6,8): one stay, at (3, 4)
near : events (fix 0 0 none ∷ fix 6 8 none ∷ []) ≡ pos 0 ∷ pos 0 ∷ []
unfolding computed
near = refl

near_median : stay_medians euclidean settings (fix 0 0 none ∷ fix 6 8 none ∷ []) ≡ record { x = whole64 3; y = whole64 4 } ∷ []
unfolding computed
near_median = refl

-- (0,0), (6,9): none
far : events (fix 0 0 none ∷ fix 6 9 none ∷ []) ≡ negsuc 0 ∷ negsuc 0 ∷ []
unfolding computed
far = refl

-- one fix: none
single : events (fix 0 0 none ∷ []) ≡ negsuc 0 ∷ []
unfolding computed
single = refl

-- (0,0) twice: times 0 and 300, 0 and 299, 0 and 86400, 0 and 86401
long_enough : events (fix 0 0 (some (whole64 0)) ∷ fix 0 0 (some (whole64 300)) ∷ []) ≡ pos 0 ∷ pos 0 ∷ []
unfolding computed
long_enough = refl

too_short : events (fix 0 0 (some (whole64 0)) ∷ fix 0 0 (some (whole64 299)) ∷ []) ≡ negsuc 0 ∷ negsuc 0 ∷ []
unfolding computed
too_short = refl

soon_enough : events (fix 0 0 (some (whole64 0)) ∷ fix 0 0 (some (whole64 86400)) ∷ []) ≡ pos 0 ∷ pos 0 ∷ []
unfolding computed
soon_enough = refl

too_late : events (fix 0 0 (some (whole64 0)) ∷ fix 0 0 (some (whole64 86401)) ∷ []) ≡ negsuc 0 ∷ negsuc 0 ∷ []
unfolding computed
too_late = refl

-- (3,0), (12,0) with step 7: the second is 9 from the first, though 12 from where that lies on the grid; the median 7.5 is 7 on the grid
grid_median : stay_medians euclidean (with_step (whole64 7)) (fix 3 0 none ∷ fix 12 0 none ∷ []) ≡ record { x = whole64 7; y = zero64 } ∷ []
unfolding computed
grid_median = refl
