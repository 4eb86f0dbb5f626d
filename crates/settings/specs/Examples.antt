-- The check of the settings, run at a few values: the edges of 23 and 24, and which cause comes first.
use Rattle.std.specs.Prelude.{◌≡◌, refl, ℕ, Float, Ok, Err}
use Rattle.std.specs.Float.{nan, binary64}
use Rattle.std.specs.Float.Ieee.{neg, of_int, of_bits, le, lt}
use Rattle.float.specs.Binary64.{whole64, zero64, infinity64, finite}
use Rattle.settings.specs.declared.refusal.Refusal.TheVariants.{MinStayingTime, TimeBounds, MinSize, MinSpatialResolution, ResolutionBounds}
use Rattle.settings.specs.Checks.{Checked, refuse_if, first_of, in_turn}
use Rattle.settings.specs.Settings.{unusable, least, negative, out_of_bounds, check_time_bounds, check_resolution, check_config}
use Rattle.settings.specs.Tries.{settings_with}

-- The answer to stay, gap, size and a step of the grid, and to a step alone.
checked : ℕ → ℕ → ℕ → Float → Checked
unfolding check_config check_time_bounds check_resolution unusable negative out_of_bounds in_turn first_of refuse_if finite le lt neg of_int of_bits
checked stay gap size step = check_config (settings_with stay gap size step)

step : Float → Checked
unfolding checked
step = checked 300 86400 2

-- Those of the rules' list.
usual : checked 300 86400 2 zero64 ≡ Ok tt
unfolding checked
usual = refl

zero_stay : checked 0 86400 2 zero64 ≡ Err MinStayingTime
unfolding checked
zero_stay = refl

-- The first cause of two.
equal_bounds : checked 300 300 1 zero64 ≡ Err TimeBounds
unfolding checked
equal_bounds = refl

-- 23: NaN, an infinity, below zero; -0.0 is zero.
step_nan : step nan ≡ Err MinSpatialResolution
unfolding step
step_nan = refl

step_infinite : step infinity64 ≡ Err MinSpatialResolution
unfolding step
step_infinite = refl

step_below_zero : step (neg (of_bits binary64 1)) ≡ Err MinSpatialResolution
unfolding step
step_below_zero = refl

step_minus_zero : step (neg zero64) ≡ Ok tt
unfolding step
step_minus_zero = refl

-- 24: just below 2^-10, and not at it; not at 10^6, and just above it.
step_above_zero : step (of_bits binary64 1) ≡ Err ResolutionBounds
unfolding step
step_above_zero = refl

step_below_least : step (of_bits binary64 0x3F4F_FFFF_FFFF_FFFF) ≡ Err ResolutionBounds
unfolding step
step_below_least = refl

step_least : step least ≡ Ok tt
unfolding step
step_least = refl

step_largest : step (whole64 1000000) ≡ Ok tt
unfolding step
step_largest = refl

step_above_largest : step (of_bits binary64 0x412E_8480_0000_0001) ≡ Err ResolutionBounds
unfolding step
step_above_largest = refl

-- 6 before 23.
size_first : checked 300 86400 1 nan ≡ Err MinSize
unfolding checked
size_first = refl
