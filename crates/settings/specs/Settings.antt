-- The check of the settings: the rules' refusals 1 to 6, 23 and 24, in their order. Definitions only.
use Rattle.std.specs.Prelude.{Bool, not, ◌&&◌, ◌||◌, [], ◌∷◌, leb, Float}
use Rattle.std.specs.Float.{binary64}
use Rattle.std.specs.Float.Ieee.{le, lt, of_bits}
use Rattle.float.specs.Binary64.{zero64, whole64, finite}
use Rattle.settings.specs.declared.config.Config.{Config}
use Rattle.settings.specs.declared.refusal.Refusal.TheVariants.{R1, R2, MinStayingTime, MaxTimeBetween, TimeBounds, MinSize, MinSpatialResolution, ResolutionBounds}
use Rattle.settings.specs.Checks.{Checked, refuse_if, in_turn}

-- Not finite or <= 0.
unfoldable pub unusable : Float → Bool
unusable x = not (finite x) || le x zero64

-- 3 to 6.
unfoldable pub check_time_bounds : Config → Checked
check_time_bounds c =
    in_turn
    (refuse_if (unusable c.min_staying_time) MinStayingTime
    ∷ refuse_if (unusable c.max_time_between) MaxTimeBetween
    ∷ refuse_if (le c.max_time_between c.min_staying_time) TimeBounds
    ∷ refuse_if (leb c.min_size 1) MinSize
    ∷ [])

-- 2^-10.
abbrev pub least : Float
least = of_bits binary64 0x3F50_0000_0000_0000

-- "Not finite or below zero"; -0.0 is zero.
unfoldable pub negative : Float → Bool
negative x = not (finite x) || lt x zero64

-- "Between zero and 2^-10, both excluded, or above 10^6."
unfoldable pub out_of_bounds : Float → Bool
out_of_bounds x = (lt zero64 x && lt x least) || lt (whole64 1000000) x

-- 23 and 24, of `min_spatial_resolution`.
unfoldable pub check_resolution : Float → Checked
check_resolution x = in_turn (refuse_if (negative x) MinSpatialResolution ∷ refuse_if (out_of_bounds x) ResolutionBounds ∷ [])

-- 1 to 6, 23, 24.
unfoldable pub check_config : Config → Checked
check_config c =
    in_turn
    (refuse_if (unusable c.r1) R1
    ∷ refuse_if (unusable c.r2) R2
    ∷ check_time_bounds c
    ∷ check_resolution c.min_spatial_resolution
    ∷ [])
