-- The definition of places, run at the two zeros.
use Rattle.std.specs.Prelude.{◌≡◌, refl, [], ◌∷◌, Float}
use Rattle.std.specs.Float.{binary64}
use Rattle.std.specs.Float.Ieee.{eq, of_bits, to_bits}
use Rattle.float.specs.Binary64.{zero64, same_bits}
use Rattle.distance.specs.declared.Point.{Point}
use Rattle.neighbors.specs.Places.{same_place, sighted, sighted_all, places}

-- The point (x, 0).
point : Float → Point
point x = record { x = x; y = zero64 }

-- Of the medians (0.0, 0) and (-0.0, 0) each is a place, and the second place is seen again.
two_zeros : let minus = of_bits binary64 0x8000_0000_0000_0000 in
    places (point zero64 ∷ point minus ∷ point minus ∷ []) ≡ record { at = point zero64; count = 1 } ∷ record { at = point minus; count = 2 } ∷ []
unfolding point places sighted_all sighted same_place same_bits eq to_bits of_bits
two_zeros = refl
