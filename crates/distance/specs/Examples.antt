-- The grid, run at a few values.
use Rattle.std.specs.Prelude.{◌≡◌, refl}
use Rattle.std.specs.Float.{binary64}
use Rattle.std.specs.Float.Ieee.{add, neg, of_int, of_bits}
use Rattle.float.specs.Binary64.{zero64, one64, whole64}
use Rattle.distance.specs.Grid.{on_grid}

-- What is computed below: to unfold this is to unfold all that it names.
unfoldable computed : Unit {0}
unfolding on_grid add neg of_int
computed = tt

-- On step 7, 10 becomes 7, and 10.5, one and a half steps, 14.
down_to_7 : on_grid (whole64 7) (whole64 10) ≡ whole64 7
unfolding computed
down_to_7 = refl

half_up : on_grid (whole64 7) (of_bits binary64 0x4025_0000_0000_0000) ≡ whole64 14
unfolding computed
half_up = refl

-- On step 1, -0.3 becomes -0.0.
minus_zero : on_grid one64 (of_bits binary64 0xBFD3_3333_3333_3333) ≡ neg zero64
unfolding computed
minus_zero = refl

-- A step of 0.0 or -0.0 leaves -0.3 as it is.
off : on_grid zero64 (of_bits binary64 0xBFD3_3333_3333_3333) ≡ of_bits binary64 0xBFD3_3333_3333_3333
unfolding computed
off = refl

off_minus_zero : on_grid (neg zero64) (of_bits binary64 0xBFD3_3333_3333_3333) ≡ of_bits binary64 0xBFD3_3333_3333_3333
unfolding computed
off_minus_zero = refl
