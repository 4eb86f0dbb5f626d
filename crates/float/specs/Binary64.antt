-- The operations of binary64 under short names, and its constants as the code writes them. Definitions only.
use Rattle.std.specs.Prelude.{ℕ, Bool, true, false, pos, eqb, Float}
use Rattle.std.specs.Float.{nan, inf, fin, binary64}
use Rattle.std.specs.Float.Ieee.{add, sub, mul, div, of_int, to_bits, of_bits}

abbrev pub add64 : Float → Float → Float
add64 = add binary64

abbrev pub sub64 : Float → Float → Float
sub64 = sub binary64

abbrev pub mul64 : Float → Float → Float
mul64 = mul binary64

abbrev pub div64 : Float → Float → Float
div64 = div binary64

-- The whole number n, rounded once.
abbrev pub whole64 : ℕ → Float
whole64 n = of_int binary64 (pos n)

abbrev pub zero64 : Float
zero64 = of_bits binary64 0

abbrev pub half64 : Float
half64 = of_bits binary64 0x3FE0_0000_0000_0000

abbrev pub one64 : Float
one64 = of_bits binary64 0x3FF0_0000_0000_0000

abbrev pub two64 : Float
two64 = of_bits binary64 0x4000_0000_0000_0000

abbrev pub infinity64 : Float
infinity64 = of_bits binary64 0x7FF0_0000_0000_0000

-- Neither NaN nor an infinity.
unfoldable pub finite : Float → Bool
finite nan = false
finite (inf s) = false
finite (fin s m e) = true

-- Whether the bit patterns of x and y agree.
unfoldable pub same_bits : Float → Float → Bool
unfolding to_bits
same_bits x y = eqb (to_bits binary64 x) (to_bits binary64 y)
