-- To unfold this is to work out the floats of whole numbers and of bits.
use lib.Ieee.{of_int, of_bits}

unfoldable pub floats : Unit {0}
unfolding of_int of_bits
floats = tt
