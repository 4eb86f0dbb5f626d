-- A median is at its own place.
use mathlib.Core.Path.{◌≡◌}
use mathlib.Core.Bool.{true}
use Rattle.float.proofs.SameBits.{same_bits_refl}
-- Named so that the example is checked before these lemmas.
use Rattle.neighbors.specs.Examples
use Rattle.neighbors.specs.Places.{same_place}
use Rattle.distance.specs.declared.Point.{Point}

pub same_self : (p : Point) → same_place p p ≡ true
unfolding same_place
same_self p = rw (same_bits_refl p.x, same_bits_refl p.y)
