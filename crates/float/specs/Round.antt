-- Rounding to a whole number: the nearest one, halves away from zero, the sign kept. Definitions only.
use Rattle.std.specs.Prelude.{ℕ, ◌+◌, ◌*◌, ◌/◌, Float}
use Rattle.std.specs.Float.{nan, inf, fin, binary64}
use Rattle.std.specs.Float.Ieee.{up, down, round}

-- The whole number nearest to a / c, the larger of two as near: the whole part of a / c + 1/2.
unfoldable pub nearest_whole : ℕ → ℕ → ℕ
nearest_whole a c = (2 * a + c) / (2 * c)

-- IEEE 754's roundToIntegralTiesToAway. A finite value is a size m * 2^e with a sign; the size becomes its nearest whole number, so that a half goes away
-- from zero, and the sign stays, at a zero too. `round` hands it to the format, which holds it (proofs/RoundLaws.antt).
unfoldable pub round_ties_away : Float → Float
unfolding nearest_whole round
round_ties_away nan = nan
round_ties_away (inf s) = inf s
round_ties_away (fin s m e) = round binary64 s (nearest_whole (m * up e) (down e)) 1
