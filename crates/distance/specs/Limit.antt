-- The size limit of coordinates (docs/RULES.md, refusal 16). Definitions only.
use Rattle.std.specs.Prelude.{ℕ, ◌*◌, Bool, false, ◌&&◌, leb, Float}
use Rattle.std.specs.Float.{nan, inf, fin}
use Rattle.std.specs.Float.Ieee.{up, down}
use Rattle.distance.specs.declared.Point.{Point}

-- 10^9.
abbrev pub limit : ℕ
limit = 1000000000

-- x is finite and of size at most k.
unfoldable pub within : ℕ → Float → Bool
within k nan = false
within k (inf s) = false
within k (fin s m e) = leb (m * up e) (k * down e)

-- Both coordinates are.
unfoldable pub in_limit : Point → Bool
unfolding within
in_limit p = within limit p.x && within limit p.y
