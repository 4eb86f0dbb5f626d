-- The traces of fix lines, in the order of a text.
use Rattle.std.proofs.Common.{◌≡◌, ℕ, ◌+◌, ◌⊎◌, List, [], ◌∷◌}
use Rattle.text.specs.Values.{FixLine}

-- They rise without gaps, after n of them: those of every text do, from 0 (`rises` in Pieces.antt).
unfoldable pub TracesRise : ℕ → List FixLine → Type 0
TracesRise n [] = Unit
TracesRise n (l ∷ ls) = ((l.trace ≡ n) ⊎ (l.trace + 1 ≡ n)) × TracesRise (l.trace + 1) ls
