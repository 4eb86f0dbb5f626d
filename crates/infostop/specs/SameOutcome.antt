-- When two fits come to the same, though the one has empty traces and the other has them taken out. Definitions only; that they do is
-- infostop/proofs/WithoutEmpty.antt.
use Rattle.std.specs.Prelude.{◌≡◌, List, ℕ}
use Rattle.checks.specs.Recounted.{Recounted}
use Rattle.infostop.specs.Fit.{Outcome, refused, fitted}

-- The outcome over traces of these lengths, and the one without the empty ones among them: the same labels, places, place labels, mark and rounds, or
-- a refusal of the same number, with the trace counted anew.
abbrev pub SameOutcome : List ℕ → Outcome → Outcome → Type 0
SameOutcome lens (fitted f) (fitted f') = f' ≡ f
SameOutcome lens (refused e) (refused e') = Recounted lens e e'
SameOutcome lens (fitted f) (refused e) = ⊥
SameOutcome lens (refused e) (fitted f) = ⊥
