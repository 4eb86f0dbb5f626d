-- `replay::room` meets its contract.
-- Kept: the check does not find what stands here, also with the lemmas named on the function.
use Rattle.std.proofs.Common.{◌≡◌, ℕ, length, replicate, refl, sym}
use lib.ListN.{length-replicate}
use Rattle.replay.proofs.room.Goals as goal

-- at a number that is not given: a list of 1,000,000 is not to be computed
long : (n : ℕ) → n ≡ length {A = ℕ} (replicate n 0)
long n = sym (length-replicate n 0)

pub returns : goal.returns
returns c = (long 1000000, refl)
