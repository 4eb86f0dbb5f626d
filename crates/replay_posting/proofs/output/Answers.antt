-- `replay_posting::output` meets its contract.
-- Kept: the check does not find what stands here, also with the lemmas named on the function.
use mathlib.Core.Path.{◌≡◌, sym}
use Prim.Native.Nat.{ℕ}
use lib.ListN.{length, replicate, length-replicate}
use Rattle.replay_posting.proofs.output.Goals as goal

-- at a number that is not given: a list of 933,000 is not to be computed
long : (n : ℕ) → n ≡ length {A = ℕ} (replicate n 7)
long n = sym (length-replicate n 7)

pub returns : goal.returns
returns c = long 933000
