-- A slice that is filled with 0, 1, 2, .. in numbers of any type.
use mathlib.Core.Path.{◌≡◌}
use mathlib.Core.List.{List}
use Prim.Native.Nat.{ℕ}
use native.Mathlib.Omega.{arith}
use lib.ListN.{length}
use Rattle.lists.specs.Lists.{upto}
use Rattle.lists.proofs.Upto.{is_upto}
use Rattle.rng.specs.Steps.{Counts}

-- Where the conversion keeps the number, these are the numbers from 0 up.
pub counted : (n : ℕ) (l : List ℕ) → length l ≡ n → Counts (λ x y. y ≡ x) l → l ≡ upto n
counted n l e c = is_upto l n e (λ k h. c k 0 (omega arith))
