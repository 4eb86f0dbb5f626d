-- The rows that a search for nodes finds: no more than there are rows, and they rise.
use mathlib.Core.Path.{◌≡◌, sym}
use mathlib.Core.Bool.{Bool}
use mathlib.Core.List.{List}
use Prim.Native.Nat.{ℕ, ◌≤◌}
use native.Mathlib.Omega.{arith}
use lib.ListN.{length, take}
use lib.Seq.{length-take-le}
use lib.Ieee.{Float}
use Rattle.lists.specs.Lists.{upto, select, overlay}
use Rattle.lists.proofs.Overlay.{take_front}
use Rattle.lists.proofs.Upto.{length_upto, has_upto}
use Rattle.lists.proofs.Members.{has_at, select_in, select_length, select_at_least}
use Rattle.neighbors.specs.StepsTables.{has_weight, rows_with_weight, RowNumbers}

-- The numbers below n of which f holds.
pub selected_rise : (f : ℕ → Bool) (n : ℕ) → RowNumbers n (select f (upto n))
selected_rise f n = record {
  few = omega (arith, select_length f (upto n), length_upto n);
  above = select_at_least f n;
  below = λ u h. has_upto n _ (select_in f (upto n) _ (has_at (select f (upto n)) u h));
}

-- In l the k rows of t with a weight above 0 stand in front of what l₀ holds.
module _ (n : ℕ) (t : List Float) (l₀ l : List ℕ) (k : ℕ) (f : (k ≡ length (rows_with_weight n t)) × (l ≡ overlay (rows_with_weight n t) l₀)) where
  pub found_few : k ≤ n
  unfolding rows_with_weight
  found_few = omega (arith, f.0, (selected_rise (has_weight n t) n).few)

  pub found_rise : RowNumbers n (take k l)
  unfolding rows_with_weight
  found_rise = rw (take_front (rows_with_weight n t) l₀ l k f.0 f.1) (selected_rise (has_weight n t) n)

  pub found_room : n ≤ length l → k ≤ length l
  found_room h = omega (arith, found_few, h)

  pub found_length : n ≤ length l → k ≡ length (take k l)
  found_length h = sym (length-take-le k l (found_room h))
