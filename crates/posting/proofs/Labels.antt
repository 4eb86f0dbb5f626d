-- A label in its three columns.
use mathlib.Core.Path.{◌≡◌, refl}
use mathlib.Core.Bool.{true, false, ◌&&◌}
use mathlib.Core.List.{[], ◌∷◌}
use Prim.Native.Nat.{zero, suc, ◌<◌}
use native.Mathlib.Omega.{arith}
use borrow.Author.Tests.{leb-true, eqb-true, lt-leb, ne_eqb}
use lib.IntN.{ℤ, pos, negsuc, nat_abs}
use lib.Signed.{le_z}
use Rattle.print.specs.Lines.{label_text}
use Rattle.print.specs.Steps.{is_number}
use Rattle.print.proofs.LabelLines.{none_text}
use Rattle.posting.specs.Sheet.{right_aligned}
use Rattle.posting.specs.Posted.{in_column}

pub few_digits : (l : ℤ) → in_column l ≡ true → nat_abs l < 1000
unfolding in_column
few_digits (pos m) h = let k = leb-true m 511 h in omega arith
few_digits (negsuc m) h = let z : m ≡ 0 = eqb-true m 0 h in omega arith

pub none_column : (l : ℤ) → is_number l ≡ false → right_aligned 3 (label_text l) ≡ 32 ∷ 45 ∷ 49 ∷ []
unfolding right_aligned
none_column l h = rw (none_text l h) refl

-- ---- the test of the code

pub in_range : (l : ℤ) → in_column l ≡ (le_z (negsuc 0) l && le_z l (pos 511))
unfolding in_column
in_range (pos n) = refl
in_range (negsuc zero) = refl
in_range (negsuc (suc n)) = rw (lt-leb (suc n) 0 (omega arith), ne_eqb (suc n) 0 (λ e. omega arith))
