-- Whether columns and marks have room for the records.
use mathlib.Core.Path.{◌≡◌, refl}
use mathlib.Core.Bool.{Bool, true, false, ◌&&◌}
use Prim.Native.Nat.{ℕ, ◌*◌, ◌/◌, ◌<◌, ◌≤◌}
use native.Mathlib.Omega.{arith}
use borrow.Author.Tests.{le-leb, lt-leb, leb-true}
use lib.Dec.{leb}
use Rattle.lists.proofs.Tests.{and_left, and_right}
use Rattle.records.specs.Records.{room_for}

-- The code compares a third of the length.
pub no_columns : (n columns marks : ℕ) → columns / 3 < n → room_for n columns marks ≡ false
unfolding room_for
no_columns n columns marks h = rw (lt-leb (3 * n) columns (omega arith)) refl

pub no_marks : (n columns marks : ℕ) → marks < n → room_for n columns marks ≡ false
unfolding room_for
no_marks n columns marks h = rw (lt-leb n marks h) (none (leb (3 * n) columns))
  where
    none : (b : Bool) → (b && false) ≡ false
    none true = refl
    none false = refl

pub room : (n columns marks : ℕ) → n ≤ columns / 3 → n ≤ marks → room_for n columns marks ≡ true
unfolding room_for
room n columns marks h k = rw (le-leb (3 * n) columns (omega arith), le-leb n marks k) refl

pub room_columns : (n columns marks : ℕ) → room_for n columns marks ≡ true → 3 * n ≤ columns
unfolding room_for
room_columns n columns marks h = leb-true (3 * n) columns (and_left (leb (3 * n) columns) (leb n marks) h)

pub room_marks : (n columns marks : ℕ) → room_for n columns marks ≡ true → n ≤ marks
unfolding room_for
room_marks n columns marks h = leb-true n marks (and_right (leb (3 * n) columns) (leb n marks) h)
