-- A field of the house form (docs/RULES.md, "Program `stops`"): a whole number of size up to 10^9, an optional minus and digits; or a minus alone,
-- which a time may be.
use Rattle.std.specs.Prelude.{ℕ, ◌+◌, ◌-◌, ◌*◌, Bool, true, false, cond, not, ◌&&◌, List, [], ◌∷◌, ◌==◌, nat_le, Float}
use Rattle.std.proofs.Math.Option.{Option, none, some}
use Rattle.std.specs.Float.Ieee.{neg}
use Rattle.float.specs.Binary64.{whole64}
use Rattle.text.specs.Bytes.{is_digit, minus_sign}

-- A number (whether it is negative, and its size), a minus alone, or neither.
pub data Field : Type 0 where
  number : Bool → ℕ → Field
  dash : Field
  bad : Field

unfoldable pub all_digits : List ℕ → Bool
all_digits [] = true
all_digits (b ∷ bs) = is_digit b && all_digits bs

-- The number that digits write, after digits of value v.
unfoldable pub size_from : ℕ → List ℕ → ℕ
size_from v [] = v
size_from v (b ∷ bs) = size_from (v * 10 + (b - 48)) bs

-- Digits, after a minus or not: their size is at most 10^9, and -0 is 0.
unfoldable pub digits_of : Bool → List ℕ → Field
digits_of negative ds = cond (all_digits ds && nat_le (size_from 0 ds) 1000000000) (number (negative && not (size_from 0 ds == 0)) (size_from 0 ds)) bad

unfoldable pub after_minus : List ℕ → Field
after_minus [] = dash
after_minus (d ∷ ds) = digits_of true (d ∷ ds)

-- The field that bytes write.
unfoldable pub field_of : List ℕ → Field
field_of [] = bad
field_of (b ∷ bs) = cond (b == minus_sign) (after_minus bs) (digits_of false (b ∷ bs))

-- ---- what may stand where

unfoldable pub is_whole : Field → Bool
is_whole (number n v) = true
is_whole dash = false
is_whole bad = false

unfoldable pub is_natural : Field → Bool
is_natural (number n v) = not n
is_natural dash = false
is_natural bad = false

unfoldable pub is_field : Field → Bool
is_field (number n v) = true
is_field dash = true
is_field bad = false

-- ---- what it says

unfoldable pub size_of : Field → ℕ
size_of (number n v) = v
size_of dash = 0
size_of bad = 0

-- -0 is no negative number, so it is 0.0.
unfoldable pub float_of : Field → Float
float_of (number true v) = neg (whole64 v)
float_of (number false v) = whole64 v
float_of dash = whole64 0
float_of bad = whole64 0

-- A minus alone for none. No line has a field that is neither.
unfoldable pub field_time : Field → Option Float
field_time (number n v) = some (float_of (number n v))
field_time dash = none
field_time bad = some (float_of bad)
