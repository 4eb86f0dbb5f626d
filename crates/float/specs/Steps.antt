-- Serves the contracts of this crate's own functions; no public contract reaches it.
-- What the steps of `sqrt`, `ln` and `round` ensure.
use Rattle.std.specs.Prelude.{◌≡◌, ℕ, ◌+◌, ◌-◌, ◌*◌, ◌/◌, ◌%◌, ◌^◌, ◌≤◌, ◌<◌, false}
use Rattle.std.specs.Float.{binary64}
use Rattle.std.specs.Float.Ieee.{of_bits, odd}

-- The value with the bits b is m * 2 ^ e smallest values, e by the exponent's field.
pub record Unpacked (b m e : ℕ) : Type 0 where
  pub value : of_bits binary64 b ≡ odd 53 false m e 1074
  pub some : 0 < m
  pub short : m < 2 ^ 53
  pub under : e < 2046
  pub field : e ≡ b / 2 ^ 52 - 1

-- m * 2 ^ e * 2 ^ 1074 is m' * 2 ^ e', with an m' of 53 binary digits.
pub record Normal (m e m' e' : ℕ) : Type 0 where
  pub same : m' * 2 ^ e' ≡ m * 2 ^ e * 2 ^ 1074
  pub full : 2 ^ 52 ≤ m'
  pub short : m' < 2 ^ 53
  pub over : 1022 ≤ e'
  pub under : e' < 3120

-- m * 2 ^ e is m' * 2 ^ e', with an even e'.
pub record Even (m e m' e' : ℕ) : Type 0 where
  pub same : m' * 2 ^ e' ≡ m * 2 ^ e
  pub full : 2 ^ 52 ≤ m'
  pub short : m' ≤ 2 ^ 54 - 2
  pub even : e' % 2 ≡ 0
  pub over : 1022 ≤ e'
  pub under : e' < 3120

-- r is the whole part of the root of m * 2 ^ 54.
pub record Rooted (m r : ℕ) : Type 0 where
  pub below : r * r ≤ m * 2 ^ 54
  pub above : m * 2 ^ 54 < (r + 1) * (r + 1)
  pub short : r < 2 ^ 54

-- r * r is hi * 2 ^ 54 + lo.
pub record Squared (r hi lo : ℕ) : Type 0 where
  pub same : hi * 2 ^ 54 + lo ≡ r * r
  pub low : lo < 2 ^ 54
