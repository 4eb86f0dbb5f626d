-- What the root, the logarithm's k and m and the rounding to a whole number are, in whole numbers: `root`, `shift` and `round_ties_away` are proved to be these
-- (proofs/RootLaws.antt, Split.antt, RoundLaws.antt). Definitions only.
use Rattle.std.specs.Prelude.{◌≡◌, Bool, false, ℕ, ◌+◌, ◌*◌, ◌^◌, ◌≤◌, ◌<◌, T, ℤ, Float}
use Rattle.std.specs.Float.{binary64}
use Rattle.std.specs.Float.Ieee.{up, down, fits}
use Rattle.std.specs.Float.Ieee.Exact.{HasValue}

-- √n is no further from v than from y
pub record Nearer (n v y : ℕ) : Type 0 where
  pub under : y < v → (v + y) * (v + y) ≤ 4 * n
  pub over : v < y → 4 * n ≤ (v + y) * (v + y)

-- r is the value of the format that is nearest to the real root of x: x is a smallest values and r is b, and no value y at or above zero is nearer.
pub record NearestRoot (x r : Float) : Type 0 where
  pub a : ℕ
  pub b : ℕ
  pub of_x : HasValue x false a (2 ^ 1074)
  pub of_r : HasValue r false b (2 ^ 1074)
  pub nearest : (y : Float) (c : ℕ) → T (fits binary64 y) → HasValue y false c (2 ^ 1074) → Nearer (a * 2 ^ 1074) b c

-- n * 2 ^ e is 2 ^ k * (a / c), and a / c lies at or above 0.75 and below 1.5
pub record Split (n : ℕ) (e k : ℤ) (a c : ℕ) : Type 0 where
  pub same : n * up e * (down k * c) ≡ up k * a * down e
  pub least : 3 * c ≤ 4 * a
  pub most : 2 * a < 3 * c

-- r is the whole number that is nearest to x, of two as near the one further from zero, with the sign of x: x is ±a / c, r is ±n, and n - 1/2 <= a / c < n + 1/2.
pub record NearestWhole (x r : Float) : Type 0 where
  pub s : Bool
  pub a : ℕ
  pub c : ℕ
  pub n : ℕ
  pub some : 0 < c
  pub of_x : HasValue x s a c
  pub of_r : HasValue r s n 1
  pub least : 2 * n * c ≤ 2 * a + c
  pub most : 2 * a + c < 2 * n * c + 2 * c
