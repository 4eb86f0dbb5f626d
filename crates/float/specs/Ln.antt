-- The rules' stand-in for ln, each operation rounded once, and plogp. Definitions only.
use Rattle.std.specs.Prelude.{ℕ, zero, suc, ◌+◌, ◌-◌, ◌*◌, ◌^◌, true, false, cond, ℤ, pos, ◌+ℤ◌, ltb, Float}
use Rattle.std.specs.Float.{nan, inf, fin, binary64}
use Rattle.std.specs.Float.Ieee.{size, minus, lt, of_int, of_bits}
use Rattle.float.specs.Binary64.{add64, sub64, mul64, div64, whole64, zero64, one64, two64}

-- LN2, with bits 3FE62E42FEFA39EF.
abbrev pub ln2 : Float
ln2 = of_bits binary64 0x3FE6_2E42_FEFA_39EF

-- The series: t = t * z + 1 / j for the i odd numbers j from 2i - 1 down to 1.
unfoldable pub series : ℕ → Float → Float → Float
series zero z t = t
series (suc i) z t = series i z (add64 (mul64 t z) (div64 one64 (whole64 (2 * i + 1))))

-- k * LN2 + (2 * s) * t with s = (m - 1) / (m + 1), z = s * s, and t from 1/23 on by the series.
unfoldable pub ln_of : Float → Float → Float
unfolding series
ln_of k m =
    let s = div64 (sub64 m one64) (add64 m one64) in
    let t = series 11 (mul64 s s) (div64 one64 (whole64 23)) in
    add64 (mul64 k ln2) (mul64 (mul64 two64 s) t)

-- A positive n * 2^e is 2^k * m with 0.75 <= m < 1.5, where m = n / 2^(shift n) and k = e + shift n.
-- For an n of d + 1 binary digits n / 2^d lies at or above 1 and below 2: m is that where it is below 1.5, and half of it otherwise.
-- `proofs/Split.antt` shows that this k and m are as said, and that no others are.
unfoldable pub shift : ℕ → ℕ
unfolding size
shift n = let d = size n - 1 in cond (ltb (2 * n) (3 * 2 ^ d)) d (suc d)

abbrev pub exponent : ℕ → ℤ → ℤ
exponent n e = e +ℤ pos (shift n)

abbrev pub mantissa : ℕ → Float
mantissa n = fin false n (minus 0 (shift n))

-- ln: infinity gives infinity. Of a zero it is minus infinity, and of any other value that is not positive, NaN.
unfoldable pub ln : Float → Float
unfolding ln_of shift
ln nan = nan
ln (inf true) = nan
ln (inf false) = inf false
ln (fin s zero e) = inf true
ln (fin true (suc n) e) = nan
ln (fin false (suc n) e) = ln_of (of_int binary64 (exponent (suc n) e)) (mantissa (suc n))

-- plogp: p * ln(p), and 0 unless p > 0.
unfoldable pub plogp : Float → Float
unfolding ln
plogp p = cond (lt zero64 p) (mul64 p (ln p)) zero64
