-- The laws of the root that other crates cite. It keeps the order of values at or above zero, -0.0 included (`root_monotone`); of a finite value at or above zero it is finite
-- and at or above zero (`root_finite`); it is a value of the format (`root_fits`), and the one nearest to the real root (`root_is_nearest`).
use mathlib.Core.Path.{◌≡◌, refl, sym, ap, ap₂, ◌∙◌, subst}
use mathlib.Core.Logic.{◌⊎◌, inl, inr}
use Prim.Native.Nat.{ℕ, zero, suc, ◌+◌, ◌-◌, ◌*◌, ◌/◌, ◌^◌, ◌≤◌, ◌<◌, zero-le, compare}
use native.Mathlib.Nat.{le_of_eq, lt_of_le_of_lt, lt_irrefl, zero-lt-suc, zero-mul, mul-pos, mul_assoc, mul-one, eq_of_mul-eq-mul_right, eq-zero-or-pos, not-le_of_lt}
use native.Mathlib.Omega.{arith}
use mathlib.Core.Bool.{Bool, true, false, not, cond, false≢true}
use lib.IntN.{ℤ, pos, negsuc}
use lib.Dec.{T, ltb, ltb→lt, nltb→le}
use lib.Pow.{pow-add, pow_pos, pow-lt}
use lib.Ieee.{Float, nan, inf, fin, binary64, up, down, odd, units, fits, lt, eq, le, of_bits}
use lib.Ieee.Fits.{up_pos, down_pos, odd-fits, inf-fits, nan-fits, nearest-le, kept-lt}
use lib.Ieee.Exact.{HasValue, odd_sign}
use lib.Ieee.Order.{le_of_values}
use lib.Ieee.Bits.{is_true}
use Rattle.float.specs.Binary64.{zero64, finite}
use Rattle.float.specs.Root.{isqrt, root_units, root}
use Rattle.float.proofs.Order.{true→T, below_level, finite_number, le_refl, le_trans}
use Rattle.float.proofs.Packing.{root_value, fits_parts}
use Rattle.float.proofs.Monotone.{nonneg, middle, drop, kept_digits, root_mono, root_units_lem}
use Rattle.float.specs.Meaning.{Nearer, NearestRoot}
use Rattle.float.proofs.Nearest.{root_nearest}

-- ---- -0.0 included: every value at or above zero

root_zero : (s : Bool) (e : ℤ) → root binary64 (fin s zero e) ≡ fin s zero e
unfolding root
root_zero s e = refl

root_zero64 : root binary64 zero64 ≡ zero64
unfolding root of_bits
root_zero64 = refl

zero_nonneg : T (nonneg zero64)
unfolding of_bits
zero_nonneg = tt

-- a negative zero is at most zero
minus_zero_le : (e : ℤ) → le (fin true zero e) zero64 ≡ true
unfolding le lt eq of_bits
minus_zero_le e = below_level true false (0 * up e * 1) (0 * 1 * down e)

-- what is at or above zero is a value with no sign, or -0.0
from_zero : (x : Float) → le zero64 x ≡ true → T (nonneg x) ⊎ ((e : ℤ) × (x ≡ fin true zero e))
unfolding le lt eq of_bits
from_zero nan h = absurd (false≢true h)
from_zero (inf true) h = absurd (false≢true h)
from_zero (inf false) h = inl tt
from_zero (fin false m e) h = inl tt
from_zero (fin true zero e) h = inr (e, refl)
from_zero (fin true (suc m) e) h =
    absurd
    (no (0 * 1 * down e) (suc m * up e * 1) (mul-pos (mul-pos (zero-lt-suc m) (up_pos e)) (zero-lt-suc 0))
    (sym (below_level false true (0 * 1 * down e) (suc m * up e * 1)) ∙ h))
  where
    no : (a b : ℕ) → 0 < b → not (ltb 0 (b + a)) ≡ true → ⊥
    no a b p e = let z = nltb→le 0 (b + a) (true→T e) in omega arith

pub root_monotone : (x y : Float) → le zero64 x ≡ true → le x y ≡ true → le (root binary64 x) (root binary64 y) ≡ true
root_monotone x y p h = go (from_zero x p) (from_zero y q)
  where
    q : le zero64 y ≡ true
    q = le_trans zero64 x y p h

    go : T (nonneg x) ⊎ ((e : ℤ) × (x ≡ fin true zero e)) → T (nonneg y) ⊎ ((e : ℤ) × (y ≡ fin true zero e)) → le (root binary64 x) (root binary64 y) ≡ true
    go (inl a) (inl b) = is_true _ (root_mono binary64 x y a b (true→T h))
    go (inr (e, a)) (inl b) =
        le_trans (root binary64 x) zero64 (root binary64 y)
        (ap (λ (z : Float). le z zero64) (ap (root binary64) a ∙ root_zero true e) ∙ minus_zero_le e)
        (ap (λ (z : Float). le z (root binary64 y)) (sym root_zero64) ∙ is_true _ (root_mono binary64 zero64 y zero_nonneg b (true→T q)))
    go (inl a) (inr (d, b)) =
        let under : le x zero64 ≡ true = le_trans x y zero64 h (ap (λ (z : Float). le z zero64) b ∙ minus_zero_le d) in
        le_trans (root binary64 x) zero64 (root binary64 y)
        (ap (λ (z : Float). le (root binary64 x) z) (sym root_zero64) ∙ is_true _ (root_mono binary64 x zero64 a zero_nonneg (true→T under)))
        (ap (λ (z : Float). le zero64 z) (ap (root binary64) b ∙ root_zero true d ∙ sym b) ∙ q)
    go (inr (e, a)) (inr (d, b)) = ap₂ le (ap (root binary64) a ∙ root_zero true e ∙ sym a) (ap (root binary64) b ∙ root_zero true d ∙ sym b) ∙ h

-- ---- the root of a finite value

-- 2 ^ 1024 lies above every value of the format, and its root is 2 ^ 512
root_overflow : root binary64 (fin false 1 (pos 1024)) ≡ fin false 1 (pos 512)
unfolding root
root_overflow = refl

under_overflow : (x : Float) → T (fits binary64 x) → finite x ≡ true → le x (fin false 1 (pos 1024)) ≡ true
unfolding le lt eq fits finite
under_overflow nan f h = absurd (false≢true h)
under_overflow (inf s) f h = absurd (false≢true h)
under_overflow (fin true m e) f h = below_level true false (m * up e * 1) (1 * 2 ^ 1024 * down e)
under_overflow (fin false m e) f h =
    is_true _
    (le_of_values (fin false m e) (fin false 1 (pos 1024)) (m * up e) (down e) (2 ^ 1024) 1 (down_pos e) (zero-lt-suc 0) (refl, refl)
    (refl, refl) (weak (m * up e) (2 ^ 1024 * down e) (small m e f)))
  where
    weak : (a b : ℕ) → a < b → a * 1 ≤ b
    weak a b h = omega arith

    small : (m : ℕ) (e : ℤ) → T (fits binary64 (fin false m e)) → m * up e < 2 ^ 1024 * down e
    small zero e f = lt_of_le_of_lt (le_of_eq (zero-mul (up e))) (mul-pos (pow_pos 1024) (down_pos e))
    small (suc m) e f = (fits_parts false m e f).2

pub root_finite : (x : Float) → T (fits binary64 x) → finite x ≡ true → le zero64 x ≡ true → (finite (root binary64 x) ≡ true) × (le zero64 (root binary64 x) ≡ true)
unfolding le lt eq finite of_bits
root_finite x f h p =
    let low : le zero64 (root binary64 x) ≡ true = ap (λ (z : Float). le z (root binary64 x)) (sym root_zero64) ∙ root_monotone zero64 x
    (le_refl zero64 (finite_number zero64 zero_finite)) p in
    let high : le (root binary64 x) (fin false 1 (pos 512)) ≡ true = ap (λ (z : Float). le (root binary64 x) z) (sym root_overflow) ∙ root_monotone x
    (fin false 1 (pos 1024)) p (under_overflow x f h) in
    (between (root binary64 x) low high, low)
  where
    zero_finite : finite zero64 ≡ true
    zero_finite = refl

    between : (z : Float) → le zero64 z ≡ true → le z (fin false 1 (pos 512)) ≡ true → finite z ≡ true
    between nan a b = absurd (false≢true a)
    between (inf true) a b = absurd (false≢true a)
    between (inf false) a b = absurd (false≢true b)
    between (fin s m e) a b = refl

-- ---- the root is a value of the format

units_held : (q k : ℕ) → q ≤ 2 ^ 53 → T (fits binary64 (units binary64 false q k))
unfolding units
units_held q k h = go (ltb (q * 2 ^ k) (2 ^ 2098)) (ltb→lt (q * 2 ^ k) (2 ^ 2098))
  where
    go : (t : Bool) → (T t → q * 2 ^ k < 2 ^ 2098) → T (fits binary64 (cond t (odd 54 false q k 1074) (inf false)))
    go true l = odd-fits binary64 54 false q k (lt_of_le_of_lt h (pow-lt {i = 53} {j = 54} (omega arith))) h (l tt)
    go false l = inf-fits binary64 false

units_unsigned : (q k : ℕ) → T (nonneg (units binary64 false q k))
unfolding units odd
units_unsigned q k = go (ltb (q * 2 ^ k) (2 ^ 2098)) q
  where
    go : (t : Bool) (q : ℕ) → T (nonneg (cond t (odd 54 false q k 1074) (inf false)))
    go true zero = tt
    go true (suc q) = tt
    go false q = tt

root_units_held : (n : ℕ) → T (fits binary64 (root_units binary64 n)) × T (nonneg (root_units binary64 n))
root_units_held n =
    let k = drop binary64 n in
    let q = isqrt n / 2 ^ k in
    let few : kept_digits n q k ≤ 2 ^ 53 = native.Mathlib.Nat.le_trans (nearest-le q (compare (4 * n) (middle q k))) (kept-lt 53 (isqrt n)) in (
      subst (λ (v : Float). T (fits binary64 v)) (sym (root_units_lem binary64 n)) (units_held (kept_digits n q k) k few),
      subst (λ (v : Float). T (nonneg v)) (sym (root_units_lem binary64 n)) (units_unsigned (kept_digits n q k) k),
    )

pub root_fits : (x : Float) → T (fits binary64 x) → T (fits binary64 (root binary64 x))
unfolding root
root_fits nan f = nan-fits binary64
root_fits (inf true) f = nan-fits binary64
root_fits (inf false) f = inf-fits binary64 false
root_fits (fin s zero e) f = f
root_fits (fin true (suc m) e) f = nan-fits binary64
root_fits (fin false (suc m) e) f = (root_units_held (suc m * up e * 2 ^ 2148 / down e)).0

-- ---- the nearest

-- what a value is in smallest values is one number
one_number : (x : Float) (a b c : ℕ) → HasValue x false a c → HasValue x false b c → a ≡ b
one_number nan a b c h k = absurd h
one_number (inf s) a b c h k = absurd h
one_number (fin s m e) a b c h k = eq_of_mul-eq-mul_right (down e) (down_pos e) a b (sym h.1 ∙ k.1)

pow_order : (k l : ℕ) → 2 ^ k ≤ 2 ^ l → k ≤ l
pow_order k l g = not_above k l (λ (p : l < k). not-le_of_lt (pow-lt p) g)
  where
    not_above : (k l : ℕ) → (l < k → ⊥) → k ≤ l
    not_above k l n = omega arith

in_places : (m k l : ℕ) → k ≤ l → m * 1 * 2 ^ l ≡ m * 2 ^ (l - k) * 2 ^ k
in_places m k l g =
    ap (λ (x : ℕ). x * 2 ^ l) (mul-one m)
    ∙ ap (λ (x : ℕ). m * x) (ap (λ (x : ℕ). 2 ^ x) (join l k g) ∙ pow-add 2 (l - k) k)
    ∙ sym (mul_assoc m (2 ^ (l - k)) (2 ^ k))
  where
    join : (l k : ℕ) → k ≤ l → l ≡ l - k + k
    join l k h = omega arith

cancel_places : (m c k l : ℕ) → k ≤ l → m * 1 * 2 ^ l ≡ c * 2 ^ k → c ≡ m * 2 ^ (l - k)
cancel_places m c k l g h = eq_of_mul-eq-mul_right (2 ^ k) (pow_pos k) c (m * 2 ^ (l - k)) (sym h ∙ in_places m k l g)

-- a value of the format is t * 2 ^ l smallest values, with a t of at most 53 digits
digits_of_value : (y : Float) (c : ℕ) → T (fits binary64 y) → HasValue y false c (2 ^ 1074) → (t : ℕ) × (l : ℕ) × (t < 2 ^ 53) × (c ≡ t * 2 ^ l)
digits_of_value nan c f h = absurd h
digits_of_value (inf s) c f h = absurd h
digits_of_value (fin s zero e) c f h = (
  0,
  0,
  pow_pos 53,
  one_number (fin false zero e) c 0 (2 ^ 1074) (refl, h.1)
      (refl, ap (λ (x : ℕ). x * 2 ^ 1074) (zero-mul (up e)) ∙ zero-mul (2 ^ 1074) ∙ sym (zero-mul (down e))),
)
digits_of_value (fin s (suc m) (pos k)) c f h =
    (suc m, k + 1074, (fits_parts s m (pos k) f).0, sym (mul-one c) ∙ sym h.1 ∙ mul_assoc (suc m) (2 ^ k) (2 ^ 1074) ∙ ap (λ (x : ℕ). suc m * x) (sym (pow-add 2 k 1074)))
digits_of_value (fin s (suc m) (negsuc k)) c f h = let g = fits_parts s m (negsuc k) f in (suc m, 1074 - suc k, g.0, cancel_places (suc m) c (suc k) 1074 (pow_order (suc k) 1074 g.1) h.1)

units_number : (q k b : ℕ) → HasValue (units binary64 false q k) false b (2 ^ 1074) → b ≡ q * 2 ^ k
unfolding units
units_number q k b = go (ltb (q * 2 ^ k) (2 ^ 2098))
  where
    go : (t : Bool) → HasValue (cond t (odd 54 false q k 1074) (inf false)) false b (2 ^ 1074) → b ≡ q * 2 ^ k
    go true v = one_number (odd 54 false q k 1074) b (q * 2 ^ k) (2 ^ 1074) v (odd_sign 54 false q k 1074)
    go false v = absurd v

root_of_zero : (x : Float) (b : ℕ) → HasValue x false 0 (2 ^ 1074) → HasValue (root binary64 x) false b (2 ^ 1074) → b ≡ 0
unfolding root
root_of_zero nan b h r = absurd h
root_of_zero (inf s) b h r = absurd h
root_of_zero (fin s zero e) b h r = one_number (fin s zero e) b 0 (2 ^ 1074) r h
root_of_zero (fin s (suc m) e) b h r = absurd (lt_irrefl 0 (subst (λ (n : ℕ). 0 < n) (h.1 ∙ zero-mul (down e)) (mul-pos (mul-pos (zero-lt-suc m) (up_pos e)) (pow_pos 1074))))

near_zero : (c : ℕ) → Nearer 0 0 c
near_zero c = record { under = λ h. absurd (no c h); over = λ h. zero-le }
  where
    no : (c : ℕ) → c < 0 → ⊥
    no c h = omega arith

-- x is a smallest values, so its real root is √(a * 2 ^ 1074) of them. Its root by the definition is b of them, and y is any value of the format, c of them, at or above zero: b is no
-- further from the real root than c.
root_nearest_value :
    (x y : Float) (a b c : ℕ) → T (fits binary64 y) → HasValue x false a (2 ^ 1074) → HasValue (root binary64 x) false b (2 ^ 1074) → HasValue y
    false c (2 ^ 1074) → Nearer (a * 2 ^ 1074) b c
root_nearest_value x y a b c f h r k = elim (eq-zero-or-pos a) [
  | inl z ↦
      subst (λ (n : ℕ). Nearer n b c) (sym (ap (λ (n : ℕ). n * 2 ^ 1074) z ∙ zero-mul (2 ^ 1074)))
      (subst (λ (u : ℕ). Nearer 0 u c) (sym (root_of_zero x b (subst (λ (n : ℕ). HasValue x false n (2 ^ 1074)) z h) r)) (near_zero c))
  | inr p ↦
      let n = a * 2 ^ 1074 in
      let q = kept_digits n (isqrt n / 2 ^ drop binary64 n) (drop binary64 n) in
      let e : root binary64 x ≡ units binary64 false q (drop binary64 n) = root_value binary64 x a p h ∙ root_units_lem binary64 n in
      let d = digits_of_value y c f k in
      subst (λ (u : ℕ). Nearer n u c) (sym (units_number q (drop binary64 n) b (subst (λ (v : Float). HasValue v false b (2 ^ 1074)) e r)))
      (subst (λ (v : ℕ). Nearer n (q * 2 ^ drop binary64 n) v) (sym d.3) (root_nearest binary64 n d.0 d.1 d.2))
]

-- every finite value of the format is a whole number of smallest values
in_units : (x : Float) → T (fits binary64 x) → finite x ≡ true → T (nonneg x) → (a : ℕ) × HasValue x false a (2 ^ 1074)
unfolding finite
in_units nan f h p = absurd p
in_units (inf s) f h p = absurd (false≢true h)
in_units (fin true m e) f h p = absurd p
in_units (fin false zero e) f h p = (0, (refl, ap (λ (x : ℕ). x * 2 ^ 1074) (zero-mul (up e)) ∙ zero-mul (2 ^ 1074) ∙ sym (zero-mul (down e))))
in_units (fin false (suc m) (pos k)) f h p = (suc m * 2 ^ k * 2 ^ 1074, (refl, sym (mul-one (suc m * 2 ^ k * 2 ^ 1074))))
in_units (fin false (suc m) (negsuc k)) f h p = (suc m * 2 ^ (1074 - suc k), (refl, in_places (suc m) (suc k) 1074 (pow_order (suc k) 1074 (fits_parts false m (negsuc k) f).1)))

unsigned_root : (x : Float) → T (nonneg x) → T (nonneg (root binary64 x))
unfolding root
unsigned_root nan p = absurd p
unsigned_root (inf true) p = absurd p
unsigned_root (inf false) p = tt
unsigned_root (fin true m e) p = absurd p
unsigned_root (fin false zero e) p = tt
unsigned_root (fin false (suc m) e) p = (root_units_held (suc m * up e * 2 ^ 2148 / down e)).1

zero_value : HasValue zero64 false 0 1
unfolding of_bits
zero_value = (refl, refl)

pub root_is_nearest : (x : Float) → T (fits binary64 x) → finite x ≡ true → T (nonneg x) → NearestRoot x (root binary64 x)
root_is_nearest x f h p =
    let u = in_units x f h p in
    let zero_le_x : le zero64 x ≡ true = is_true _
    (le_of_values zero64 x 0 1 u.0 (2 ^ 1074) (zero-lt-suc 0) (pow_pos 1074) zero_value u.1
    (native.Mathlib.Nat.le_trans (le_of_eq (zero-mul (2 ^ 1074))) zero-le))
    in
    let v = in_units (root binary64 x) (root_fits x f) (root_finite x f h zero_le_x).0 (unsigned_root x p) in
    record { a = u.0; b = v.0; of_x = u.1; of_r = v.1; nearest = λ y c g k. root_nearest_value x y u.0 v.0 c g u.1 v.1 k }
