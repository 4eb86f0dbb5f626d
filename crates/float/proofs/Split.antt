-- The k and m of `ln` are those that docs/RULES.md names: p = 2 ^ k * m with 0.75 ≤ m < 1.5 (`split`), where m is a value of the format (`mantissa_is`, `mantissa_held`), and there are no others
-- (`split_unique`). Fractions are pairs of whole numbers: 2 ^ k is up k / down k.
use mathlib.Core.Path.{◌≡◌, refl, sym, ap, ◌∙◌}
use mathlib.Core.Logic.{◌⊎◌, inl, inr}
use Prim.Native.Nat.{ℕ, suc, ◌+◌, ◌-◌, ◌*◌, ◌^◌, ◌≤◌, ◌<◌}
use native.Mathlib.Nat.{le_trans, le_of_eq, lt_of_lt_of_le, mul-pos, mul_assoc, mul_comm, mul_right_comm, mul-one, one-mul, mul-le-mul_left, mul-le-mul_right, mul-lt-mul_of_pos_right, le_of_mul-le-mul_left, eq_of_mul-eq-mul_right, eq_of_mul-eq-mul_left, pow-suc}
use native.Mathlib.Decide.{dec_lt}
use native.Mathlib.Omega.{arith}
use mathlib.Core.Bool.{Bool, true, false, not, cond}
use lib.IntN.{ℤ, pos, negsuc, ◌+ℤ◌}
use lib.Dec.{T, ltb, ltb→lt, nltb→le}
use lib.Pow.{pow-add, pow_pos, pow_mono}
use lib.Ieee.{fin, binary64, up, down, minus, size, fits}
use lib.Ieee.Digits.{minus_val, size-le}
use lib.Ieee.Exact.{HasValue}
use lib.Ieee.Fits.{up_pos, down_pos}
use Rattle.float.specs.Meaning.{Split}
use Rattle.float.specs.Ln.{shift, exponent, mantissa}
use Rattle.float.proofs.Packing.{fits_parts}
use Rattle.float.proofs.Logarithm.{digits_of, shift_low, shift_high, mantissa_fits}

-- ---- there is one: the definition's

-- 2 ^ e = 2 ^ (e + s) / 2 ^ s
moved : (e : ℤ) (s : ℕ) → up e * (down (e +ℤ pos s) * 2 ^ s) ≡ up (e +ℤ pos s) * down e
moved (pos k) s = ap (λ (x : ℕ). 2 ^ k * x) (one-mul (2 ^ s)) ∙ sym (pow-add 2 k s) ∙ sym (mul-one (2 ^ (k + s)))
moved (negsuc k) s = one-mul _ ∙ go (ltb s (suc k)) (ltb→lt s (suc k)) (nltb→le s (suc k))
  where
    lower : (s k : ℕ) → s < suc k → suc (suc k - suc s) + s ≡ suc k
    lower s k h = omega arith

    raise : (s k : ℕ) → suc k ≤ s → s ≡ s - suc k + suc k
    raise s k h = omega arith

    go : (t : Bool) → (T t → s < suc k) → (T (not t) → suc k ≤ s)
        → down (cond t (negsuc (suc k - suc s)) (pos (s - suc k))) * 2 ^ s ≡ up (cond t (negsuc (suc k - suc s)) (pos (s - suc k))) * 2 ^ suc k
    go true a b = sym (pow-add 2 (suc (suc k - suc s)) s) ∙ ap (λ (x : ℕ). 2 ^ x) (lower s k (a tt)) ∙ sym (one-mul (2 ^ suc k))
    go false a b = one-mul (2 ^ s) ∙ ap (λ (x : ℕ). 2 ^ x) (raise s k (b tt)) ∙ pow-add 2 (s - suc k) (suc k)

turn : (n a b c : ℕ) → a * b ≡ c → n * a * b ≡ n * c
turn n a b c h = mul_assoc n a b ∙ ap (λ (x : ℕ). n * x) h

pub split : (n : ℕ) (e : ℤ) → 0 < n → Split n e (exponent n e) n (2 ^ shift n)
split n e p = go (dec_lt (2 * n) (3 * 2 ^ (size n - 1)))
  where
    same : n * up e * (down (exponent n e) * 2 ^ shift n) ≡ up (exponent n e) * n * down e
    same =
        turn n (up e) (down (exponent n e) * 2 ^ shift n) (up (exponent n e) * down e) (moved e (shift n))
        ∙ sym (mul_assoc n (up (exponent n e)) (down e))
        ∙ ap (λ (x : ℕ). x * down e) (mul_comm n (up (exponent n e)))

    low : (q s : ℕ) → s ≡ q → q ≤ n → 2 * n < 3 * q → (3 * s ≤ 4 * n) × (2 * n < 3 * s)
    low q s e a b = omega arith

    high : (q s : ℕ) → s ≡ q * 2 → n < q * 2 → 3 * q ≤ 2 * n → (3 * s ≤ 4 * n) × (2 * n < 3 * s)
    high q s e a b = omega arith

    bounds : (3 * 2 ^ shift n ≤ 4 * n) × (2 * n < 3 * 2 ^ shift n) → Split n e (exponent n e) n (2 ^ shift n)
    bounds b = record { same = same; least = b.0; most = b.1 }

    go : Dec (2 * n < 3 * 2 ^ (size n - 1)) → Split n e (exponent n e) n (2 ^ shift n)
    go (yes h) = bounds (low (2 ^ (size n - 1)) (2 ^ shift n) (ap (λ (x : ℕ). 2 ^ x) (shift_low n h ∙ plain (size n - 1))) (digits_of n p).0 h)
      where
        plain : (d : ℕ) → d + 0 ≡ d
        plain d = omega arith
    go (no h) =
        let g : 3 * 2 ^ (size n - 1) ≤ 2 * n = omega arith in
        bounds (high (2 ^ (size n - 1)) (2 ^ shift n) (ap (λ (x : ℕ). 2 ^ x) (shift_high n g) ∙ pow-add 2 (size n - 1) 1) (lt_of_lt_of_le (digits_of n p).1 (le_of_eq (pow-suc 2 (size n - 1)))) g)

-- m is n / 2 ^ (shift n)
pub mantissa_is : (n : ℕ) → HasValue (mantissa n) false n (2 ^ shift n)
mantissa_is n = (refl, minus_val n 0 (shift n) ∙ ap (λ (x : ℕ). x * down (minus 0 (shift n))) (mul-one n))

-- m is a value of the format, so that nothing is rounded on the way to it
pub mantissa_held : (n : ℕ) (e : ℤ) → T (fits binary64 (fin false (suc n) e)) → T (fits binary64 (mantissa (suc n)))
mantissa_held n e f = (mantissa_fits n (shift (suc n)) e (go (dec_lt (2 * suc n) (3 * 2 ^ (size (suc n) - 1)))) f).1
  where
    few : size (suc n) ≤ 53
    few = size-le (suc n) 53 (fits_parts false n e f).0

    within : (z s j : ℕ) → s ≡ z - 1 + j → z ≤ 53 → j ≤ 1 → s ≤ 1074
    within z s j e h g = omega arith

    go : Dec (2 * suc n < 3 * 2 ^ (size (suc n) - 1)) → shift (suc n) ≤ 1074
    go (yes h) = within (size (suc n)) (shift (suc n)) 0 (shift_low (suc n) h) few (omega arith)
    go (no h) = within (size (suc n)) (shift (suc n)) 1 (shift_high (suc n) (omega arith)) few (omega arith)

-- ---- and no other

-- two powers of two are equal, or one is at least twice the other
apart : (k l : ℤ) → (k ≡ l) ⊎ ((2 * (up k * down l) ≤ up l * down k) ⊎ (2 * (up l * down k) ≤ up k * down l))
apart (pos i) (pos j) = go (dec_lt i j) (dec_lt j i)
  where
    less : (i j : ℕ) → i < j → 2 * (2 ^ i * 1) ≤ 2 ^ j * 1
    less i j h = le_trans (le_of_eq (double (2 ^ i))) (le_trans (le_of_eq (sym (pow-suc 2 i))) (le_trans (pow_mono h) (le_of_eq (sym (mul-one (2 ^ j))))))
      where
        double : (p : ℕ) → 2 * (p * 1) ≡ p * 2
        double p = omega arith

    go : Dec (i < j) → Dec (j < i) → (pos i ≡ pos j) ⊎ ((2 * (2 ^ i * 1) ≤ 2 ^ j * 1) ⊎ (2 * (2 ^ j * 1) ≤ 2 ^ i * 1))
    go (yes h) g = inr (inl (less i j h))
    go (no h) (yes g) = inr (inr (less j i g))
    go (no h) (no g) = inl (ap pos (omega arith))
apart (pos i) (negsuc j) = inr (inr (far (2 ^ i) (2 ^ suc j) (pow_pos i) (pow_mono {i = 1} {j = suc j} (omega arith))))
  where
    far : (p q : ℕ) → 0 < p → 2 ≤ q → 2 * (1 * 1) ≤ p * q
    far p q a b = le_trans b (le_trans (le_of_eq (sym (one-mul q))) (mul-le-mul_right q a))
apart (negsuc i) (pos j) = inr (inl (far (2 ^ j) (2 ^ suc i) (pow_pos j) (pow_mono {i = 1} {j = suc i} (omega arith))))
  where
    far : (p q : ℕ) → 0 < p → 2 ≤ q → 2 * (1 * 1) ≤ p * q
    far p q a b = le_trans b (le_trans (le_of_eq (sym (one-mul q))) (mul-le-mul_right q a))
apart (negsuc i) (negsuc j) = go (dec_lt i j) (dec_lt j i)
  where
    less : (i j : ℕ) → i < j → 2 * (1 * 2 ^ suc i) ≤ 1 * 2 ^ suc j
    less i j h = le_trans (le_of_eq (double (2 ^ suc i))) (le_trans (le_of_eq (sym (pow-suc 2 (suc i)))) (le_trans (pow_mono (next i j h)) (le_of_eq (sym (one-mul (2 ^ suc j))))))
      where
        double : (p : ℕ) → 2 * (1 * p) ≡ p * 2
        double p = omega arith

        next : (i j : ℕ) → i < j → suc (suc i) ≤ suc j
        next i j h = omega arith

    go : Dec (i < j) → Dec (j < i) → (negsuc i ≡ negsuc j) ⊎ ((2 * (1 * 2 ^ suc j) ≤ 1 * 2 ^ suc i) ⊎ (2 * (1 * 2 ^ suc i) ≤ 1 * 2 ^ suc j))
    go (yes h) g = inr (inr (less i j h))
    go (no h) (yes g) = inr (inl (less j i g))
    go (no h) (no g) = inl (ap negsuc (omega arith))

-- p * (a / c) = q * (b / d) cannot be, where q is twice p or more and both fractions lie in the interval
clash : (p q a c b d : ℕ) → 0 < p → p * (a * d) ≡ q * (b * c) → 2 * p ≤ q → 2 * a < 3 * c → 3 * d ≤ 4 * b → 2 * b < 3 * d → ⊥
clash p q a c b d P e h m l k = never (a * d) (b * c) (le_of_mul-le-mul_left (le_trans (le_of_eq (regroup p (b * c))) (le_trans (mul-le-mul_right (b * c) h) (le_of_eq (sym e)))) P) ratio
  where
    regroup : (p x : ℕ) → p * (2 * x) ≡ 2 * p * x
    regroup p x = omega arith

    never : (x y : ℕ) → 2 * y ≤ x → x < 2 * y → ⊥
    never x y g h = omega arith

    some : (b d : ℕ) → 3 * d ≤ 4 * b → 2 * b < 3 * d → 0 < 4 * b
    some b d l k = omega arith

    ratio : a * d < 2 * (b * c)
    ratio =
        let x : 2 * a * (3 * d) ≤ 2 * a * (4 * b) = mul-le-mul_left (2 * a) l in
        let y : 2 * a * (4 * b) < 3 * c * (4 * b) = mul-lt-mul_of_pos_right m (some b d l k) in
        omega arith

pub split_unique : (n : ℕ) (e k l : ℤ) (a c b d : ℕ) → Split n e k a c → Split n e l b d → (k ≡ l) × (a * d ≡ b * c)
split_unique n e k l a c b d s t = go (apart k l)
  where
    cross : (N x y p q : ℕ) → N * p ≡ x → N * q ≡ y → x * q ≡ y * p
    cross N x y p q h g = ap (λ (z : ℕ). z * q) (sym h) ∙ mul_right_comm N p q ∙ ap (λ (z : ℕ). z * p) g

    regroup : (u v a d w : ℕ) → u * v * (a * d) * w ≡ u * a * w * (v * d)
    regroup u v a d w = omega arith

    equal : up k * down l * (a * d) ≡ up l * down k * (b * c)
    equal =
        eq_of_mul-eq-mul_right (down e) (down_pos e) (up k * down l * (a * d)) (up l * down k * (b * c))
        (regroup (up k) (down l) a d (down e)
        ∙ cross (n * up e) (up k * a * down e) (up l * b * down e) (down k * c) (down l * d) s.same t.same
        ∙ sym (regroup (up l) (down k) b c (down e)))

    go : (k ≡ l) ⊎ ((2 * (up k * down l) ≤ up l * down k) ⊎ (2 * (up l * down k) ≤ up k * down l)) → (k ≡ l) × (a * d ≡ b * c)
    go (inl i) =
        let j : up l * down k ≡ up k * down l = ap (λ (z : ℤ). up z * down k) (sym i) ∙ ap (λ (z : ℤ). up k * down z) i in
        (i, eq_of_mul-eq-mul_left (up k * down l) (mul-pos (up_pos k) (down_pos l)) (a * d) (b * c) (equal ∙ ap (λ (z : ℕ). z * (b * c)) j))
    go (inr (inl h)) = absurd (clash (up k * down l) (up l * down k) a c b d (mul-pos (up_pos k) (down_pos l)) equal h s.most t.least t.most)
    go (inr (inr h)) = absurd (clash (up l * down k) (up k * down l) b d a c (mul-pos (up_pos l) (down_pos k)) (sym equal) h t.most s.least s.most)
