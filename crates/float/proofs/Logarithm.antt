-- How the k and m of `ln` are read off the bits of p (`ln_low`, `ln_high`). What they are is in `proofs/Split.antt`.
use mathlib.Core.Path.{◌≡◌, refl, sym, ap, ◌∙◌, subst}
use Prim.Native.Nat.{ℕ, zero, suc, ◌+◌, ◌-◌, ◌*◌, ◌/◌, ◌%◌, ◌^◌, ◌≤◌, ◌<◌, zero-le}
use native.Mathlib.Nat.{le_of_suc-le-suc, lt_irrefl, lt_of_not-le, lt_of_lt_of_le, lt_of_le_of_lt, le_trans, le_of_eq, mul_assoc, mul_right_comm, mul-one, mul-le-mul_right, mul-le-mul_left, mul-lt-mul_of_pos_right, mul-pos, zero-lt-suc, eq_of_mul-eq-mul_right, zero-mul}
use native.Mathlib.Omega.{arith}
use mathlib.Core.Bool.{Bool, true, false, not, ◌&&◌, cond, true≢false}
use lib.IntN.{ℤ, pos, negsuc, sub_ℕ, ◌+ℤ◌}
use lib.Dec.{T, leb-suc-zero, ltb, leb, eqb, leb→le, nleb→lt, ltb→lt, nltb→le, lt→ltb, le→leb, lit≤}
use lib.Arith.{le→nltb}
use lib.Pow.{pow-add, pow_pos, pow_mono, shl_lt}
use lib.Ieee.{Float, nan, inf, fin, binary64, up, down, minus, size, odd, fits, of_int, of_bits, div}
use lib.Ieee.Digits.{size-lt, size_reaches}
use lib.Ieee.Exact.{HasValue, odd_sign}
use lib.Ieee.Fits.{and_i, and_l, and_r, down_pos}
use lib.Ieee.Bits.{is_true, is_false, of_bits-fits}
use Rattle.float.specs.Binary64.{sub64, whole64}
use Rattle.float.specs.Ln.{series, ln_of, shift, ln}
use Rattle.float.specs.Steps.{Unpacked, Normal}
use Rattle.float.proofs.RootDigits.{size_is}
use Rattle.float.proofs.Unpacking.{of_normal}
use Rattle.float.proofs.Packing.{value_unique}
use Rattle.float.proofs.Exact.{whole_difference}

-- ---- differences of natural numbers as integers

equal_differences : (a b c d : ℕ) → a + d ≡ c + b → minus a b ≡ sub_ℕ c d
equal_differences a b c d h = go (leb b a) (ltb c d) (leb→le b a) (nleb→lt b a) (ltb→lt c d) (nltb→le c d)
  where
    go : (s t : Bool) → (T s → b ≤ a) → (T (not s) → a < b) → (T t → c < d) → (T (not t) → d ≤ c)
        → cond s (pos (a - b)) (negsuc (b - suc a)) ≡ cond t (negsuc (d - suc c)) (pos (c - d))
    go true true p q r s = absurd (let x = p tt in let y = r tt in omega arith)
    go true false p q r s = ap pos (let x = p tt in let y = s tt in omega arith)
    go false true p q r s = ap negsuc (let x = q tt in let y = r tt in omega arith)
    go false false p q r s = absurd (let x = q tt in let y = s tt in omega arith)

difference : (a b x : ℕ) → a ≡ b + x → minus a b ≡ pos x
difference a b x h = go (leb b a) (nleb→lt b a)
  where
    go : (s : Bool) → (T (not s) → a < b) → cond s (pos (a - b)) (negsuc (b - suc a)) ≡ pos x
    go true q = ap pos (omega arith)
    go false q = absurd (let y = q tt in omega arith)

minus_below : (s : ℕ) → minus 0 (suc s) ≡ negsuc s
minus_below s = ap (λ (t : Bool). cond t (pos (0 - suc s)) (negsuc (suc s - suc 0))) (leb-suc-zero s) ∙ ap negsuc (one_less s)
  where
    one_less : (s : ℕ) → suc s - suc 0 ≡ s
    one_less s = omega arith

up_below : (s : ℕ) → up (minus 0 s) ≡ 1
up_below zero = refl
up_below (suc s) = ap up (minus_below s)

down_below : (s : ℕ) → down (minus 0 s) ≡ 2 ^ s
down_below zero = refl
down_below (suc s) = ap down (minus_below s)

-- ---- n has d + 1 binary digits, where d is `size n - 1`

pub digits_of : (n : ℕ) → 0 < n → (2 ^ (size n - 1) ≤ n) × (n < 2 ^ suc (size n - 1))
digits_of n p = go (size n) (size-lt n) (λ j. size_reaches n j)
  where
    go : (z : ℕ) → n < 2 ^ z → ((j : ℕ) → j < z → 2 ^ j ≤ n) → (2 ^ (z - 1) ≤ n) × (n < 2 ^ suc (z - 1))
    go zero h r = absurd (omega arith)
    go (suc z) h r = (subst (λ (d : ℕ). 2 ^ d ≤ n) (one_less z) (r z (omega arith)), subst (λ (d : ℕ). n < 2 ^ suc d) (one_less z) h)
      where
        one_less : (z : ℕ) → z ≡ suc z - 1
        one_less z = omega arith

-- n of d + 1 digits and m of 53, equal but for powers of two
module _ (n d m : ℕ) (lo : 2 ^ d ≤ n) (hi : n < 2 ^ suc d) (full : 2 ^ 52 ≤ m) (short : m < 2 ^ 53) where
  level : (a b : ℕ) → n * 2 ^ a ≡ m * 2 ^ b → d + a ≡ 52 + b
  level a b e =
      same_suc (d + a) (52 + b)
      (sym (size_is (n * 2 ^ a) (d + a) (at_least n d a lo) (at_most n d a hi)) ∙ ap size e ∙ size_is (m * 2 ^ b) (52 + b) (at_least m 52 b full)
      (at_most m 52 b short))
    where
      same_suc : (a b : ℕ) → suc a ≡ suc b → a ≡ b
      same_suc a b e = omega arith

      at_least : (n d a : ℕ) → 2 ^ d ≤ n → 2 ^ (d + a) ≤ n * 2 ^ a
      at_least n d a h = le_trans (le_of_eq (pow-add 2 d a)) (mul-le-mul_right (2 ^ a) h)

      at_most : (n d a : ℕ) → n < 2 ^ suc d → n * 2 ^ a < 2 ^ suc (d + a)
      at_most n d a h = subst (λ (z : ℕ). n * 2 ^ a < 2 ^ z) (next d a) (shl_lt (suc d) a h)
        where
          next : (d a : ℕ) → suc d + a ≡ suc (d + a)
          next d a = omega arith

  cancel : (c : ℕ) → n * 2 ^ (52 + c) ≡ m * 2 ^ (d + c) → n * 2 ^ 52 ≡ m * 2 ^ d
  cancel c e =
      eq_of_mul-eq-mul_right (2 ^ c) (pow_pos c) (n * 2 ^ 52) (m * 2 ^ d)
      (mul_assoc n (2 ^ 52) (2 ^ c) ∙ ap (λ (x : ℕ). n * x) (sym (pow-add 2 52 c)) ∙ e ∙ ap (λ (x : ℕ). m * x) (pow-add 2 d c) ∙ sym (mul_assoc m (2 ^ d) (2 ^ c)))

  -- n * 2 ^ e is m * 2 ^ x / 2 ^ (52 + c)
  placed : (c x : ℕ) (e : ℤ) → n * up e * 2 ^ (52 + c) ≡ m * 2 ^ x * down e → (n * 2 ^ 52 ≡ m * 2 ^ d) × ((j : ℕ) → j ≤ c → e +ℤ pos (d + j) ≡ minus x (c - j))
  placed c x (pos k) h =
      let h' : n * 2 ^ (k + (52 + c)) ≡ m * 2 ^ x = ap (λ (y : ℕ). n * y) (pow-add 2 k (52 + c)) ∙ sym (mul_assoc n (2 ^ k) (2 ^ (52 + c))) ∙ h ∙ mul-one (m * 2 ^ x) in
      let l : d + (k + (52 + c)) ≡ 52 + x = level (k + (52 + c)) x h' in (
        cancel (k + c) (ap (λ (y : ℕ). n * 2 ^ y) (turn k c) ∙ h' ∙ ap (λ (y : ℕ). m * 2 ^ y) (top d k c x l)),
        λ j g. sym (difference x (c - j) (k + (d + j)) (apart d k c x j l g)),
      )
    where
      turn : (k c : ℕ) → 52 + (k + c) ≡ k + (52 + c)
      turn k c = omega arith

      top : (d k c x : ℕ) → d + (k + (52 + c)) ≡ 52 + x → x ≡ d + (k + c)
      top d k c x l = omega arith

      apart : (d k c x j : ℕ) → d + (k + (52 + c)) ≡ 52 + x → j ≤ c → x ≡ c - j + (k + (d + j))
      apart d k c x j l g = omega arith
  placed c x (negsuc k) h =
      let h' : n * 2 ^ (52 + c) ≡ m * 2 ^ (x + suc k) = ap (λ (y : ℕ). y * 2 ^ (52 + c)) (sym (mul-one n)) ∙ h ∙ mul_assoc m (2 ^ x) (2 ^ suc k) ∙ ap (λ (y : ℕ). m * y) (sym (pow-add 2 x (suc k))) in
      let l : d + (52 + c) ≡ 52 + (x + suc k) = level (52 + c) (x + suc k) h' in (
        cancel c (h' ∙ ap (λ (y : ℕ). m * 2 ^ y) (top d k c x l)),
        λ j g. sym (equal_differences x (c - j) (d + j) (suc k) (apart d k c x j l g)),
      )
    where
      top : (d k c x : ℕ) → d + (52 + c) ≡ 52 + (x + suc k) → x + suc k ≡ d + c
      top d k c x l = omega arith

      apart : (d k c x j : ℕ) → d + (52 + c) ≡ 52 + (x + suc k) → j ≤ c → x + suc k ≡ d + j + (c - j)
      apart d k c x j l g = omega arith

-- ---- m: the bits of the mantissa

-- m * 2 ^ k smallest values, m of 53 digits
mantissa_bits : (m k : ℕ) → 2 ^ 52 ≤ m → m < 2 ^ 53 → k < 2046 → HasValue (of_bits binary64 (m + k * 2 ^ 52)) false (m * 2 ^ k) (2 ^ 1074)
mantissa_bits m k lo hi h =
    let u = of_normal (m + k * 2 ^ 52) (omega arith) (omega arith) in
    subst (λ (v : Float). HasValue v false (m * 2 ^ k) (2 ^ 1074))
    (sym (u.value ∙ ap (λ (x : ℕ). odd 53 false x ((m + k * 2 ^ 52) / 2 ^ 52 - 1) 1074) (fraction m k lo hi) ∙ ap (λ (x : ℕ). odd 53 false m x 1074) (field m k lo hi)))
    (odd_sign 53 false m k 1074)
  where
    fraction : (m k : ℕ) → 2 ^ 52 ≤ m → m < 2 ^ 53 → (m + k * 2 ^ 52) % 2 ^ 52 + 2 ^ 52 ≡ m
    fraction m k lo hi = omega arith

    field : (m k : ℕ) → 2 ^ 52 ≤ m → m < 2 ^ 53 → (m + k * 2 ^ 52) / 2 ^ 52 - 1 ≡ k
    field m k lo hi = omega arith

-- n / 2 ^ s in smallest values
mantissa_value : (n m d s k l : ℕ) → n * 2 ^ 52 ≡ m * 2 ^ d → k + s ≡ l + d → HasValue (fin false n (minus 0 s)) false (m * 2 ^ k) (2 ^ (52 + l))
mantissa_value n m d s k l e h = (
  refl,
  ap (λ (x : ℕ). n * x * 2 ^ (52 + l)) (up_below s) ∙ ap (λ (x : ℕ). x * 2 ^ (52 + l)) (mul-one n) ∙ whole ∙ ap (λ (x : ℕ). m * 2 ^ k * x) (sym (down_below s)),
)
  where
    whole : n * 2 ^ (52 + l) ≡ m * 2 ^ k * 2 ^ s
    whole =
        ap (λ (x : ℕ). n * x) (pow-add 2 52 l)
        ∙ sym (mul_assoc n (2 ^ 52) (2 ^ l))
        ∙ ap (λ (x : ℕ). x * 2 ^ l) e
        ∙ mul_assoc m (2 ^ d) (2 ^ l)
        ∙ ap (λ (x : ℕ). m * x) (sym (pow-add 2 d l) ∙ ap (λ (x : ℕ). 2 ^ x) (turn d l k s h) ∙ pow-add 2 k s)
        ∙ sym (mul_assoc m (2 ^ k) (2 ^ s))
      where
        turn : (d l k s : ℕ) → k + s ≡ l + d → d + l ≡ k + s
        turn d l k s h = omega arith

-- the format holds n / 2 ^ s where it holds n * 2 ^ e
pub mantissa_fits : (n s : ℕ) (e : ℤ) → s ≤ 1074 → T (fits binary64 (fin false (suc n) e)) → (suc n < 2 ^ 53) × T (fits binary64 (fin false (suc n) (minus 0 s)))
unfolding fits
mantissa_fits n s e h t =
    let a : Bool = eqb (suc n % 2) 1 in
    let b : Bool = ltb (suc n) (2 ^ 53) in
    let held : T (a && b) = and_l (a && b) (leb (down e) (2 ^ 1074)) (and_l (a && b && leb (down e) (2 ^ 1074)) (ltb (suc n * up e) (2 ^ 1024 * down e)) t) in
    let small : suc n < 2 ^ 53 = ltb→lt (suc n) (2 ^ 53) (and_r a b held) in
    let fine : down (minus 0 s) ≤ 2 ^ 1074 = le_trans (le_of_eq (down_below s)) (pow_mono h) in
    let under : suc n * up (minus 0 s) < 2 ^ 1024 * down (minus 0 s) =
    lt_of_le_of_lt (le_of_eq (ap (λ (x : ℕ). suc n * x) (up_below s) ∙ mul-one (suc n)))
    (lt_of_lt_of_le small (le_trans (lit≤ tt) (le_trans (le_of_eq (sym (mul-one (2 ^ 1024)))) (mul-le-mul_left (2 ^ 1024) (down_pos (minus 0 s)))))) in (
      small,
      and_i (a && b && leb (down (minus 0 s)) (2 ^ 1074)) (ltb (suc n * up (minus 0 s)) (2 ^ 1024 * down (minus 0 s)))
          (and_i (a && b) (leb (down (minus 0 s)) (2 ^ 1074)) held (le→leb (down (minus 0 s)) (2 ^ 1074) fine))
          (lt→ltb (suc n * up (minus 0 s)) (2 ^ 1024 * down (minus 0 s)) under),
    )

-- ---- which power of two m is divided by

pub shift_low : (n : ℕ) → 2 * n < 3 * 2 ^ (size n - 1) → shift n ≡ size n - 1 + 0
unfolding shift
shift_low n h = ap (λ (t : Bool). cond t (size n - 1) (suc (size n - 1))) (is_true (ltb (2 * n) (3 * 2 ^ (size n - 1))) (lt→ltb (2 * n) (3 * 2 ^ (size n - 1)) h)) ∙ plain (size n - 1)
  where
    plain : (d : ℕ) → d ≡ d + 0
    plain d = omega arith

pub shift_high : (n : ℕ) → 3 * 2 ^ (size n - 1) ≤ 2 * n → shift n ≡ size n - 1 + 1
unfolding shift
shift_high n h = ap (λ (t : Bool). cond t (size n - 1) (suc (size n - 1))) (is_false (ltb (2 * n) (3 * 2 ^ (size n - 1))) (le→nltb (2 * n) (3 * 2 ^ (size n - 1)) h)) ∙ next (size n - 1)
  where
    next : (d : ℕ) → suc d ≡ d + 1
    next d = omega arith

below_half : (n m d : ℕ) → n * 2 ^ 52 ≡ m * 2 ^ d → m < 3 * 2 ^ 51 → 2 * n < 3 * 2 ^ d
below_half n m d e h = go (2 ^ d) (m * 2 ^ d) e (mul-lt-mul_of_pos_right h (pow_pos d))
  where
    go : (p q : ℕ) → n * 2 ^ 52 ≡ q → q < 3 * 2 ^ 51 * p → 2 * n < 3 * p
    go p q e h = omega arith

above_half : (n m d : ℕ) → n * 2 ^ 52 ≡ m * 2 ^ d → 3 * 2 ^ 51 ≤ m → 3 * 2 ^ d ≤ 2 * n
above_half n m d e h = go (2 ^ d) (m * 2 ^ d) e (mul-le-mul_right (2 ^ d) h)
  where
    go : (p q : ℕ) → n * 2 ^ 52 ≡ q → 3 * 2 ^ 51 * p ≤ q → 3 * p ≤ 2 * n
    go p q e h = omega arith

-- ---- ln by the digits m and the place x of a value that is m * 2 ^ x / 2 ^ 2148

-- of the parts that the definition takes
ln_parts : (n : ℕ) (e : ℤ) → ln (fin false (suc n) e) ≡ ln_of (of_int binary64 (e +ℤ pos (shift (suc n)))) (fin false (suc n) (minus 0 (shift (suc n))))
unfolding ln
ln_parts n e = refl

module _ (n m x : ℕ) (e : ℤ) (f : T (fits binary64 (fin false (suc n) e))) (full : 2 ^ 52 ≤ m) (short : m < 2 ^ 53) (h : suc n * up e * 2 ^ 2148 ≡ m * 2 ^ x * down e) where
  range : (2 ^ (size (suc n) - 1) ≤ suc n) × (suc n < 2 ^ suc (size (suc n) - 1))
  range = digits_of (suc n) (zero-lt-suc n)

  place : (suc n * 2 ^ 52 ≡ m * 2 ^ (size (suc n) - 1)) × ((j : ℕ) → j ≤ 2096 → e +ℤ pos (size (suc n) - 1 + j) ≡ minus x (2096 - j))
  place = placed (suc n) (size (suc n) - 1) m range.0 range.1 full short 2096 x e h

  few : size (suc n) - 1 ≤ 52
  few = le_of_suc-le-suc (lt_of_not-le (λ (g : 53 ≤ size (suc n) - 1). lt_irrefl (2 ^ 53) (lt_of_le_of_lt (le_trans (pow_mono g) range.0) (mantissa_fits n 0 e zero-le f).0)))

  at_shift : (j : ℕ) → j ≤ 1 → x < 3120 → shift (suc n) ≡ size (suc n) - 1 + j
      → ln (fin false (suc n) e) ≡ ln_of (sub64 (whole64 x) (whole64 (2096 - j))) (of_bits binary64 (m + (1022 - j) * 2 ^ 52))
  at_shift j g b s =
      let d = size (suc n) - 1 in
      ln_parts n e
      ∙ ap (λ (z : ℕ). ln_of (of_int binary64 (e +ℤ pos z)) (fin false (suc n) (minus 0 z))) s
      ∙ ap (λ (k : Float). ln_of k (fin false (suc n) (minus 0 (d + j)))) (ap (λ (z : ℤ). of_int binary64 z) (place.1 j (omega arith)) ∙ sym (whole_difference x (2096 - j) (omega arith) (omega arith)))
      ∙ ap (λ (v : Float). ln_of (sub64 (whole64 x) (whole64 (2096 - j))) v)
      (value_unique binary64 (fin false (suc n) (minus 0 (d + j))) (of_bits binary64 (m + (1022 - j) * 2 ^ 52)) (m * 2 ^ (1022 - j))
      (mantissa_fits n (d + j) e (inside d j g few) f).1
      (of_bits-fits binary64 (m + (1022 - j) * 2 ^ 52))
      (mantissa_value (suc n) m d (d + j) (1022 - j) 1022 place.0 (turn d j g))
      (mantissa_bits m (1022 - j) full short (omega arith)))
    where
      turn : (d j : ℕ) → j ≤ 1 → 1022 - j + (d + j) ≡ 1022 + d
      turn d j g = omega arith

      inside : (d j : ℕ) → j ≤ 1 → d ≤ 52 → d + j ≤ 1074
      inside d j g h = omega arith

  at_low : m < 3 * 2 ^ 51 → x < 3120 → ln (fin false (suc n) e) ≡ ln_of (sub64 (whole64 x) (whole64 2096)) (of_bits binary64 (m + 1022 * 2 ^ 52))
  at_low l b = at_shift 0 zero-le b (shift_low (suc n) (below_half (suc n) m (size (suc n) - 1) place.0 l))

  at_high : 3 * 2 ^ 51 ≤ m → x < 3120 → ln (fin false (suc n) e) ≡ ln_of (sub64 (whole64 x) (whole64 2095)) (of_bits binary64 (m + 1021 * 2 ^ 52))
  at_high l b = at_shift 1 (omega arith) b (shift_high (suc n) (above_half (suc n) m (size (suc n) - 1) place.0 l))

-- ---- the steps of the code together

places_low : of_bits binary64 0x40a0_6000_0000_0000 ≡ whole64 2096
unfolding of_bits of_int
places_low = refl

places_high : of_bits binary64 0x40a0_5e00_0000_0000 ≡ whole64 2095
unfolding of_bits of_int
places_high = refl

-- What `unpack` and `normalize` make of the bits b.
module _ (b m e m' x : ℕ) (u : Unpacked b m e) (l : Normal m e m' x) where
  Low : Float → Type 0
  Low v = m' < 3 * 2 ^ 51 → ln v ≡ ln_of (sub64 (whole64 x) (whole64 2096)) (of_bits binary64 (m' + 1022 * 2 ^ 52))

  High : Float → Type 0
  High v = 3 * 2 ^ 51 ≤ m' → ln v ≡ ln_of (sub64 (whole64 x) (whole64 2095)) (of_bits binary64 (m' + 1021 * 2 ^ 52))

  both : (v : Float) → T (fits binary64 v) → HasValue v false (m * 2 ^ e) (2 ^ 1074) → Low v × High v
  unfolding Low High
  both nan f h = absurd h
  both (inf s) f h = absurd h
  both (fin true n k) f h = absurd (true≢false h.0)
  both (fin false zero k) f h =
      absurd (lt_irrefl 0 (subst (λ (z : ℕ). 0 < z) (sym h.1 ∙ ap (λ (z : ℕ). z * 2 ^ 1074) (zero-mul (up k)) ∙ zero-mul (2 ^ 1074)) (mul-pos (mul-pos u.some (pow_pos e)) (down_pos k))))
  both (fin false (suc n) k) f h =
      let g : suc n * up k * 2 ^ 2148 ≡ m' * 2 ^ x * down k =
      ap (λ (z : ℕ). suc n * up k * z) (pow-add 2 1074 1074)
      ∙ sym (mul_assoc (suc n * up k) (2 ^ 1074) (2 ^ 1074))
      ∙ ap (λ (z : ℕ). z * 2 ^ 1074) h.1
      ∙ mul_right_comm (m * 2 ^ e) (down k) (2 ^ 1074)
      ∙ ap (λ (z : ℕ). z * down k) (sym l.same) in (
        λ t. at_low n m' x k f l.full l.short g t l.under,
        λ t. at_high n m' x k f l.full l.short g t l.under,
      )

  value : Low (of_bits binary64 b) × High (of_bits binary64 b)
  value = both (of_bits binary64 b) (of_bits-fits binary64 b) (subst (λ (v : Float). HasValue v false (m * 2 ^ e) (2 ^ 1074)) (sym u.value) (odd_sign 53 false m e 1074))

  -- with the literals of the code
  pub ln_low : m' < 0x18_0000_0000_0000 → ln_of (sub64 (whole64 x) (of_bits binary64 0x40a0_6000_0000_0000)) (of_bits binary64 (m' + 0x3fe0_0000_0000_0000)) ≡ ln (of_bits binary64 b)
  unfolding Low
  ln_low h = ap (λ (z : Float). ln_of (sub64 (whole64 x) z) (of_bits binary64 (m' + 0x3fe0_0000_0000_0000))) places_low ∙ sym (value.0 h)

  pub ln_high : 0x18_0000_0000_0000 ≤ m' → ln_of (sub64 (whole64 x) (of_bits binary64 0x40a0_5e00_0000_0000)) (of_bits binary64 (m' + 0x3fd0_0000_0000_0000)) ≡ ln (of_bits binary64 b)
  unfolding High
  ln_high h = ap (λ (z : Float). ln_of (sub64 (whole64 x) z) (of_bits binary64 (m' + 0x3fd0_0000_0000_0000))) places_high ∙ sym (value.1 h)

-- The definitions by which the reciprocals of the code are those of the series.
unfoldable pub reciprocals : Unit {0}
unfolding series of_bits of_int div
reciprocals = tt
