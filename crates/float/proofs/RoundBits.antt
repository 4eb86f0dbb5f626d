-- `round_ties_away` by the bits of a value: from 2^52 on it is its own (`large`), below 1/2 it gives 0 (`tiny`), and between them the nearest whole number of m / 2^k, with m and k
-- from its fields (`between`). The pattern with the sign is the negative of the one without (`signed_bits`).
use mathlib.Core.Path.{◌≡◌, refl, sym, ap, ◌∙◌, subst}
use mathlib.Core.Logic.{◌⊎◌, inl, inr}
use Prim.Native.Nat.{ℕ, zero, suc, ◌+◌, ◌-◌, ◌*◌, ◌/◌, ◌%◌, ◌^◌, ◌≤◌, ◌<◌}
use native.Mathlib.Nat.{eq-or-lt_of_le, eq-zero-or-pos, lt_of_lt_of_le, le_trans, mul_assoc, mul-one, mul_right_comm, eq_of_mul-eq-mul_right, pow-succ'}
use native.Mathlib.Omega.{arith}
use native.Mathlib.Decide.{dec_lt}
use mathlib.Core.Bool.{Bool, true, false, cond}
use lib.Dec.{T, leb, eqb, le→leb}
use lib.Arith.{lt→nleb}
use lib.Pow.{pow-add, pow_pos, pow_mono, shl_lt}
use lib.Ieee.{Float, nan, inf, fin, binary64, up, down, odd, round, neg, fits, is_nan, to_bits, of_fields, of_bits, of_int}
use lib.Ieee.Bits.{is_true, is_false, of_bits-fits, of_bits-to_bits}
use lib.Ieee.Exact.{HasValue, odd_sign}
use Rattle.float.specs.Binary64.{whole64}
use Rattle.float.specs.Round.{nearest_whole, round_ties_away}
use Rattle.float.specs.Steps.{Unpacked}
use Rattle.float.proofs.Special.{of_bits_lem, at_nan, not_nan, in_range}
use Rattle.float.specs.Examples.{round_nan}
use Rattle.float.proofs.Exact.{whole_round}
use Rattle.float.proofs.Unpacking.{of_subnormal, of_normal}
use Rattle.float.proofs.NearestWhole.{nearest_same, nearest_zero, nearest_most}
use Rattle.float.proofs.RoundLaws.{odd_not, rounded_neg, rounded_value, rounded_own}

-- ---- the sign

fields_not : (x t : ℕ) → of_fields binary64 true x t ≡ neg (of_fields binary64 false x t)
unfolding of_fields neg
fields_not zero t = odd_not 53 false t 0 1074
fields_not (suc x) t = go (eqb (suc x) 2047) (eqb t 0)
  where
    go : (b c : Bool) → cond b (cond c (inf true) nan) (odd 53 true (2 ^ 52 + t) x 1074) ≡ neg (cond b (cond c (inf false) nan) (odd 53 false (2 ^ 52 + t) x 1074))
    go true true = refl
    go true false = refl
    go false c = odd_not 53 false (2 ^ 52 + t) x 1074

pub signed_bits : (b : ℕ) → 2 ^ 63 ≤ b → of_bits binary64 b ≡ neg (of_bits binary64 (b % 2 ^ 63))
unfolding of_bits
signed_bits b h =
    ap (λ (s : Bool). of_fields binary64 s (b % 2 ^ 63 / 2 ^ 52) (b % 2 ^ 52)) (is_true (leb (2 ^ 63) b) (le→leb (2 ^ 63) b h))
    ∙ fields_not (b % 2 ^ 63 / 2 ^ 52) (b % 2 ^ 52)
    ∙ ap neg (sym (ap (λ (s : Bool). of_fields binary64 s (b % 2 ^ 63 % 2 ^ 63 / 2 ^ 52) (b % 2 ^ 63 % 2 ^ 52)) (is_false (leb (2 ^ 63) (b % 2 ^ 63)) (lt→nleb (2 ^ 63) (b % 2 ^ 63) (under b)))
    ∙ ap (λ (x : ℕ). of_fields binary64 false x (b % 2 ^ 63 % 2 ^ 52)) (again b)
    ∙ ap (λ (x : ℕ). of_fields binary64 false (b % 2 ^ 63 / 2 ^ 52) x) (shorter b)))
  where
    under : (b : ℕ) → b % 2 ^ 63 < 2 ^ 63
    under b = omega arith

    again : (b : ℕ) → b % 2 ^ 63 % 2 ^ 63 / 2 ^ 52 ≡ b % 2 ^ 63 / 2 ^ 52
    again b = omega arith

    shorter : (b : ℕ) → b % 2 ^ 63 % 2 ^ 52 ≡ b % 2 ^ 52
    shorter b = omega arith

-- a value whose bits are not those of its size
pub negative : (x : Float) → T (fits binary64 x) → (to_bits binary64 x ≡ to_bits binary64 x % 2 ^ 63 → ⊥) → x ≡ neg (of_bits binary64 (to_bits binary64 x % 2 ^ 63))
negative x f h = sym (of_bits-to_bits binary64 x f) ∙ signed_bits (to_bits binary64 x) (over (to_bits binary64 x) h)
  where
    over : (b : ℕ) → (b ≡ b % 2 ^ 63 → ⊥) → 2 ^ 63 ≤ b
    over b h = omega arith

-- ---- the value

-- m * 2 ^ e smallest values
value_of : (b m e : ℕ) → Unpacked b m e → HasValue (of_bits binary64 b) false (m * 2 ^ e) (2 ^ 1074)
value_of b m e u = subst (λ (x : Float). HasValue x false (m * 2 ^ e) (2 ^ 1074)) (sym u.value) (odd_sign 53 false m e 1074)

power : (m e k l : ℕ) → e + k ≡ l → m * 2 ^ e * 2 ^ k ≡ m * 2 ^ l
power m e k l h = mul_assoc m (2 ^ e) (2 ^ k) ∙ ap (λ (x : ℕ). m * x) (sym (pow-add 2 e k) ∙ ap (λ (x : ℕ). 2 ^ x) h)

rounded_of : (b m e : ℕ) → Unpacked b m e → (a c : ℕ) → 0 < c → m * 2 ^ e * c ≡ a * 2 ^ 1074 → whole64 (nearest_whole a c) ≡ round_ties_away (of_bits binary64 b)
rounded_of b m e u a c p h =
    whole_round (nearest_whole a c)
    ∙ ap (λ (n : ℕ). round binary64 false n 1) (sym (nearest_same (m * 2 ^ e) (2 ^ 1074) a c (pow_pos 1074) p h))
    ∙ sym (rounded_value (of_bits binary64 b) false (m * 2 ^ e) (2 ^ 1074) (pow_pos 1074) (value_of b m e u))

-- k of the digits of m lie behind the point
pub between : (b m e : ℕ) → Unpacked b m e → e ≤ 1074 → whole64 (nearest_whole m (2 ^ (1074 - e))) ≡ round_ties_away (of_bits binary64 b)
between b m e u h = rounded_of b m e u m (2 ^ (1074 - e)) (pow_pos (1074 - e)) (power m e (1074 - e) 1074 (join e h))
  where
    join : (e : ℕ) → e ≤ 1074 → e + (1074 - e) ≡ 1074
    join e h = omega arith

-- ---- below 1/2

tiny_of : (b m e : ℕ) → Unpacked b m e → b < 0x3fe0_0000_0000_0000 → whole64 0 ≡ round_ties_away (of_bits binary64 b)
tiny_of b m e u h =
    ap whole64 (sym (nearest_zero (m * 2 ^ e) (2 ^ 1074) (subst (λ (x : ℕ). 2 * (m * 2 ^ e) < x) (sym (pow-succ' 2 1073)) (twice (m * 2 ^ e) (2 ^ 1073) (lt_of_lt_of_le (shl_lt 53 e u.short) (pow_mono (low_place b e u.field h)))))))
    ∙ rounded_of b m e u (m * 2 ^ e) (2 ^ 1074) (pow_pos 1074) refl
  where
    low_place : (b e : ℕ) → e ≡ b / 2 ^ 52 - 1 → b < 0x3fe0_0000_0000_0000 → 53 + e ≤ 1073
    low_place b e f h = omega arith

    twice : (a c : ℕ) → a < c → 2 * a < 2 * c
    twice a c h = omega arith

zero_own : whole64 0 ≡ round_ties_away (of_bits binary64 0)
unfolding round_ties_away of_int of_bits
zero_own = refl

pub tiny : (b : ℕ) → b < 0x3fe0_0000_0000_0000 → whole64 0 ≡ round_ties_away (of_bits binary64 b)
tiny b h = go (eq-zero-or-pos b) (dec_lt b (2 ^ 52))
  where
    go : (b ≡ 0) ⊎ (0 < b) → Dec (b < 2 ^ 52) → whole64 0 ≡ round_ties_away (of_bits binary64 b)
    go (inl z) d = subst (λ (n : ℕ). whole64 0 ≡ round_ties_away (of_bits binary64 n)) (sym z) zero_own
    go (inr p) (yes l) = tiny_of b b 0 (of_subnormal b p l) h
    go (inr p) (no l) = tiny_of b (b % 2 ^ 52 + 2 ^ 52) (b / 2 ^ 52 - 1) (of_normal b (omega arith) (omega arith)) h

-- ---- from 2^52 on

whole_of : (x : Float) (m e : ℕ) → 1074 ≤ e → HasValue x false (m * 2 ^ e) (2 ^ 1074) → HasValue x false (m * 2 ^ (e - 1074)) 1
whole_of nan m e h v = v
whole_of (inf s) m e h v = v
whole_of (fin s n d) m e h v = (
  v.0,
  eq_of_mul-eq-mul_right (2 ^ 1074) (pow_pos 1074) (n * up d * 1) (m * 2 ^ (e - 1074) * down d)
      (ap (λ (x : ℕ). x * 2 ^ 1074) (mul-one (n * up d))
      ∙ v.1
      ∙ ap (λ (x : ℕ). x * down d) (sym (power m (e - 1074) 1074 e (join e h)))
      ∙ mul_right_comm (m * 2 ^ (e - 1074)) (2 ^ 1074) (down d)),
)
  where
    join : (e : ℕ) → 1074 ≤ e → e - 1074 + 1074 ≡ e
    join e h = omega arith

infinity_own : of_bits binary64 0x7ff0_0000_0000_0000 ≡ round_ties_away (of_bits binary64 0x7ff0_0000_0000_0000)
unfolding round_ties_away of_bits
infinity_own = refl

pub large : (b : ℕ) → 0x4330_0000_0000_0000 ≤ b → b ≤ 0x7ff0_0000_0000_0000 → of_bits binary64 b ≡ round_ties_away (of_bits binary64 b)
large b l h = go (eq-or-lt_of_le h)
  where
    go : (b ≡ 0x7ff0_0000_0000_0000) ⊎ (b < 0x7ff0_0000_0000_0000) → of_bits binary64 b ≡ round_ties_away (of_bits binary64 b)
    go (inl i) = subst (λ (n : ℕ). of_bits binary64 n ≡ round_ties_away (of_bits binary64 n)) (sym i) infinity_own
    go (inr k) =
        let m = b % 2 ^ 52 + 2 ^ 52 in
        let e = b / 2 ^ 52 - 1 in
        sym (rounded_own (of_bits binary64 b) false (m * 2 ^ (e - 1074)) (of_bits-fits binary64 b) (whole_of (of_bits binary64 b) m e (omega arith) (value_of b m e (of_normal b (omega arith) k))))

-- with either sign
pub stays : (x : Float) → T (fits binary64 x) → 0x4330_0000_0000_0000 ≤ to_bits binary64 x % 2 ^ 63 → to_bits binary64 x % 2 ^ 63 ≤ 0x7ff0_0000_0000_0000 → x ≡ round_ties_away x
stays x f l h = go (dec_lt (to_bits binary64 x) (2 ^ 63))
  where
    y : Float
    y = of_bits binary64 (to_bits binary64 x % 2 ^ 63)

    unsigned : (b : ℕ) → b < 2 ^ 63 → b ≡ b % 2 ^ 63
    unsigned b k = omega arith

    signed : (b : ℕ) → (b < 2 ^ 63 → ⊥) → b ≡ b % 2 ^ 63 → ⊥
    signed b k e = omega arith

    go : Dec (to_bits binary64 x < 2 ^ 63) → x ≡ round_ties_away x
    go (yes k) = let e : y ≡ x = of_bits_lem x (to_bits binary64 x % 2 ^ 63) f (unsigned (to_bits binary64 x) k) in sym e ∙ large (to_bits binary64 x % 2 ^ 63) l h ∙ ap round_ties_away e
    go (no k) =
        let e : x ≡ neg y = negative x f (signed (to_bits binary64 x) k) in
        e ∙ ap neg (large (to_bits binary64 x % 2 ^ 63) l h) ∙ sym (rounded_neg y) ∙ ap round_ties_away (sym e)

-- ---- the same in the words of the code

pub quotient_small : (b m e : ℕ) → Unpacked b m e → nearest_whole m (2 ^ (1074 - e)) ≤ 2 ^ 53
quotient_small b m e u = le_trans (nearest_most m (2 ^ (1074 - e)) (pow_pos (1074 - e))) (next m u.short)
  where
    next : (m : ℕ) → m < 2 ^ 53 → m + 1 ≤ 2 ^ 53
    next m h = omega arith

pub quotient_rounds : (b m e : ℕ) → Unpacked b m e → b < 0x4330_0000_0000_0000 → whole64 (nearest_whole m (2 ^ (1074 - e))) ≡ round_ties_away (of_bits binary64 b)
quotient_rounds b m e u h = between b m e u (place b e u.field h)
  where
    place : (b e : ℕ) → e ≡ b / 2 ^ 52 - 1 → b < 0x4330_0000_0000_0000 → e ≤ 1074
    place b e f h = omega arith

pub nan_rounds : (x : Float) → is_nan x ≡ true → x ≡ round_ties_away x
nan_rounds x h = at_nan round_ties_away round_nan x h

-- f says that the format holds x
module _ (x : Float) (f : fits binary64 x ≡ true) where
  held : T (fits binary64 x)
  held = subst T (sym f) tt

  pub whole_stays : is_nan x ≡ false → 0x4330_0000_0000_0000 ≤ to_bits binary64 x % 0x8000_0000_0000_0000 → x ≡ round_ties_away x
  whole_stays k l = stays x held l (in_range x held (not_nan x k))

  module _ (v : Float) (h : v ≡ round_ties_away (of_bits binary64 (to_bits binary64 x % 0x8000_0000_0000_0000))) where
    pub positive_rounds : to_bits binary64 x ≡ to_bits binary64 x % 0x8000_0000_0000_0000 → v ≡ round_ties_away x
    positive_rounds e = h ∙ ap round_ties_away (of_bits_lem x _ held e)

    pub negative_rounds : (to_bits binary64 x ≡ to_bits binary64 x % 0x8000_0000_0000_0000 → ⊥) → neg v ≡ round_ties_away x
    negative_rounds e = ap neg h ∙ sym (rounded_neg (of_bits binary64 (to_bits binary64 x % 0x8000_0000_0000_0000))) ∙ ap round_ties_away (sym (negative x held e))
