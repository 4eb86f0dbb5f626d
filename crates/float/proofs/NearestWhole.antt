-- The nearest whole number of a fraction: equal fractions have the same one (`nearest_same`), it is the quotient or one more by twice the remainder (`nearest_down`, `nearest_up`),
-- 0 below a half (`nearest_zero`) and the number itself at a whole number (`nearest_own`); and how far it lies from the fraction (`nearest_under`, `nearest_over`);
-- it is at most every whole number that the fraction is (`nearest_at_most`). `shifted_down` and `shifted_up`: the same as the code has it.
use mathlib.Core.Path.{◌≡◌, sym, ap, ◌∙◌, subst}
use Prim.Native.Nat.{ℕ, zero, suc, ◌+◌, ◌-◌, ◌*◌, ◌/◌, ◌%◌, ◌^◌, ◌≤◌, ◌<◌}
use native.Mathlib.Nat.{lt_irrefl, lt-suc_self, le_of_suc-le-suc, mod-lt, div-add-mod', div-mul-le_self, div-lt_iff_lt-mul, div-eq_of_lt, one-mul}
use native.Mathlib.Omega.{arith}
use lib.Arith.{digits_div}
use lib.Pow.{pow_pos, shl_exact}
use lib.Ieee.Nearest.{div_same}
-- Named so that the examples are checked before these lemmas.
use Rattle.float.specs.Examples
use Rattle.float.specs.Round.{nearest_whole}

twice_pos : (c : ℕ) → 0 < c → 0 < 2 * c
twice_pos c p = omega arith

pub nearest_same : (a c b d : ℕ) → 0 < c → 0 < d → a * d ≡ b * c → nearest_whole a c ≡ nearest_whole b d
unfolding nearest_whole
nearest_same a c b d p q h = div_same (2 * a + c) (2 * c) (2 * b + d) (2 * d) (twice_pos c p) (twice_pos d q) (cross a c b d h)
  where
    cross : (a c b d : ℕ) → a * d ≡ b * c → (2 * a + c) * (2 * d) ≡ (2 * b + d) * (2 * c)
    cross a c b d h = omega arith

-- ---- by the quotient and the remainder

parts : (c q t : ℕ) → 0 < c → t < 2 * c → (2 * (q * c) + t) / (2 * c) ≡ q
parts c q t p h = ap (λ (x : ℕ). (x + t) / (2 * c)) (turn q c) ∙ digits_div q h
  where
    turn : (q c : ℕ) → 2 * (q * c) ≡ q * (2 * c)
    turn q c = omega arith

pub nearest_down : (a c : ℕ) → 0 < c → 2 * (a % c) < c → nearest_whole a c ≡ a / c
unfolding nearest_whole
nearest_down a c p h =
    ap (λ (x : ℕ). (2 * x + c) / (2 * c)) (sym (div-add-mod' a c)) ∙ ap (λ (x : ℕ). x / (2 * c)) (apart (a / c * c) (a % c) c) ∙ parts c (a / c) (2 * (a % c) + c) p (under (a % c) c h)
  where
    apart : (m r c : ℕ) → 2 * (m + r) + c ≡ 2 * m + (2 * r + c)
    apart m r c = omega arith

    under : (r c : ℕ) → 2 * r < c → 2 * r + c < 2 * c
    under r c h = omega arith

pub nearest_up : (a c : ℕ) → 0 < c → c ≤ 2 * (a % c) → nearest_whole a c ≡ a / c + 1
unfolding nearest_whole
nearest_up a c p h =
    ap (λ (x : ℕ). (2 * x + c) / (2 * c)) (sym (div-add-mod' a c)) ∙ ap (λ (x : ℕ). x / (2 * c)) (apart (a / c) (a % c) c h) ∙ parts c (a / c + 1) (2 * (a % c) - c) p (under (a % c) c (mod-lt a p))
  where
    apart : (q r c : ℕ) → c ≤ 2 * r → 2 * (q * c + r) + c ≡ 2 * ((q + 1) * c) + (2 * r - c)
    apart q r c h = omega arith

    under : (r c : ℕ) → r < c → 2 * r - c < 2 * c
    under r c h = omega arith

pub nearest_zero : (a c : ℕ) → 2 * a < c → nearest_whole a c ≡ 0
unfolding nearest_whole
nearest_zero a c h = div-eq_of_lt (under a c h)
  where
    under : (a c : ℕ) → 2 * a < c → 2 * a + c < 2 * c
    under a c h = omega arith

pub nearest_own : (n : ℕ) → nearest_whole n 1 ≡ n
unfolding nearest_whole
nearest_own n = omega arith

-- ---- n - 1/2 ≤ a / c < n + 1/2

pub nearest_under : (a c : ℕ) → 2 * nearest_whole a c * c ≤ 2 * a + c
unfolding nearest_whole
nearest_under a c = subst (λ (x : ℕ). x ≤ 2 * a + c) (turn ((2 * a + c) / (2 * c)) c) (div-mul-le_self (2 * a + c) (2 * c))
  where
    turn : (q c : ℕ) → q * (2 * c) ≡ 2 * q * c
    turn q c = omega arith

pub nearest_over : (a c : ℕ) → 0 < c → 2 * a + c < 2 * nearest_whole a c * c + 2 * c
unfolding nearest_whole
nearest_over a c p =
    subst (λ (x : ℕ). 2 * a + c < x) (turn ((2 * a + c) / (2 * c)) c) ((div-lt_iff_lt-mul (twice_pos c p)).0 (lt-suc_self ((2 * a + c) / (2 * c))))
  where
    turn : (q c : ℕ) → suc q * (2 * c) ≡ 2 * q * c + 2 * c
    turn q c = omega arith

pub nearest_at_most : (a c k : ℕ) → 0 < c → a ≤ k * c → nearest_whole a c ≤ k
unfolding nearest_whole
nearest_at_most a c k p h = le_of_suc-le-suc ((div-lt_iff_lt-mul {k = 2 * c} (twice_pos c p)).1 (let z : 2 * a + c < suc k * (2 * c) = omega arith in z))

-- so it is at most one above the numerator
pub nearest_most : (a c : ℕ) → 0 < c → nearest_whole a c ≤ a + 1
unfolding nearest_whole
nearest_most a c p = below ((2 * a + c) / (2 * c)) ((div-lt_iff_lt-mul (twice_pos c p)).1 (wide a c p))
  where
    wide : (a c : ℕ) → 0 < c → 2 * a + c < (a + 2) * (2 * c)
    wide a zero p = absurd (lt_irrefl 0 p)
    wide a (suc d) p = omega arith

    below : (n : ℕ) → n < a + 2 → n ≤ a + 1
    below n h = omega arith

-- ---- the divisor 2 ^ k as the code has it

divisor : (k : ℕ) → k < 64 → 1 * 2 ^ k % 2 ^ 64 ≡ 2 ^ k
divisor k h = shl_exact 1 k 64 (omega arith) (omega arith) ∙ one-mul (2 ^ k)

some : (k : ℕ) → k < 64 → 0 < 1 * 2 ^ k % 2 ^ 64
some k h = subst (λ (d : ℕ). 0 < d) (sym (divisor k h)) (pow_pos k)

pub shifted_some : (k : ℕ) → k < 64 → (1 * 2 ^ k % 2 ^ 64 ≡ 0) → ⊥
shifted_some k h e = lt_irrefl 0 (subst (λ (d : ℕ). 0 < d) e (some k h))

pub shifted_down : (m k : ℕ) → k < 64 → 2 * (m % (1 * 2 ^ k % 2 ^ 64)) < 1 * 2 ^ k % 2 ^ 64 → m / (1 * 2 ^ k % 2 ^ 64) ≡ nearest_whole m (2 ^ k)
shifted_down m k h l = sym (nearest_down m (1 * 2 ^ k % 2 ^ 64) (some k h) l) ∙ ap (nearest_whole m) (divisor k h)

pub shifted_up : (m k : ℕ) → k < 64 → 1 * 2 ^ k % 2 ^ 64 ≤ 2 * (m % (1 * 2 ^ k % 2 ^ 64)) → m / (1 * 2 ^ k % 2 ^ 64) + 1 ≡ nearest_whole m (2 ^ k)
shifted_up m k h l = sym (nearest_up m (1 * 2 ^ k % 2 ^ 64) (some k h) l) ∙ ap (nearest_whole m) (divisor k h)
