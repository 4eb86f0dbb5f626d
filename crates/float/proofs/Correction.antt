-- The root from a number at or below it: the square in two parts (`parts`), q steps at once (`steps`), and where to stop (`ends`).
use mathlib.Core.Path.{◌≡◌, refl, ap, ◌∙◌}
use mathlib.Core.Bool.{Bool, true, false}
use Prim.Native.Nat.{ℕ, ◌+◌, ◌-◌, ◌*◌, ◌/◌, ◌%◌, ◌^◌, ◌≤◌, ◌<◌}
use native.Mathlib.Nat.{mul-le-mul, div-add-mod', mod-lt}
use native.Mathlib.Omega.{arith}
use lib.Dec.{ltb}
use borrow.Author.Tests.{ltb-true, ltb-false}
use Rattle.float.specs.Steps.{Rooted, Squared}

-- two halves of 27 digits
pub parts : (a b c low : ℕ) → c ≡ a * b → low ≡ c % 67108864 * 268435456 + b * b
    → (a * a + c / 67108864 + low / 18014398509481984) * 18014398509481984 + low % 18014398509481984 ≡ (a * 134217728 + b) * (a * 134217728 + b)
parts a b c low e f = omega arith

pub halves : (r : ℕ) → r / 134217728 * 134217728 + r % 134217728 ≡ r
halves r = omega arith

pub squared : (r : ℕ) → let a = r / 134217728 in let b = r % 134217728 in let c = a * b in let low = c % 67108864 * 268435456 + b * b in
    Squared r (a * a + c / 67108864 + low / 18014398509481984) (low % 18014398509481984)
squared r = record { same = parts (r / 134217728) (r % 134217728) _ _ refl refl ∙ ap (λ (x : ℕ). x * x) (halves r); low = omega arith }

-- a root of a number below 2 ^ 108 is short
pub short : (m r d : ℕ) → m < 2 ^ 54 → r * r + d ≡ m * 2 ^ 54 → r < 2 ^ 54
short m r d small e = by (ltb r (2 ^ 54)) refl
  where
    big : 2 ^ 54 ≤ r → ⊥
    big h = omega (arith, mul-le-mul h h)

    by : (t : Bool) → ltb r (2 ^ 54) ≡ t → r < 2 ^ 54
    by true p = ltb-true r (2 ^ 54) p
    by false p = absurd (big (ltb-false r (2 ^ 54) p))

pub ends : (m r d : ℕ) → m < 2 ^ 54 → r * r + d ≡ m * 2 ^ 54 → d ≤ 2 * r → Rooted m r
ends m r d small e last = record { below = omega arith; above = omega arith; short = short m r d small e }

-- q steps at once
pub steps : (r d q p n : ℕ) → p + q ≡ 16 → q ≡ d / (2 * r + 16) → r * r + d ≡ n → (r + q) * (r + q) + (d % (2 * r + 16) + q * p) ≡ n
steps r d q p n e f h = over (d % (2 * r + 16)) (q * (2 * r + 16)) refl (ap (λ (x : ℕ). x * (2 * r + 16) + d % (2 * r + 16)) f ∙ div-add-mod' d (2 * r + 16)) (ap (λ (x : ℕ). q * x) e)
  where
    over : (a b : ℕ) → b ≡ q * (2 * r + 16) → b + a ≡ d → q * (p + q) ≡ q * 16 → (r + q) * (r + q) + (a + q * p) ≡ n
    over a b g k m = omega arith

pub step_small : (q : ℕ) → q ≤ 16 → q * (16 - q) ≤ 256
step_small q h = mul-le-mul {n₁ = q} {m₁ = 16 - q} {n₂ = 16} {m₂ = 16} h (under q)
  where
    under : (q : ℕ) → 16 - q ≤ 16
    under q = omega arith

pub step_left : (r d : ℕ) → d % (2 * r + 16) < 2 * r + 16
step_left r d = mod-lt d (some r)
  where
    some : (r : ℕ) → 0 < 2 * r + 16
    some r = omega arith
