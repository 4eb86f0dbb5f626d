-- The order of floats. `lt` is a strict weak order: nothing is below itself (`lt_irrefl`), `lt_asym`, `lt_trans`, and a number y that is not NaN is not beside both of two
-- that are in order (`lt_weak`). `le` is a total preorder off NaN: `le_refl`, `le_trans`, `le_total`; there it is the negation of `lt` the other way round (`le_is`).
-- Both are false where NaN stands (`lt_numbers`, `le_numbers`). Nothing here is about a format.
use mathlib.Core.Path.{◌≡◌, refl, sym, ap, ap₂, ◌∙◌, subst}
use mathlib.Core.Logic.{◌⊎◌, inl, inr}
use Prim.Native.Nat.{ℕ, zero, suc, ◌+◌, ◌*◌, ◌≤◌, ◌<◌}
use native.Mathlib.Nat.{zero-lt-suc, mul-pos, mul-le-mul_right, mul-lt-mul_of_pos_right, not-le_of_lt, zero-mul}
use native.Mathlib.Decide.{dec_lt}
use native.Mathlib.Omega.{arith}
use mathlib.Core.Bool.{Bool, true, false, not, ◌&&◌, ◌||◌, true≢false, false≢true}
use lib.Dec.{T, ltb, eqb, ltb→lt, lt→ltb, nltb→le, eqb→eq}
use lib.Arith.{le→nltb}
use lib.Ieee.{Float, nan, inf, fin, up, down, below, level, lt, eq, le, is_nan}
use lib.Ieee.Fits.{down_pos, eq→eqb, and_i, and_l, and_r}
use lib.Ieee.Bits.{is_true}
use Rattle.float.specs.Binary64.{finite}

-- ---- truth values

pub true→T : {b : Bool} → b ≡ true → T b
true→T e = subst T (sym e) tt

pub same_truth : (p q : Bool) → (T p → T q) → (T q → T p) → p ≡ q
same_truth true true f g = refl
same_truth true false f g = absurd (f tt)
same_truth false true f g = absurd (g tt)
same_truth false false f g = refl

is_lt : (a b : ℕ) → ltb a b ≡ true → a < b
is_lt a b e = ltb→lt a b (true→T e)

lt_is : (a b : ℕ) → a < b → ltb a b ≡ true
lt_is a b h = is_true (ltb a b) (lt→ltb a b h)

ge_not : (a b : ℕ) → b ≤ a → ltb a b ≡ false
ge_not a b h = go (ltb a b) refl
  where
    go : (c : Bool) → ltb a b ≡ c → c ≡ false
    go true e = absurd (not-le_of_lt (is_lt a b e) h)
    go false e = refl

-- ---- x / p, y / q, z / r
cancel : (a b c : ℕ) → 0 < c → a * c < b * c → a < b
cancel a b c p h = go (dec_lt a b)
  where
    go : Dec (a < b) → a < b
    go (yes q) = q
    go (no q) = absurd (not-le_of_lt h (mul-le-mul_right c (omega arith)))

through : (X p Y q Z r : ℕ) → 0 < p → 0 < q → 0 < r → X * q < Y * p → Y * r < Z * q → X * r < Z * p
through X p Y q Z r P Q R h k =
    cancel (X * r) (Z * p) q Q
    (let a : X * q * r < Y * p * r = mul-lt-mul_of_pos_right h R in let b : Y * r * p < Z * q * p = mul-lt-mul_of_pos_right k P in omega arith)

-- if x < z then y < z unless x < y
weak : (X p Y q Z r : ℕ) → 0 < p → 0 < q → 0 < r → X * r < Z * p → Y * p ≤ X * q → Y * r < Z * q
weak X p Y q Z r P Q R h k =
    cancel (Y * r) (Z * q) p P
    (let a : X * r * q < Z * p * q = mul-lt-mul_of_pos_right h Q in let b : Y * p * r ≤ X * q * r = mul-le-mul_right r k in omega arith)

pos_l : (a b : ℕ) → 0 < a * b → 0 < a
pos_l zero b h = absurd (omega arith)
pos_l (suc a) b h = zero-lt-suc a

-- ---- with signs
module _ (X p Y q Z r : ℕ) (P : 0 < p) (Q : 0 < q) (R : 0 < r) where
  below_trans : (s t w : Bool) → below s (X * q) t (Y * p) ≡ true → below t (Y * r) w (Z * q) ≡ true → below s (X * r) w (Z * p) ≡ true
  below_trans false false false h k = lt_is (X * r) (Z * p) (through X p Y q Z r P Q R (is_lt (X * q) (Y * p) h) (is_lt (Y * r) (Z * q) k))
  below_trans false false true h k = absurd (false≢true k)
  below_trans false true w h k = absurd (false≢true h)
  below_trans true false false h k =
      lt_is 0 (X * r + Z * p) (let a = is_lt (Y * r) (Z * q) k in let b : 0 < Z * p = mul-pos (pos_l Z q (omega arith)) P in omega arith)
  below_trans true false true h k = absurd (false≢true k)
  below_trans true true false h k =
      lt_is 0 (X * r + Z * p) (let a = is_lt (Y * p) (X * q) h in let b : 0 < X * r = mul-pos (pos_l X q (omega arith)) R in omega arith)
  below_trans true true true h k = lt_is (Z * p) (X * r) (through Z r Y q X p R Q P (is_lt (Z * q) (Y * r) k) (is_lt (Y * p) (X * q) h))

  below_weak : (s t w : Bool) → below s (X * r) w (Z * p) ≡ true → (below s (X * q) t (Y * p) ≡ true) ⊎ (below t (Y * r) w (Z * q) ≡ true)
  below_weak false false false h = go (dec_lt (X * q) (Y * p))
    where
      go : Dec (X * q < Y * p) → (ltb (X * q) (Y * p) ≡ true) ⊎ (ltb (Y * r) (Z * q) ≡ true)
      go (yes a) = inl (lt_is (X * q) (Y * p) a)
      go (no a) = inr (lt_is (Y * r) (Z * q) (weak X p Y q Z r P Q R (is_lt (X * r) (Z * p) h) (omega arith)))
  below_weak false true false h = inr (lt_is 0 (Y * r + Z * q) (let a = is_lt (X * r) (Z * p) h in let b : 0 < Z * q = mul-pos (pos_l Z p (omega arith)) Q in omega arith))
  below_weak false t true h = absurd (false≢true h)
  below_weak true false false h = go (dec_lt 0 X) (dec_lt 0 Y)
    where
      go : Dec (0 < X) → Dec (0 < Y) → (ltb 0 (X * q + Y * p) ≡ true) ⊎ (ltb (Y * r) (Z * q) ≡ true)
      go (yes a) b = inl (lt_is 0 (X * q + Y * p) (let c = mul-pos a Q in omega arith))
      go (no a) (yes b) = inl (lt_is 0 (X * q + Y * p) (let c = mul-pos b P in omega arith))
      go (no a) (no b) =
          let x0 : X ≡ 0 = omega arith in
          let y0 : Y ≡ 0 = omega arith in
          let x1 : X * r ≡ 0 = ap (λ (z : ℕ). z * r) x0 ∙ zero-mul r in
          let y1 : Y * r ≡ 0 = ap (λ (z : ℕ). z * r) y0 ∙ zero-mul r in
          let hh = is_lt 0 (X * r + Z * p) h in
          let zz : 0 < Z * q = mul-pos (pos_l Z p (omega arith)) Q in
          inr (lt_is (Y * r) (Z * q) (omega arith))
  below_weak true true false h = go (dec_lt 0 Y) (dec_lt 0 X)
    where
      go : Dec (0 < Y) → Dec (0 < X) → (ltb (Y * p) (X * q) ≡ true) ⊎ (ltb 0 (Y * r + Z * q) ≡ true)
      go (yes a) b = inr (lt_is 0 (Y * r + Z * q) (let c = mul-pos a R in omega arith))
      go (no a) (yes b) =
          let y0 : Y ≡ 0 = omega arith in
          let y1 : Y * p ≡ 0 = ap (λ (z : ℕ). z * p) y0 ∙ zero-mul p in
          let c = mul-pos b Q in
          inl (lt_is (Y * p) (X * q) (omega arith))
      go (no a) (no b) =
          let x0 : X ≡ 0 = omega arith in
          let x1 : X * r ≡ 0 = ap (λ (z : ℕ). z * r) x0 ∙ zero-mul r in
          let hh = is_lt 0 (X * r + Z * p) h in
          let zz : 0 < Z * q = mul-pos (pos_l Z p (omega arith)) Q in
          inr (lt_is 0 (Y * r + Z * q) (omega arith))
  below_weak true false true h = inl (lt_is 0 (X * q + Y * p) (let a = is_lt (Z * p) (X * r) h in let b : 0 < X * q = mul-pos (pos_l X r (omega arith)) Q in omega arith))
  below_weak true true true h = go (dec_lt (Y * p) (X * q))
    where
      go : Dec (Y * p < X * q) → (ltb (Y * p) (X * q) ≡ true) ⊎ (ltb (Z * q) (Y * r) ≡ true)
      go (yes a) = inl (lt_is (Y * p) (X * q) a)
      go (no a) = inr (lt_is (Z * q) (Y * r) (weak2 (is_lt (Z * p) (X * r) h)))
        where
          -- Z p < X r and X q ≤ Y p
          weak2 : Z * p < X * r → Z * q < Y * r
          weak2 k = cancel (Z * q) (Y * r) p P (let b : Z * p * q < X * r * q = mul-lt-mul_of_pos_right k Q in let d : X * q * r ≤ Y * p * r = mul-le-mul_right r (omega arith) in omega arith)

below_asym : (s t : Bool) (a b : ℕ) → below s a t b ≡ true → below t b s a ≡ false
below_asym false false a b h = ge_not b a (let q = is_lt a b h in omega arith)
below_asym false true a b h = absurd (false≢true h)
below_asym true false a b h = refl
below_asym true true a b h = ge_not a b (let q = is_lt b a h in omega arith)

-- ---- `lt`

and_true : (s t : Bool) → (s && not t) ≡ true → (s ≡ true) × (t ≡ false)
and_true true true e = absurd (false≢true e)
and_true true false e = (refl, refl)
and_true false t e = absurd (false≢true e)

not_true : (t : Bool) → not t ≡ true → t ≡ false
not_true true e = absurd (false≢true e)
not_true false e = refl

pub lt_inf : (x y : Float) → lt x y ≡ true → lt x (inf false) ≡ true
unfolding lt
lt_inf nan y h = absurd (false≢true h)
lt_inf (inf true) y h = refl
lt_inf (inf false) nan h = absurd (false≢true h)
lt_inf (inf false) (inf t) h = absurd (false≢true h)
lt_inf (inf false) (fin t n d) h = absurd (false≢true h)
lt_inf (fin s m e) y h = refl

pub lt_asym : (x y : Float) → lt x y ≡ true → lt y x ≡ false
unfolding lt
lt_asym nan y h = absurd (false≢true h)
lt_asym (inf s) nan h = absurd (false≢true h)
lt_asym (inf true) (inf true) h = refl
lt_asym (inf true) (inf false) h = refl
lt_asym (inf false) (inf t) h = absurd (false≢true h)
lt_asym (inf true) (fin t n d) h = refl
lt_asym (inf false) (fin t n d) h = absurd (false≢true h)
lt_asym (fin s m e) nan h = absurd (false≢true h)
lt_asym (fin s m e) (inf true) h = absurd (false≢true h)
lt_asym (fin s m e) (inf false) h = refl
lt_asym (fin s m e) (fin t n d) h = below_asym s t (m * up e * down d) (n * up d * down e) h

pub lt_trans : (x y z : Float) → lt x y ≡ true → lt y z ≡ true → lt x z ≡ true
unfolding lt
lt_trans nan y z h k = absurd (false≢true h)
lt_trans (inf s) nan z h k = absurd (false≢true h)
lt_trans (inf s) (inf t) nan h k = absurd (false≢true k)
lt_trans (inf s) (inf t) (inf w) h k = absurd (true≢false (sym (and_true t w k).0 ∙ (and_true s t h).1))
lt_trans (inf s) (inf t) (fin w o f) h k = absurd (true≢false (sym k ∙ (and_true s t h).1))
lt_trans (inf s) (fin t n d) nan h k = absurd (false≢true k)
lt_trans (inf s) (fin t n d) (inf w) h k = ap₂ ◌&&◌ h k
lt_trans (inf s) (fin t n d) (fin w o f) h k = h
lt_trans (fin s m e) nan z h k = absurd (false≢true h)
lt_trans (fin s m e) (inf t) nan h k = absurd (false≢true k)
lt_trans (fin s m e) (inf t) (inf w) h k = absurd (true≢false (sym (and_true t w k).0 ∙ not_true t h))
lt_trans (fin s m e) (inf t) (fin w o f) h k = absurd (true≢false (sym k ∙ not_true t h))
lt_trans (fin s m e) (fin t n d) nan h k = absurd (false≢true k)
lt_trans (fin s m e) (fin t n d) (inf w) h k = k
lt_trans (fin s m e) (fin t n d) (fin w o f) h k = below_trans (m * up e) (down e) (n * up d) (down d) (o * up f) (down f) (down_pos e) (down_pos d) (down_pos f) s t w h k

pub lt_irrefl : (x : Float) → lt x x ≡ false
lt_irrefl x = go (lt x x) refl
  where
    go : (t : Bool) → lt x x ≡ t → t ≡ false
    go true e = sym e ∙ lt_asym x x e
    go false e = refl

pub lt_numbers : (x y : Float) → lt x y ≡ true → T (not (is_nan x)) × T (not (is_nan y))
unfolding lt is_nan
lt_numbers nan y h = absurd (false≢true h)
lt_numbers (inf s) nan h = absurd (false≢true h)
lt_numbers (inf s) (inf t) h = (tt, tt)
lt_numbers (inf s) (fin t n d) h = (tt, tt)
lt_numbers (fin s m e) nan h = absurd (false≢true h)
lt_numbers (fin s m e) (inf t) h = (tt, tt)
lt_numbers (fin s m e) (fin t n d) h = (tt, tt)

-- x < z gives x < y or y < z, for a y that is not NaN
pub lt_weak : (x y z : Float) → T (not (is_nan y)) → lt x z ≡ true → (lt x y ≡ true) ⊎ (lt y z ≡ true)
unfolding lt is_nan
lt_weak x nan z k h = absurd k
lt_weak x (inf false) z k h = inl (lt_inf x z h)
lt_weak nan (inf true) z k h = absurd (false≢true h)
lt_weak (inf s) (inf true) nan k h = absurd (false≢true h)
lt_weak (inf s) (inf true) (inf w) k h = inr (ap not (and_true s w h).1)
lt_weak (inf s) (inf true) (fin w o f) k h = inr refl
lt_weak (fin s m e) (inf true) nan k h = absurd (false≢true h)
lt_weak (fin s m e) (inf true) (inf w) k h = inr h
lt_weak (fin s m e) (inf true) (fin w o f) k h = inr refl
lt_weak nan (fin t n d) z k h = absurd (false≢true h)
lt_weak (inf s) (fin t n d) nan k h = absurd (false≢true h)
lt_weak (inf s) (fin t n d) (inf w) k h = inl (and_true s w h).0
lt_weak (inf s) (fin t n d) (fin w o f) k h = inl h
lt_weak (fin s m e) (fin t n d) nan k h = absurd (false≢true h)
lt_weak (fin s m e) (fin t n d) (inf w) k h = inr h
lt_weak (fin s m e) (fin t n d) (fin w o f) k h = below_weak (m * up e) (down e) (n * up d) (down d) (o * up f) (down f) (down_pos e) (down_pos d) (down_pos f) s t w h

-- ---- `le`

pub finite_number : (x : Float) → finite x ≡ true → T (not (is_nan x))
unfolding finite is_nan
finite_number nan h = absurd (false≢true h)
finite_number (inf s) h = tt
finite_number (fin s m e) h = tt

or_l : (a b : Bool) → T a → T (a || b)
or_l true b t = tt
or_l false b t = absurd t

or_r : (a b : Bool) → T b → T (a || b)
or_r true b t = tt
or_r false b t = t

or_cases : (a b : Bool) → T (a || b) → T a ⊎ T b
or_cases true b t = inl tt
or_cases false b t = inr t

true_right : (a : Bool) → (a && true) ≡ a
true_right true = refl
true_right false = refl

-- a < b or a = b, against b < a
at_most : (a b : ℕ) → (ltb a b || eqb a b) ≡ not (ltb b a)
at_most a b = same_truth (ltb a b || eqb a b) (not (ltb b a)) forth back
  where
    least : a < b → b < a → ⊥
    least p q = omega arith

    forth : T (ltb a b || eqb a b) → T (not (ltb b a))
    forth t = elim (or_cases (ltb a b) (eqb a b) t) [
      | inl l ↦ le→nltb b a (let h = ltb→lt a b l in omega arith)
      | inr e ↦ le→nltb b a (let h = eqb→eq a b e in omega arith)
    ]

    back : T (not (ltb b a)) → T (ltb a b || eqb a b)
    back t = go (dec_lt a b)
      where
        go : Dec (a < b) → T (ltb a b || eqb a b)
        go (yes l) = or_l (ltb a b) (eqb a b) (lt→ltb a b l)
        go (no l) = or_r (ltb a b) (eqb a b) (eq→eqb {a = a} {b = b} (let h = nltb→le b a t in omega arith))

-- a = b = 0, against 0 < b + a
both_zero : (a b : ℕ) → (eqb a b && eqb a 0) ≡ not (ltb 0 (b + a))
both_zero a b = same_truth (eqb a b && eqb a 0) (not (ltb 0 (b + a))) forth back
  where
    forth : T (eqb a b && eqb a 0) → T (not (ltb 0 (b + a)))
    forth t = le→nltb 0 (b + a) (let p = eqb→eq a b (and_l (eqb a b) (eqb a 0) t) in let q = eqb→eq a 0 (and_r (eqb a b) (eqb a 0) t) in omega arith)

    back : T (not (ltb 0 (b + a))) → T (eqb a b && eqb a 0)
    back t = let h = nltb→le 0 (b + a) t in and_i (eqb a b) (eqb a 0) (eq→eqb {a = a} {b = b} (omega arith)) (eq→eqb {a = a} {b = 0} (omega arith))

-- 0 < a + b or a = b = 0
some_or_none : (a b : ℕ) → (ltb 0 (a + b) || (eqb a b && eqb a 0)) ≡ true
some_or_none a b = go (dec_lt 0 (a + b))
  where
    go : Dec (0 < a + b) → (ltb 0 (a + b) || (eqb a b && eqb a 0)) ≡ true
    go (yes l) = is_true _ (or_l (ltb 0 (a + b)) (eqb a b && eqb a 0) (lt→ltb 0 (a + b) l))
    go (no l) = is_true _ (or_r (ltb 0 (a + b)) (eqb a b && eqb a 0) (and_i (eqb a b) (eqb a 0) (eq→eqb {a = a} {b = b} (omega arith)) (eq→eqb {a = a} {b = 0} (omega arith))))

mirror : (a b : ℕ) → eqb a b ≡ eqb b a
mirror a b = same_truth (eqb a b) (eqb b a) (λ t. eq→eqb (sym (eqb→eq a b t))) (λ t. eq→eqb (sym (eqb→eq b a t)))

pub below_level : (s t : Bool) (a b : ℕ) → (below s a t b || level s a t b) ≡ not (below t b s a)
below_level false false a b = ap (λ (e : Bool). ltb a b || e) (true_right (eqb a b)) ∙ at_most a b
below_level false true a b = both_zero a b
below_level true false a b = some_or_none a b
below_level true true a b = ap (λ (e : Bool). ltb b a || e) (true_right (eqb a b) ∙ mirror a b) ∙ at_most b a

pub le_is : (x y : Float) → T (not (is_nan x)) → T (not (is_nan y)) → le x y ≡ not (lt y x)
unfolding le lt eq is_nan
le_is nan y h k = absurd h
le_is (inf s) nan h k = absurd k
le_is (fin s m e) nan h k = absurd k
le_is (inf true) (inf true) h k = refl
le_is (inf true) (inf false) h k = refl
le_is (inf false) (inf true) h k = refl
le_is (inf false) (inf false) h k = refl
le_is (inf true) (fin t n d) h k = refl
le_is (inf false) (fin t n d) h k = refl
le_is (fin s m e) (inf true) h k = refl
le_is (fin s m e) (inf false) h k = refl
le_is (fin s m e) (fin t n d) h k = below_level s t (m * up e * down d) (n * up d * down e)

pub le_numbers : (x y : Float) → le x y ≡ true → T (not (is_nan x)) × T (not (is_nan y))
unfolding le lt eq is_nan
le_numbers nan y h = absurd (false≢true h)
le_numbers (inf s) nan h = absurd (false≢true h)
le_numbers (inf s) (inf t) h = (tt, tt)
le_numbers (inf s) (fin t n d) h = (tt, tt)
le_numbers (fin s m e) nan h = absurd (false≢true h)
le_numbers (fin s m e) (inf t) h = (tt, tt)
le_numbers (fin s m e) (fin t n d) h = (tt, tt)

pub le_refl : (x : Float) → T (not (is_nan x)) → le x x ≡ true
le_refl x h = le_is x x h h ∙ ap not (lt_irrefl x)

pub le_total : (x y : Float) → T (not (is_nan x)) → T (not (is_nan y)) → (le x y ≡ true) ⊎ (le y x ≡ true)
le_total x y h k = go (lt y x) refl
  where
    go : (t : Bool) → lt y x ≡ t → (le x y ≡ true) ⊎ (le y x ≡ true)
    go true e = inr (le_is y x k h ∙ ap not (lt_asym y x e))
    go false e = inl (le_is x y h k ∙ ap not e)

-- what is at most y is not above it
pub le_not_lt : (x y : Float) → le x y ≡ true → lt y x ≡ false
le_not_lt x y h = let n = le_numbers x y h in not_true (lt y x) (sym (le_is x y n.0 n.1) ∙ h)

pub le_of_lt : (x y : Float) → lt x y ≡ true → le x y ≡ true
le_of_lt x y h = let n = lt_numbers x y h in le_is x y n.0 n.1 ∙ ap not (lt_asym x y h)

pub le_trans : (x y z : Float) → le x y ≡ true → le y z ≡ true → le x z ≡ true
le_trans x y z h k =
    let n = le_numbers x y h in
    let m = le_numbers y z k in
    le_is x z n.0 m.1 ∙ ap not (go (lt z x) refl n.1)
  where
    go : (t : Bool) → lt z x ≡ t → T (not (is_nan y)) → t ≡ false
    go true e n = elim (lt_weak z y x n e) [
      | inl p ↦ absurd (true≢false (sym p ∙ le_not_lt y z k))
      | inr p ↦ absurd (true≢false (sym p ∙ le_not_lt x y h))
    ]
    go false e n = refl

pub lt_of_lt_of_le : (x y z : Float) → lt x y ≡ true → le y z ≡ true → lt x z ≡ true
lt_of_lt_of_le x y z h k = elim (lt_weak x z y (le_numbers y z k).1 h) [
  | inl p ↦ p
  | inr p ↦ absurd (true≢false (sym p ∙ le_not_lt y z k))
]

pub lt_of_le_of_lt : (x y z : Float) → le x y ≡ true → lt y z ≡ true → lt x z ≡ true
lt_of_le_of_lt x y z h k = elim (lt_weak y x z (le_numbers x y h).0 k) [
  | inl p ↦ absurd (true≢false (sym p ∙ le_not_lt x y h))
  | inr p ↦ p
]
