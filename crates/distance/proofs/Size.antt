-- The sizes of binary64 values: every operation here takes arguments of larger size to a result of larger size. And sizes against
-- whole numbers.
use mathlib.Core.Path.{◌≡◌, refl, sym, ap, ◌∙◌, subst}
use Prim.Native.Nat.{ℕ, zero, suc, ◌+◌, ◌-◌, ◌*◌, ◌/◌, ◌%◌, ◌^◌, ◌≤◌, ◌<◌, compare}
use native.Mathlib.Nat.{le_trans, le_of_eq, zero-lt-suc, mul-one, mul_right_comm, mul-le-mul, mul-le-mul_right, le_of_mul-le-mul_right, mul-pos}
use native.Mathlib.Omega.{arith}
use mathlib.Core.Bool.{Bool, true, false, ◌&&◌, ◌||◌, beq, cond}
use borrow.Author.Tests.{ltb-true, ltb-false, leb-true, leb-false, eqb-true, eqb-false}
use lib.Dec.{T, leb, ltb, eqb, leb→le, le→leb}
use lib.Ieee.{Float, nan, inf, fin, Format, binary64, prec, emax, low, up, down, unlike, size, nearest, odd, units, round, sum, add, sub, mul, neg, lt, le, eq}
use lib.Ieee.Fits.{down_pos}
use lib.Ieee.Order.{round_mono, le_of_values}
use lib.Ieee.Scale.{finite}
use Rattle.float.specs.Binary64.{whole64}
use Rattle.float.specs.Root.{isqrt, root_units, root}
use Rattle.float.proofs.Exact.{Is, most, is_whole, is_round}
use Rattle.float.proofs.Monotone.{nonneg, test_le, drop, kept_digits, root_mono, root_units_lem}
use Rattle.distance.specs.Limit.{within}

-- x without its sign
abbrev pub abs : Float → Float
abs nan = nan
abs (inf s) = inf false
abs (fin s m e) = fin false m e

-- x and y are finite, and x is of at most y's size
abbrev pub Under : Float → Float → Type 0
Under nan y = ⊥
Under (inf s) y = ⊥
Under (fin s m e) nan = ⊥
Under (fin s m e) (inf t) = ⊥
Under (fin s m e) (fin t n d) = m * up e * down d ≤ n * up d * down e

-- ---- rounding: the sign goes through, and the size does not turn on it

odd_abs : (d : ℕ) (s : Bool) (q k l : ℕ) → abs (odd d s q k l) ≡ odd d false q k l
unfolding odd
odd_abs d s zero k l = refl
odd_abs d s (suc q) k l = refl

units_abs : (f : Format) (s : Bool) (q k : ℕ) → abs (units f s q k) ≡ units f false q k
unfolding units
units_abs f s q k = go (ltb (q * 2 ^ k) (2 ^ (low f + suc (emax f))))
  where
    go : (b : Bool) → abs (cond b (odd (suc (prec f)) s q k (low f)) (inf s)) ≡ cond b (odd (suc (prec f)) false q k (low f)) (inf false)
    go true = odd_abs (suc (prec f)) s q k (low f)
    go false = refl

pub round_abs : (f : Format) (s : Bool) (a c : ℕ) → abs (round f s a c) ≡ round f false a c
unfolding round
round_abs f s a c =
    let n = a * 2 ^ low f in
    let k = size (n / c) - prec f in
    let u = c * 2 ^ k in
    units_abs f s (nearest (n / u) (compare (n % u * 2) u)) k

odd_nonneg : (d q k l : ℕ) → T (nonneg (odd d false q k l))
unfolding odd
odd_nonneg d zero k l = tt
odd_nonneg d (suc q) k l = tt

units_nonneg : (f : Format) (q k : ℕ) → T (nonneg (units f false q k))
unfolding units
units_nonneg f q k = go (ltb (q * 2 ^ k) (2 ^ (low f + suc (emax f))))
  where
    go : (b : Bool) → T (nonneg (cond b (odd (suc (prec f)) false q k (low f)) (inf false)))
    go true = odd_nonneg (suc (prec f)) q k (low f)
    go false = tt

round_nonneg : (f : Format) (a c : ℕ) → T (nonneg (round f false a c))
unfolding round
round_nonneg f a c =
    let n = a * 2 ^ low f in
    let k = size (n / c) - prec f in
    let u = c * 2 ^ k in
    units_nonneg f (nearest (n / u) (compare (n % u * 2) u)) k

-- ---- the order of values that are not negative is that of their sizes

-- `<=` of two numbers by `<` and `==`
pub at_most : (a b : ℕ) → (ltb a b || (eqb a b && true)) ≡ leb a b
at_most a b = go (leb a b) (ltb a b) (eqb a b) refl refl refl
  where
    go : (l x y : Bool) → leb a b ≡ l → ltb a b ≡ x → eqb a b ≡ y → (x || (y && true)) ≡ l
    go true true y p q r = refl
    go true false true p q r = refl
    go true false false p q r =
        let u = leb-true a b p in
        let v = ltb-false a b q in
        absurd (eqb-false a b r (omega arith))
    go false true y p q r =
        let u = leb-false a b p in
        let v = ltb-true a b q in
        absurd (omega arith)
    go false false true p q r =
        let u = leb-false a b p in
        let v = eqb-true a b r in
        absurd (omega arith)
    go false false false p q r = refl

pub le_under : (x y : Float) → T (nonneg x) → T (nonneg y) → T (finite y) → T (le x y) → Under x y
unfolding le lt eq
le_under nan y p q f t = absurd p
le_under (inf true) y p q f t = absurd p
le_under (inf false) nan p q f t = absurd q
le_under (inf false) (inf w) p q f t = absurd f
le_under (inf false) (fin w n d) p q f t = absurd t
le_under (fin true m e) y p q f t = absurd p
le_under (fin false m e) nan p q f t = absurd q
le_under (fin false m e) (inf w) p q f t = absurd f
le_under (fin false m e) (fin true n d) p q f t = absurd q
le_under (fin false m e) (fin false n d) p q f t = test_le (m * up e * down d) (n * up d * down e) t

pub under_le : (x y : Float) → T (nonneg x) → T (nonneg y) → Under x y → T (le x y)
under_le nan y p q h = absurd h
under_le (inf s) y p q h = absurd h
under_le (fin s m e) nan p q h = absurd h
under_le (fin s m e) (inf t) p q h = absurd h
under_le (fin true m e) (fin t n d) p q h = absurd p
under_le (fin false m e) (fin true n d) p q h = absurd q
under_le (fin false m e) (fin false n d) p q h =
    le_of_values (fin false m e) (fin false n d) (m * up e) (down e) (n * up d) (down d) (down_pos e) (down_pos d) (refl, refl) (refl, refl) h

under_abs : (x y : Float) → Under (abs x) (abs y) → Under x y
under_abs nan y h = h
under_abs (inf s) y h = h
under_abs (fin s m e) nan h = h
under_abs (fin s m e) (inf t) h = h
under_abs (fin s m e) (fin t n d) h = h

finite_abs : (x : Float) → T (finite x) → T (finite (abs x))
finite_abs nan h = h
finite_abs (inf s) h = h
finite_abs (fin s m e) h = h

-- the smaller fraction is rounded to a value of no larger size
pub round_under : (s t : Bool) (a c b d : ℕ) → 0 < c → 0 < d → T (finite (round binary64 t b d)) → a * d ≤ b * c → Under (round binary64 s a c) (round binary64 t b d)
round_under s t a c b d C D f h =
    under_abs (round binary64 s a c) (round binary64 t b d)
    (subst (λ (z : Float). Under z (abs (round binary64 t b d))) (sym (round_abs binary64 s a c))
    (subst (λ (z : Float). Under (round binary64 false a c) z) (sym (round_abs binary64 t b d))
    (le_under (round binary64 false a c) (round binary64 false b d) (round_nonneg binary64 a c) (round_nonneg binary64 b d)
    (subst (λ (z : Float). T (finite z)) (round_abs binary64 t b d) (finite_abs (round binary64 t b d) f)) (round_mono binary64 a c b d C D h))))

-- ---- sums, differences, products

first_part : (p u P U v K : ℕ) → p * U ≤ P * u → p * v * (U * K) ≤ P * K * (u * v)
first_part p u P U v K h = let a : p * U * (v * K) ≤ P * u * (v * K) = mul-le-mul_right (v * K) h in omega arith

second_part : (q v Q K u U : ℕ) → q * K ≤ Q * v → q * u * (U * K) ≤ Q * U * (u * v)
second_part q v Q K u U h = let a : q * K * (u * U) ≤ Q * v * (u * U) = mul-le-mul_right (u * U) h in omega arith

sum_under : (s t : Bool) (a b c A B C : ℕ) → 0 < c → 0 < C → T (finite (round binary64 false (A + B) C)) → a * C ≤ A * c → b * C ≤ B * c
    → Under (sum binary64 s a t b c) (round binary64 false (A + B) C)
unfolding sum
sum_under s t a b c A B C p P f h k = go (beq s t) (ltb a b)
  where
    part : (v : ℕ) → v ≤ a + b → v * C ≤ (A + B) * c
    part v l = let z : v * C ≤ (a + b) * C = mul-le-mul_right C l in omega arith

    go : (x y : Bool)
        → Under (cond x (round binary64 s (a + b) c) (cond y (round binary64 t (b - a) c) (round binary64 (s && ltb b a) (a - b) c))) (round binary64 false (A + B) C)
    go true y = round_under s false (a + b) c (A + B) C p P f (part (a + b) (omega arith))
    go false true = round_under t false (b - a) c (A + B) C p P f (part (b - a) (omega arith))
    go false false = round_under (s && ltb b a) false (a - b) c (A + B) C p P f (part (a - b) (omega arith))

pub add_under : (x y X Y : Float) → T (nonneg X) → T (nonneg Y) → T (finite (add binary64 X Y)) → Under x X → Under y Y → Under (add binary64 x y) (add binary64 X Y)
unfolding add
add_under nan y X Y p q f h k = absurd h
add_under (inf s) y X Y p q f h k = absurd h
add_under (fin s m i) y nan Y p q f h k = absurd h
add_under (fin s m i) y (inf S) Y p q f h k = absurd h
add_under (fin s m i) nan (fin S M I) Y p q f h k = absurd k
add_under (fin s m i) (inf t) (fin S M I) Y p q f h k = absurd k
add_under (fin s m i) (fin t n j) (fin S M I) nan p q f h k = absurd k
add_under (fin s m i) (fin t n j) (fin S M I) (inf W) p q f h k = absurd k
add_under (fin s m i) (fin t n j) (fin true M I) (fin W N J) p q f h k = absurd p
add_under (fin s m i) (fin t n j) (fin false M I) (fin true N J) p q f h k = absurd q
add_under (fin s m i) (fin t n j) (fin false M I) (fin false N J) p q f h k =
    sum_under s t (m * up i * down j) (n * up j * down i) (down i * down j) (M * up I * down J) (N * up J * down I) (down I * down J)
    (mul-pos (down_pos i) (down_pos j)) (mul-pos (down_pos I) (down_pos J)) f
    (first_part (m * up i) (down i) (M * up I) (down I) (down j) (down J) h)
    (second_part (n * up j) (down j) (N * up J) (down J) (down i) (down I) k)

neg_under : (y Y : Float) → Under y Y → Under (neg y) Y
unfolding neg
neg_under nan Y h = h
neg_under (inf s) Y h = h
neg_under (fin s m e) nan h = h
neg_under (fin s m e) (inf t) h = h
neg_under (fin s m e) (fin t n d) h = h

pub sub_under : (x y X Y : Float) → T (nonneg X) → T (nonneg Y) → T (finite (add binary64 X Y)) → Under x X → Under y Y → Under (sub binary64 x y) (add binary64 X Y)
unfolding sub
sub_under x y X Y p q f h k = add_under x (neg y) X Y p q f h (neg_under y Y k)

product : (p u P U q v Q K : ℕ) → p * U ≤ P * u → q * K ≤ Q * v → p * q * (U * K) ≤ P * Q * (u * v)
product p u P U q v Q K h k = let a : p * U * (q * K) ≤ P * u * (Q * v) = mul-le-mul h k in omega arith

pub mul_under : (x y X Y : Float) → T (finite (mul binary64 X Y)) → Under x X → Under y Y → Under (mul binary64 x y) (mul binary64 X Y)
unfolding mul
mul_under nan y X Y f h k = absurd h
mul_under (inf s) y X Y f h k = absurd h
mul_under (fin s m i) y nan Y f h k = absurd h
mul_under (fin s m i) y (inf S) Y f h k = absurd h
mul_under (fin s m i) nan (fin S M I) Y f h k = absurd k
mul_under (fin s m i) (inf t) (fin S M I) Y f h k = absurd k
mul_under (fin s m i) (fin t n j) (fin S M I) nan f h k = absurd k
mul_under (fin s m i) (fin t n j) (fin S M I) (inf W) f h k = absurd k
mul_under (fin s m i) (fin t n j) (fin S M I) (fin W N J) f h k =
    round_under (unlike s t) (unlike S W) (m * up i * (n * up j)) (down i * down j) (M * up I * (N * up J)) (down I * down J)
    (mul-pos (down_pos i) (down_pos j)) (mul-pos (down_pos I) (down_pos J)) f
    (product (m * up i) (down i) (M * up I) (down I) (n * up j) (down j) (N * up J) (down J) h k)

-- ---- squares and their sums are not negative

self_unlike : (s : Bool) → unlike s s ≡ false
self_unlike true = refl
self_unlike false = refl

pub square_nonneg : (x X : Float) → Under x X → T (nonneg (mul binary64 x x))
unfolding mul
square_nonneg nan X h = absurd h
square_nonneg (inf s) X h = absurd h
square_nonneg (fin s m i) X h =
    subst (λ (b : Bool). T (nonneg (round binary64 b (m * up i * (m * up i)) (down i * down i)))) (sym (self_unlike s)) (round_nonneg binary64 (m * up i * (m * up i)) (down i * down i))

pub add_nonneg : (x y X Y : Float) → Under x X → Under y Y → T (nonneg x) → T (nonneg y) → T (nonneg (add binary64 x y))
unfolding add sum
add_nonneg nan y X Y h k p q = absurd h
add_nonneg (inf s) y X Y h k p q = absurd h
add_nonneg (fin s m i) nan X Y h k p q = absurd k
add_nonneg (fin s m i) (inf t) X Y h k p q = absurd k
add_nonneg (fin true m i) (fin t n j) X Y h k p q = absurd p
add_nonneg (fin false m i) (fin true n j) X Y h k p q = absurd q
add_nonneg (fin false m i) (fin false n j) X Y h k p q = round_nonneg binary64 (m * up i * down j + n * up j * down i) (down i * down j)

-- ---- the root

units_root_nonneg : (f : Format) (n : ℕ) → T (nonneg (root_units f n))
units_root_nonneg f n =
    subst (λ (z : Float). T (nonneg z)) (sym (root_units_lem f n)) (units_nonneg f (kept_digits n (isqrt n / 2 ^ drop f n) (drop f n)) (drop f n))

root_nonneg : (x X : Float) → Under x X → T (nonneg x) → T (nonneg (root binary64 x))
unfolding root
root_nonneg nan X h p = absurd h
root_nonneg (inf s) X h p = absurd h
root_nonneg (fin true m e) X h p = absurd p
root_nonneg (fin false zero e) X h p = tt
root_nonneg (fin false (suc m) e) X h p = units_root_nonneg binary64 (suc m * up e * 2 ^ (low binary64 + low binary64) / down e)

pub root_under : (x X : Float) → T (nonneg x) → T (nonneg X) → T (nonneg (root binary64 X)) → T (finite (root binary64 X)) → Under x X → Under (root binary64 x) (root binary64 X)
root_under x X p q r f h =
    le_under (root binary64 x) (root binary64 X) (root_nonneg x X h p) r f (root_mono binary64 x X p q (under_le x X p q h))

-- ---- a size against a whole number

pub within_mono : (k l : ℕ) (x : Float) → k ≤ l → T (within k x) → T (within l x)
unfolding within
within_mono k l nan h w = absurd w
within_mono k l (inf s) h w = absurd w
within_mono k l (fin s m e) h w = le→leb (m * up e) (l * down e) (le_trans (leb→le (m * up e) (k * down e) w) (mul-le-mul_right (down e) h))

-- a value within k, against k as a float
pub within_under : (k : ℕ) (x : Float) → k ≤ most → T (within k x) → Under x (whole64 k)
unfolding within
within_under k x l w = go x (whole64 k) w (is_whole k l)
  where
    size : (a b p q : ℕ) → a ≤ k * b → p * 1 ≡ k * q → a * q ≤ p * b
    size a b p q h e = let z : a * q ≤ k * b * q = mul-le-mul_right q h in let y : p * 1 * b ≡ k * q * b = ap (λ (i : ℕ). i * b) e in omega arith

    go : (x y : Float) → T (within k x) → Is y false k → Under x y
    go nan y w i = absurd w
    go (inf s) y w i = absurd w
    go (fin s m e) nan w i = absurd i
    go (fin s m e) (inf t) w i = absurd i
    go (fin s m e) (fin t n d) w i = size (m * up e) (down e) (n * up d) (down d) (leb→le (m * up e) (k * down e) w) i.1

pub under_within : (k : ℕ) (x y : Float) → Under x y → T (within k y) → T (within k x)
unfolding within
under_within k nan y h w = absurd h
under_within k (inf s) y h w = absurd h
under_within k (fin s m e) nan h w = absurd h
under_within k (fin s m e) (inf t) h w = absurd h
under_within k (fin s m e) (fin t n d) h w =
    le→leb (m * up e) (k * down e)
    (le_of_mul-le-mul_right {k = down d}
    (le_trans h (le_trans (mul-le-mul_right (down e) (leb→le (n * up d) (k * down d) w)) (le_of_eq (mul_right_comm k (down d) (down e)))))
    (down_pos d))

-- a fraction of at most k is rounded to a value within k, which the format holds
pub round_within : (s : Bool) (a c k : ℕ) → 0 < c → k ≤ most → a ≤ k * c → T (within k (round binary64 s a c))
unfolding within
round_within s a c k C l h =
    let v = is_round false k l in
    under_within k (round binary64 s a c) (round binary64 false k 1)
    (round_under s false a c k 1 C (zero-lt-suc 0) (is_finite (round binary64 false k 1) v) (le_trans (le_of_eq (mul-one a)) h))
    (is_within (round binary64 false k 1) v)
  where
    is_finite : (x : Float) → Is x false k → T (finite x)
    is_finite nan v = absurd v
    is_finite (inf t) v = absurd v
    is_finite (fin t m e) v = tt

    is_within : (x : Float) → Is x false k → T (within k x)
    is_within nan v = absurd v
    is_within (inf t) v = absurd v
    is_within (fin t m e) v = le→leb (m * up e) (k * down e) (le_of_eq (sym (mul-one (m * up e)) ∙ v.1))
