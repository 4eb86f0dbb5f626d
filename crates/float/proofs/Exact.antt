-- Sums and differences of floats that are whole numbers. A sum of two whole numbers is that whole number, rounded once (`add_like`, `add_fall`, `add_under`, `add_rise`,
-- `add_sink`); whole numbers of size up to 2 ^ 53 are held, so their sums and differences of that size are exact (`whole_add`, `whole_sub`, `whole_difference`). A difference of equal numbers is
-- +0.0, and -0.0 comes only from two negative zeros. `add_minus_minus` and `add_plus_minus` are the changes of an exit weight by a move. The order of whole floats is that of
-- the numbers (`whole_lt`, `whole_le`).
use mathlib.Core.Path.{◌≡◌, refl, sym, ap, ap₂, ◌∙◌}
use Prim.Native.Nat.{ℕ, suc, ◌+◌, ◌-◌, ◌*◌, ◌^◌, ◌≤◌, ◌<◌}
use native.Mathlib.Nat.{mul-pos, zero-lt-suc, mul-one, mul_assoc, mul_comm, add-mul, mul-le-mul_right, not-le_of_lt, mul-lt-mul_of_pos_right, mul-sub, lt_of_mul-lt-mul_right}
use native.Mathlib.Decide.{dec_le}
use native.Mathlib.Omega.{arith}
use mathlib.Core.Bool.{Bool, true, false, not, cond}
use lib.IntN.{pos, negsuc}
use lib.Dec.{T, ltb, leb, ltb→lt, lt→ltb, nltb→le, leb→le, nleb→lt, le→leb}
use lib.Ieee.{Float, nan, inf, fin, Format, binary64, up, down, minus, round, sum, add, sub, neg, below, lt, le, is_nan, of_int, of_bits}
use lib.Ieee.Fits.{down_pos}
use lib.Arith.{le→nltb}
use lib.Ieee.Exact.{HasValue}
use lib.Ieee.Scale.{round_same}
use lib.Ieee.Back.{round_whole}
use Rattle.float.proofs.Order.{same_truth, le_is}
use Rattle.float.specs.Binary64.{add64, sub64, whole64, zero64}

-- x is the whole number a with the sign s
abbrev pub Is : Float → Bool → ℕ → Type 0
Is x s a = HasValue x s a 1

-- ---- the parts of a sum, over the common divisor
part : (m u a p q : ℕ) → m * u * 1 ≡ a * p → m * u * q ≡ a * (p * q)
part m u a p q h = ap (λ (z : ℕ). z * q) (sym (mul-one (m * u)) ∙ h) ∙ mul_assoc a p q

part' : (m u a p q : ℕ) → m * u * 1 ≡ a * p → m * u * q ≡ a * (q * p)
part' m u a p q h = part m u a p q h ∙ ap (λ (z : ℕ). a * z) (mul_comm p q)

-- a sum with its three numbers replaced
sum_of : (f : Format) (s t : Bool) (A B a b c : ℕ) → A ≡ a * c → B ≡ b * c → sum f s A t B c ≡ sum f s (a * c) t (b * c) c
sum_of f s t A B a b c h k = ap (λ (z : ℕ). sum f s z t B c) h ∙ ap (λ (z : ℕ). sum f s (a * c) t z c) k

-- every sum of two whole numbers is a sum over one divisor c above 0
pub over_one : (f : Format) (x y : Float) (s t : Bool) (a b : ℕ) → Is x s a → Is y t b → (c : ℕ) × (0 < c) × (add f x y ≡ sum f s (a * c) t (b * c) c)
unfolding add
over_one f nan y s t a b h k = absurd h
over_one f (inf u) y s t a b h k = absurd h
over_one f (fin u m e) nan s t a b h k = absurd k
over_one f (fin u m e) (inf v) s t a b h k = absurd k
over_one f (fin u m e) (fin v n d) s t a b h k = (
  down e * down d,
  mul-pos (down_pos e) (down_pos d),
  ap (λ (z : Bool). sum f z (m * up e * down d) v (n * up d * down e) (down e * down d)) h.0
      ∙ ap (λ (z : Bool). sum f s (m * up e * down d) z (n * up d * down e) (down e * down d)) k.0
      ∙ sum_of f s t (m * up e * down d) (n * up d * down e) a b (down e * down d) (part m (up e) a (down e) (down d) h.1) (part' n (up d) b (down d) (down e) k.1),
)

scale : (f : Format) (s : Bool) (a c A : ℕ) → 0 < c → A ≡ a * c → round f s A c ≡ round f s a 1
scale f s a c A p h = round_same f s A c a 1 p (zero-lt-suc 0) (mul-one A ∙ h)

-- ---- like signs
like : (f : Format) (s : Bool) (a b c : ℕ) → 0 < c → sum f s (a * c) s (b * c) c ≡ round f s (a + b) 1
unfolding sum
like f true a b c p = scale f true (a + b) c (a * c + b * c) p (sym (add-mul a b c))
like f false a b c p = scale f false (a + b) c (a * c + b * c) p (sym (add-mul a b c))

pub add_like : (f : Format) (x y : Float) (s : Bool) (a b : ℕ) → Is x s a → Is y s b → add f x y ≡ round f s (a + b) 1
add_like f x y s a b h k = let o = over_one f x y s s a b h k in o.2 ∙ like f s a b o.0 o.1

-- ---- unlike signs
sub_scale : (a b c : ℕ) → a * c - b * c ≡ (a - b) * c
sub_scale a b c = sym (mul_comm (a - b) c ∙ mul-sub c a b ∙ ap (λ (z : ℕ). z - c * b) (mul_comm c a) ∙ ap (λ (z : ℕ). a * c - z) (mul_comm c b))

-- a - b, for a b no larger
fall : (f : Format) (a b c : ℕ) → 0 < c → b ≤ a → sum f false (a * c) true (b * c) c ≡ round f false (a - b) 1
unfolding sum
fall f a b c p h = go (ltb (a * c) (b * c)) (ltb→lt (a * c) (b * c))
  where
    go : (t : Bool) → (T t → a * c < b * c) → cond t (round f true (b * c - a * c) c) (round f false (a * c - b * c) c) ≡ round f false (a - b) 1
    go true k = absurd (not-le_of_lt (k tt) (mul-le-mul_right c h))
    go false k = scale f false (a - b) c (a * c - b * c) p (sub_scale a b c)

-- a - b, for a larger b
under : (f : Format) (a b c : ℕ) → 0 < c → a < b → sum f false (a * c) true (b * c) c ≡ round f true (b - a) 1
unfolding sum
under f a b c p h = go (ltb (a * c) (b * c)) (lt→ltb (a * c) (b * c) (mul-lt-mul_of_pos_right h p))
  where
    go : (t : Bool) → T t → cond t (round f true (b * c - a * c) c) (round f false (a * c - b * c) c) ≡ round f true (b - a) 1
    go true k = scale f true (b - a) c (b * c - a * c) p (sub_scale b a c)
    go false k = absurd k

-- -a + b, for a b no smaller: +0 where they are equal
rise : (f : Format) (a b c : ℕ) → 0 < c → a ≤ b → sum f true (a * c) false (b * c) c ≡ round f false (b - a) 1
unfolding sum
rise f a b c p h = go (ltb (a * c) (b * c)) (nltb→le (a * c) (b * c)) (ltb (b * c) (a * c)) (ltb→lt (b * c) (a * c))
  where
    go : (t : Bool) → (T (not t) → b * c ≤ a * c) → (u : Bool) → (T u → b * c < a * c)
        → cond t (round f false (b * c - a * c) c) (round f u (a * c - b * c) c) ≡ round f false (b - a) 1
    go true k u l = scale f false (b - a) c (b * c - a * c) p (sub_scale b a c)
    go false k true l = absurd (not-le_of_lt (l tt) (mul-le-mul_right c h))
    go false k false l = scale f false (b - a) c (a * c - b * c) p (let r = mul-le-mul_right c h in let q = k tt in let z : a * c - b * c ≡ b * c - a * c = omega arith in z ∙ sub_scale b a c)

-- -a + b, for a smaller b
sink : (f : Format) (a b c : ℕ) → 0 < c → b < a → sum f true (a * c) false (b * c) c ≡ round f true (a - b) 1
unfolding sum
sink f a b c p h = go (ltb (a * c) (b * c)) (ltb→lt (a * c) (b * c)) (ltb (b * c) (a * c)) (lt→ltb (b * c) (a * c) (mul-lt-mul_of_pos_right h p))
  where
    go : (t : Bool) → (T t → a * c < b * c) → (u : Bool) → T u
        → cond t (round f false (b * c - a * c) c) (round f u (a * c - b * c) c) ≡ round f true (a - b) 1
    go true k u l = absurd (let r = mul-lt-mul_of_pos_right h p in let q = k tt in omega arith)
    go false k true l = scale f true (a - b) c (a * c - b * c) p (sub_scale a b c)
    go false k false l = absurd l

pub add_fall : (f : Format) (x y : Float) (a b : ℕ) → Is x false a → Is y true b → b ≤ a → add f x y ≡ round f false (a - b) 1
add_fall f x y a b h k l = let o = over_one f x y false true a b h k in o.2 ∙ fall f a b o.0 o.1 l

pub add_under : (f : Format) (x y : Float) (a b : ℕ) → Is x false a → Is y true b → a < b → add f x y ≡ round f true (b - a) 1
add_under f x y a b h k l = let o = over_one f x y false true a b h k in o.2 ∙ under f a b o.0 o.1 l

pub add_rise : (f : Format) (x y : Float) (a b : ℕ) → Is x true a → Is y false b → a ≤ b → add f x y ≡ round f false (b - a) 1
add_rise f x y a b h k l = let o = over_one f x y true false a b h k in o.2 ∙ rise f a b o.0 o.1 l

pub add_sink : (f : Format) (x y : Float) (a b : ℕ) → Is x true a → Is y false b → b < a → add f x y ≡ round f true (a - b) 1
add_sink f x y a b h k l = let o = over_one f x y true false a b h k in o.2 ∙ sink f a b o.0 o.1 l

-- ---- binary64

-- every whole number of at most this size is a value
abbrev pub most : ℕ
most = 2 ^ 53

pub is_whole : (n : ℕ) → n ≤ most → Is (whole64 n) false n
unfolding of_int
is_whole n h = round_whole binary64 false n h

pub is_round : (s : Bool) (n : ℕ) → n ≤ most → Is (round binary64 s n 1) s n
is_round s n h = round_whole binary64 s n h

pub is_neg : (x : Float) (s : Bool) (n : ℕ) → Is x s n → Is (neg x) (not s) n
unfolding neg
is_neg nan s n h = h
is_neg (inf t) s n h = h
is_neg (fin t m e) s n h = (ap not h.0, h.1)

pub whole_round : (n : ℕ) → whole64 n ≡ round binary64 false n 1
unfolding of_int
whole_round n = refl

-- the sum of two whole floats
pub whole_add : (a b : ℕ) → a ≤ most → b ≤ most → add64 (whole64 a) (whole64 b) ≡ whole64 (a + b)
whole_add a b h k = add_like binary64 (whole64 a) (whole64 b) false a b (is_whole a h) (is_whole b k) ∙ sym (whole_round (a + b))

-- the difference, where it is not negative
pub whole_sub : (a b : ℕ) → a ≤ most → b ≤ a → sub64 (whole64 a) (whole64 b) ≡ whole64 (a - b)
unfolding sub
whole_sub a b h k =
    add_fall binary64 (whole64 a) (neg (whole64 b)) a b (is_whole a h) (is_neg (whole64 b) false b (is_whole b (omega arith))) k ∙ sym (whole_round (a - b))

-- the difference, negative or not
pub whole_difference : (a b : ℕ) → a ≤ most → b ≤ most → sub64 (whole64 a) (whole64 b) ≡ of_int binary64 (minus a b)
unfolding sub of_int
whole_difference a b h k = go (leb b a) (leb→le b a) (nleb→lt b a)
  where
    negative : a < b → sub64 (whole64 a) (whole64 b) ≡ of_int binary64 (negsuc (b - suc a))
    negative l = add_under binary64 (whole64 a) (neg (whole64 b)) a b (is_whole a h) (is_neg (whole64 b) false b (is_whole b k)) l ∙ ap (λ (n : ℕ). round binary64 true n 1) (next a b l)
      where
        next : (a b : ℕ) → a < b → b - a ≡ suc (b - suc a)
        next a b l = omega arith

    go : (t : Bool) → (T t → b ≤ a) → (T (not t) → a < b) → sub64 (whole64 a) (whole64 b) ≡ of_int binary64 (cond t (pos (a - b)) (negsuc (b - suc a)))
    go true y n = whole_sub a b h (y tt)
    go false y n = negative (n tt)

pub zero_whole : zero64 ≡ whole64 0
unfolding of_int of_bits
zero_whole = refl

-- e + ((-b - c) + a)
pub add_minus_minus : (e a b c : ℕ) → e ≤ most → a ≤ most → b + c ≤ most → b + c ≤ e + a
    → add64 (whole64 e) (add64 (sub64 (neg (whole64 b)) (whole64 c)) (whole64 a)) ≡ whole64 (e + a - (b + c))
unfolding sub
add_minus_minus e a b c he ha hbc le =
    let nb : Is (neg (whole64 b)) true b = is_neg (whole64 b) false b (is_whole b (omega arith)) in
    let nc : Is (neg (whole64 c)) true c = is_neg (whole64 c) false c (is_whole c (omega arith)) in
    ap (λ (w : Float). add64 (whole64 e) (add64 w (whole64 a))) (add_like binary64 (neg (whole64 b)) (neg (whole64 c)) true b c nb nc) ∙ go (dec_le (b + c) a)
  where
    go : Dec (b + c ≤ a) → add64 (whole64 e) (add64 (round binary64 true (b + c) 1) (whole64 a)) ≡ whole64 (e + a - (b + c))
    go (yes q) =
        ap (λ (w : Float). add64 (whole64 e) w) (add_rise binary64 (round binary64 true (b + c) 1) (whole64 a) (b + c) a (is_round true (b + c) hbc) (is_whole a ha) q)
        ∙ add_like binary64 (whole64 e) (round binary64 false (a - (b + c)) 1) false e (a - (b + c)) (is_whole e he) (is_round false (a - (b + c)) (omega arith))
        ∙ sym (whole_round (e + (a - (b + c))))
        ∙ ap whole64 (omega arith)
    go (no q) =
        ap (λ (w : Float). add64 (whole64 e) w) (add_sink binary64 (round binary64 true (b + c) 1) (whole64 a) (b + c) a (is_round true (b + c) hbc) (is_whole a ha) (omega arith))
        ∙ add_fall binary64 (whole64 e) (round binary64 true (b + c - a) 1) e (b + c - a) (is_whole e he) (is_round true (b + c - a) (omega arith)) (omega arith)
        ∙ sym (whole_round (e - (b + c - a)))
        ∙ ap whole64 (omega arith)

-- e + ((a + c) - b)
pub add_plus_minus : (e a b c : ℕ) → e ≤ most → a + c ≤ most → b ≤ most → b ≤ e + (a + c)
    → add64 (whole64 e) (sub64 (add64 (whole64 a) (whole64 c)) (whole64 b)) ≡ whole64 (e + (a + c) - b)
unfolding sub
add_plus_minus e a b c he hac hb le = ap (λ (w : Float). add64 (whole64 e) (sub64 w (whole64 b))) (whole_add a c (omega arith) (omega arith)) ∙ go (dec_le b (a + c))
  where
    nb : Is (neg (whole64 b)) true b
    nb = is_neg (whole64 b) false b (is_whole b hb)

    go : Dec (b ≤ a + c) → add64 (whole64 e) (add64 (whole64 (a + c)) (neg (whole64 b))) ≡ whole64 (e + (a + c) - b)
    go (yes q) =
        ap (λ (w : Float). add64 (whole64 e) w) (add_fall binary64 (whole64 (a + c)) (neg (whole64 b)) (a + c) b (is_whole (a + c) hac) nb q)
        ∙ add_like binary64 (whole64 e) (round binary64 false (a + c - b) 1) false e (a + c - b) (is_whole e he) (is_round false (a + c - b) (omega arith))
        ∙ sym (whole_round (e + (a + c - b)))
        ∙ ap whole64 (omega arith)
    go (no q) =
        ap (λ (w : Float). add64 (whole64 e) w) (add_under binary64 (whole64 (a + c)) (neg (whole64 b)) (a + c) b (is_whole (a + c) hac) nb (omega arith))
        ∙ add_fall binary64 (whole64 e) (round binary64 true (b - (a + c)) 1) e (b - (a + c)) (is_whole e he) (is_round true (b - (a + c)) (omega arith)) (omega arith)
        ∙ sym (whole_round (e - (b - (a + c))))
        ∙ ap whole64 (omega arith)

-- ---- order

scaled_lt : (a b c : ℕ) → 0 < c → ltb (a * c) (b * c) ≡ ltb a b
scaled_lt a b c p =
    same_truth (ltb (a * c) (b * c)) (ltb a b) (λ t. lt→ltb a b (lt_of_mul-lt-mul_right c (ltb→lt (a * c) (b * c) t))) (λ t. lt→ltb (a * c) (b * c) (mul-lt-mul_of_pos_right (ltb→lt a b t) p))

is_lt : (x y : Float) (a b : ℕ) → Is x false a → Is y false b → lt x y ≡ ltb a b
unfolding lt
is_lt nan y a b h k = absurd h
is_lt (inf s) y a b h k = absurd h
is_lt (fin s m e) nan a b h k = absurd k
is_lt (fin s m e) (inf t) a b h k = absurd k
is_lt (fin s m e) (fin t n d) a b h k =
    ap₂ (λ (u v : Bool). below u (m * up e * down d) v (n * up d * down e)) h.0 k.0
    ∙ ap₂ ltb (part m (up e) a (down e) (down d) h.1) (part' n (up d) b (down d) (down e) k.1)
    ∙ scaled_lt a b (down e * down d) (mul-pos (down_pos e) (down_pos d))

pub whole_lt : (a b : ℕ) → a ≤ most → b ≤ most → lt (whole64 a) (whole64 b) ≡ ltb a b
whole_lt a b h k = is_lt (whole64 a) (whole64 b) a b (is_whole a h) (is_whole b k)

is_number : (x : Float) (s : Bool) (a : ℕ) → Is x s a → T (not (is_nan x))
unfolding is_nan
is_number nan s a h = absurd h
is_number (inf t) s a h = tt
is_number (fin t m e) s a h = tt

pub whole_le : (a b : ℕ) → a ≤ most → b ≤ most → le (whole64 a) (whole64 b) ≡ leb a b
whole_le a b h k =
    le_is (whole64 a) (whole64 b) (is_number (whole64 a) false a (is_whole a h)) (is_number (whole64 b) false b (is_whole b k))
    ∙ ap not (whole_lt b a k h)
    ∙ same_truth (not (ltb b a)) (leb a b) (λ t. le→leb a b (nltb→le b a t)) (λ t. le→nltb b a (leb→le a b t))
