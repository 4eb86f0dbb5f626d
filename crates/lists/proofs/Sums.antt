-- Sums of whole numbers over the numbers below n.
use mathlib.Core.Path.{◌≡◌, refl, sym, ap, ap₂, ◌∙◌}
use mathlib.Core.Logic.{◌≢◌}
use Prim.Native.Nat.{ℕ, zero, suc, ◌+◌, ◌*◌, ◌≤◌, ◌<◌}
use native.Mathlib.Nat.{le_refl, zero-lt-suc}
use native.Mathlib.Omega.{arith}
use mathlib.Core.Bool.{Bool, true, false}
use borrow.Author.Tests.{ne_eqb}
use lib.Dec.{eqb}
use Rattle.lists.proofs.Tests.{eqb_self}

-- f 0 + .. + f (n - 1).
unfoldable pub sum : ℕ → (ℕ → ℕ) → ℕ
sum zero f = 0
sum (suc n) f = f 0 + sum n (λ v. f (suc v))

-- x where the test holds, and 0 otherwise.
abbrev pub only : Bool → ℕ → ℕ
only true x = x
only false x = 0

pub sum_ext : (n : ℕ) (f g : ℕ → ℕ) → ((v : ℕ) → v < n → f v ≡ g v) → sum n f ≡ sum n g
unfolding sum
sum_ext zero f g h = refl
sum_ext (suc n) f g h = ap₂ ◌+◌ (h 0 (zero-lt-suc n)) (sum_ext n (λ v. f (suc v)) (λ v. g (suc v)) (λ v p. h (suc v) (omega arith)))

pub sum_add : (n : ℕ) (f g : ℕ → ℕ) → sum n (λ v. f v + g v) ≡ sum n f + sum n g
unfolding sum
sum_add zero f g = refl
sum_add (suc n) f g = let r = sum_add n (λ v. f (suc v)) (λ v. g (suc v)) in omega arith

pub sum_zero : (n : ℕ) (f : ℕ → ℕ) → ((v : ℕ) → v < n → f v ≡ 0) → sum n f ≡ 0
unfolding sum
sum_zero zero f h = refl
sum_zero (suc n) f h = let a = h 0 (zero-lt-suc n) in let r = sum_zero n (λ v. f (suc v)) (λ v p. h (suc v) (omega arith)) in omega arith

pub sum_le : (n : ℕ) (f g : ℕ → ℕ) → ((v : ℕ) → v < n → f v ≤ g v) → sum n f ≤ sum n g
unfolding sum
sum_le zero f g h = le_refl 0
sum_le (suc n) f g h = let a = h 0 (zero-lt-suc n) in let r = sum_le n (λ v. f (suc v)) (λ v. g (suc v)) (λ v p. h (suc v) (omega arith)) in omega arith

-- A bound for each is a bound for all.
pub sum_times : (n k : ℕ) (f : ℕ → ℕ) → ((v : ℕ) → v < n → f v ≤ k) → sum n f ≤ n * k
unfolding sum
sum_times zero k f h = omega arith
sum_times (suc n) k f h = let a = h 0 (zero-lt-suc n) in let b = sum_times n k (λ v. f (suc v)) (λ v p. h (suc v) (omega arith)) in omega arith

pub sum_at : (n : ℕ) (f : ℕ → ℕ) (u : ℕ) → u < n → f u ≤ sum n f
unfolding sum
sum_at zero f u h = absurd (omega arith)
sum_at (suc n) f zero h = omega arith
sum_at (suc n) f (suc u) h = let r = sum_at n (λ v. f (suc v)) u (omega arith) in omega arith

-- Two functions that agree off u.
pub sum_off : (n : ℕ) (f g : ℕ → ℕ) (u : ℕ) → u < n → ((v : ℕ) → v < n → v ≢ u → f v ≡ g v) → sum n f + g u ≡ sum n g + f u
unfolding sum
sum_off zero f g u h e = absurd (omega arith)
sum_off (suc n) f g zero h e = let r = sum_ext n (λ v. f (suc v)) (λ v. g (suc v)) (λ v p. e (suc v) (omega arith) (λ z. omega arith)) in omega arith
sum_off (suc n) f g (suc u) h e =
    let a = e 0 (zero-lt-suc n) (λ z. omega arith) in
    let r = sum_off n (λ v. f (suc v)) (λ v. g (suc v)) u (omega arith) (λ v p d. e (suc v) (omega arith) (λ z. d (omega arith))) in
    omega arith

-- One of them.
pub sum_one : (n t : ℕ) (f : ℕ → ℕ) → t < n → sum n (λ v. only (eqb t v) (f v)) ≡ f t
sum_one n t f h =
    let z = sum_zero n (λ v. 0) (λ v p. refl) in
    let o = sum_off n (λ v. only (eqb t v) (f v)) (λ v. 0) t h (λ v p d. ap (λ (b : Bool). only b (f v)) (ne_eqb t v (λ e. d (sym e)))) in
    let s : only (eqb t t) (f t) ≡ f t = ap (λ (b : Bool). only b (f t)) (eqb_self t) in
    omega arith

-- Rows and columns in either order.
pub sum_swap : (n m : ℕ) (f : ℕ → ℕ → ℕ) → sum n (λ u. sum m (λ v. f u v)) ≡ sum m (λ v. sum n (λ u. f u v))
unfolding sum
sum_swap zero m f = sym (sum_zero m (λ v. 0) (λ v p. refl))
sum_swap (suc n) m f = ap (λ (z : ℕ). sum m (λ v. f 0 v) + z) (sum_swap n m (λ u. f (suc u))) ∙ sym (sum_add m (λ v. f 0 v) (λ v. sum n (λ u. f (suc u) v)))

pub only_add : (b : Bool) (x y : ℕ) → only b (x + y) ≡ only b x + only b y
only_add true x y = refl
only_add false x y = refl

pub only_zero : (b : Bool) → only b 0 ≡ 0
only_zero true = refl
only_zero false = refl

pub only_le : (b : Bool) (x : ℕ) → only b x ≤ x
only_le true x = le_refl x
only_le false x = omega arith

-- One number more, at the end.
pub sum_last : (n : ℕ) (f : ℕ → ℕ) → sum (suc n) f ≡ sum n f + f n
unfolding sum
sum_last zero f = omega arith
sum_last (suc n) f = let r = sum_last n (λ v. f (suc v)) in omega arith

pub sum_more : (m n : ℕ) (f : ℕ → ℕ) → m ≤ n → sum m f ≤ sum n f
unfolding sum
sum_more zero n f h = omega arith
sum_more (suc m) zero f h = absurd (omega arith)
sum_more (suc m) (suc n) f h = let r = sum_more m n (λ v. f (suc v)) (omega arith) in omega arith

pub sum_split : (m n : ℕ) (f : ℕ → ℕ) → sum (m + n) f ≡ sum m f + sum n (λ v. f (m + v))
unfolding sum
sum_split zero n f =
    let e : 0 + n ≡ n = omega arith in
    ap (λ (z : ℕ). sum z f) e ∙ (let r = sum_ext n f (λ v. f (0 + v)) (λ v p. ap f (let q : v ≡ 0 + v = omega arith in q)) in omega arith)
sum_split (suc m) n f =
    let e : suc m + n ≡ suc (m + n) = omega arith in
    ap (λ (z : ℕ). sum z f) e ∙
    (let r = sum_split m n (λ v. f (suc v)) in let s = sum_ext n (λ v. f (suc (m + v))) (λ v. f (suc m + v))
    (λ v p. ap f (let q : suc (m + v) ≡ suc m + v = omega arith in q)) in omega arith)
