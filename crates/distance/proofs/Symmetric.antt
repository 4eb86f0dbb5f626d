-- The distance is symmetric: the differences agree in size, and so their squares agree.
use mathlib.Core.Path.{◌≡◌, refl, sym, ap, ap₂, ◌∙◌}
use Prim.Native.Nat.{ℕ, ◌+◌, ◌-◌, ◌*◌}
use native.Mathlib.Nat.{add_comm, mul_comm}
use native.Mathlib.Omega.{arith}
use mathlib.Core.Bool.{Bool, true, false, not, ◌&&◌, beq, cond}
use borrow.Author.Tests.{ltb-true, ltb-false}
use lib.Dec.{ltb}
use lib.Ieee.{Float, nan, inf, fin, binary64, up, down, round, sum, add, sub, mul, neg}
use Rattle.float.specs.Root.{root}
use Rattle.distance.specs.declared.Point.{Point}
use Rattle.distance.specs.Distance.{euclidean}
use Rattle.distance.proofs.Size.{abs, round_abs}

-- a square does not turn on the sign
square_abs : (x : Float) → mul binary64 x x ≡ mul binary64 (abs x) (abs x)
unfolding mul
square_abs nan = refl
square_abs (inf true) = refl
square_abs (inf false) = refl
square_abs (fin true m e) = refl
square_abs (fin false m e) = refl

-- ±a / c + ±b / c with the two opposite signs, either way round
sum_abs : (s t : Bool) (a b c : ℕ) → abs (sum binary64 s a (not t) b c) ≡ abs (sum binary64 t b (not s) a c)
unfolding sum
sum_abs s t a b c = go s t (ltb a b) (ltb b a) refl refl
  where
    same : (x y : Bool) (v w : ℕ) → v ≡ w → abs (round binary64 x v c) ≡ abs (round binary64 y w c)
    same x y v w e = round_abs binary64 x v c ∙ ap (λ (z : ℕ). round binary64 false z c) e ∙ sym (round_abs binary64 y w c)

    less : (p q : Bool) → ltb a b ≡ p → ltb b a ≡ q → (s t u v : Bool)
        → abs (cond p (round binary64 s (b - a) c) (round binary64 t (a - b) c)) ≡ abs (cond q (round binary64 u (a - b) c) (round binary64 v (b - a) c))
    less true true e f s t u v = let x = ltb-true a b e in let y = ltb-true b a f in absurd (omega arith)
    less true false e f s t u v = same s v (b - a) (b - a) refl
    less false true e f s t u v = same t u (a - b) (a - b) refl
    less false false e f s t u v = let x = ltb-false a b e in let y = ltb-false b a f in same t v (a - b) (b - a) (omega arith)

    go : (s t p q : Bool) → ltb a b ≡ p → ltb b a ≡ q
        → abs (cond (beq s (not t)) (round binary64 s (a + b) c) (cond p (round binary64 (not t) (b - a) c) (round binary64 (s && q) (a - b) c)))
        ≡ abs (cond (beq t (not s)) (round binary64 t (b + a) c) (cond q (round binary64 (not s) (a - b) c) (round binary64 (t && p) (b - a) c)))
    go true true p q e f = less p q e f false (true && q) false (true && p)
    go true false p q e f = same true false (a + b) (b + a) (add_comm a b)
    go false true p q e f = same false true (a + b) (b + a) (add_comm a b)
    go false false p q e f = less p q e f true (false && q) true (false && p)

sub_abs : (x y : Float) → abs (sub binary64 x y) ≡ abs (sub binary64 y x)
unfolding sub add neg
sub_abs nan nan = refl
sub_abs nan (inf t) = refl
sub_abs nan (fin t n d) = refl
sub_abs (inf s) nan = refl
sub_abs (inf true) (inf true) = refl
sub_abs (inf true) (inf false) = refl
sub_abs (inf false) (inf true) = refl
sub_abs (inf false) (inf false) = refl
sub_abs (inf s) (fin t n d) = refl
sub_abs (fin s m e) nan = refl
sub_abs (fin s m e) (inf t) = refl
sub_abs (fin s m e) (fin t n d) =
    sum_abs s t (m * up e * down d) (n * up d * down e) (down e * down d)
    ∙ ap (λ (c : ℕ). abs (sum binary64 t (n * up d * down e) (not s) (m * up e * down d) c)) (mul_comm (down e) (down d))

square : (x y : Float) → mul binary64 (sub binary64 x y) (sub binary64 x y) ≡ mul binary64 (sub binary64 y x) (sub binary64 y x)
square x y = square_abs (sub binary64 x y) ∙ ap (λ (z : Float). mul binary64 z z) (sub_abs x y) ∙ sym (square_abs (sub binary64 y x))

pub symmetric : (a b : Point) → euclidean a b ≡ euclidean b a
unfolding euclidean
symmetric a b = ap₂ (λ (u v : Float). root binary64 (add binary64 u v)) (square a.x b.x) (square a.y b.y)
