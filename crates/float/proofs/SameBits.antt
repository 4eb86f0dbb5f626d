-- Bit patterns of binary64. A value that the format holds has one form, so two of them agree in their bits exactly when they are the same data (`same_bits_lem`): 0.0 and -0.0 differ.
-- What code compares by `f64::to_bits` is `same_bits`.
use mathlib.Core.Path.{◌≡◌, refl, sym, ap, ◌∙◌, subst}
use mathlib.Core.Logic.{◌↔◌}
use mathlib.Core.Bool.{Bool, true, false}
use Prim.Native.Nat.{ℕ}
use borrow.Author.Tests.{eqb-true, eq-eqb, ne_eqb}
use lib.Dec.{T, eqb}
use lib.Ieee.{Float, is_nan, binary64, fits, to_bits, of_bits}
use lib.Ieee.Bits.{of_bits-to_bits}
use Rattle.float.specs.Binary64.{same_bits}
use Rattle.float.proofs.Special.{the_nan}

pub bits_same : (x y : Float) → T (fits binary64 x) → T (fits binary64 y) → to_bits binary64 x ≡ to_bits binary64 y → x ≡ y
bits_same x y f g e = sym (of_bits-to_bits binary64 x f) ∙ ap (λ (b : ℕ). of_bits binary64 b) e ∙ of_bits-to_bits binary64 y g

pub same_bits_lem : (x y : Float) → T (fits binary64 x) → T (fits binary64 y) → (same_bits x y ≡ true) ↔ (x ≡ y)
unfolding same_bits
same_bits_lem x y f g = (
  λ e. bits_same x y f g (eqb-true (to_bits binary64 x) (to_bits binary64 y) e),
  λ e. eq-eqb (to_bits binary64 x) (to_bits binary64 y) (ap (λ (z : Float). to_bits binary64 z) e),
)

pub same_bits_refl : (x : Float) → same_bits x x ≡ true
unfolding same_bits
same_bits_refl x = eq-eqb (to_bits binary64 x) (to_bits binary64 x) refl

pub same_bits_sym : (x y : Float) → same_bits x y ≡ true → same_bits y x ≡ true
unfolding same_bits
same_bits_sym x y e = eq-eqb (to_bits binary64 y) (to_bits binary64 x) (sym (eqb-true (to_bits binary64 x) (to_bits binary64 y) e))

pub same_bits_trans : (x y z : Float) → same_bits x y ≡ true → same_bits y z ≡ true → same_bits x z ≡ true
unfolding same_bits
same_bits_trans x y z e h = eq-eqb (to_bits binary64 x) (to_bits binary64 z) (eqb-true (to_bits binary64 x) (to_bits binary64 y) e ∙ eqb-true (to_bits binary64 y) (to_bits binary64 z) h)

-- A NaN has the pattern of a NaN alone.
module _ (x y : Float) (f : fits binary64 x ≡ true) (g : fits binary64 y ≡ true) where
  same : to_bits binary64 x ≡ to_bits binary64 y → is_nan x ≡ is_nan y
  same p = ap is_nan (bits_same x y (subst T (sym f) tt) (subst T (sym g) tt) p)

  pub nan_left : is_nan x ≡ true → is_nan y ≡ same_bits x y
  unfolding same_bits
  nan_left h = go (is_nan y) refl
    where
      go : (b : Bool) → is_nan y ≡ b → b ≡ eqb (to_bits binary64 x) (to_bits binary64 y)
      go true e = sym (eq-eqb (to_bits binary64 x) (to_bits binary64 y) (ap (to_bits binary64) (the_nan x h ∙ sym (the_nan y e))))
      go false e = sym (ne_eqb (to_bits binary64 x) (to_bits binary64 y) (λ p. let z = same p in absurd (cc)))

  pub nan_right : is_nan x ≡ false → is_nan y ≡ true → false ≡ same_bits x y
  unfolding same_bits
  nan_right h k = sym (ne_eqb (to_bits binary64 x) (to_bits binary64 y) (λ p. let z = same p in absurd (cc)))
