-- `at_most` orders all values: it is transitive, and of two values one is at most the other.
use mathlib.Core.Path.{◌≡◌, refl, sym, ◌∙◌}
use mathlib.Core.Logic.{◌⊎◌, inl, inr}
use mathlib.Core.Bool.{Bool, true, false, not, ◌||◌, true≢false}
use lib.Dec.{T}
use lib.Ieee.{Float, le, is_nan}
use Rattle.lists.proofs.Tests.{or_true}
use Rattle.float.proofs.Order.{le_trans, le_total, le_numbers}
use Rattle.stay.specs.Ordered.{at_most}

or_none : (a b : Bool) → b ≡ false → (a || b) ≡ a
or_none true b e = refl
or_none false b e = e

number : (b : Bool) → b ≡ false → T (not b)
number true e = absurd (true≢false e)
number false e = tt

is_number : (b : Bool) → T (not b) → b ≡ false
is_number true h = absurd h
is_number false h = refl

-- NaN is above all
pub nan_above : (x e : Float) → is_nan e ≡ true → at_most x e ≡ true
unfolding at_most
nan_above x e h = or_true (le x e) (is_nan e) h

-- against a number the test is `<=`
pub at_most_number : (x e : Float) → is_nan e ≡ false → at_most x e ≡ le x e
unfolding at_most
at_most_number x e h = or_none (le x e) (is_nan e) h

pub at_most_trans : (x y z : Float) → at_most x y ≡ true → at_most y z ≡ true → at_most x z ≡ true
at_most_trans x y z h k = go (is_nan z) refl
  where
    go : (b : Bool) → is_nan z ≡ b → at_most x z ≡ true
    go true e = nan_above x z e
    go false e =
        let yz : le y z ≡ true = sym (at_most_number y z e) ∙ k in
        let xy : le x y ≡ true = sym (at_most_number x y (is_number (is_nan y) (le_numbers y z yz).0)) ∙ h in
        at_most_number x z e ∙ le_trans x y z xy yz

pub at_most_other : (x y : Float) → at_most x y ≡ false → at_most y x ≡ true
at_most_other x y h = go (is_nan x) (is_nan y) refl refl
  where
    go : (a b : Bool) → is_nan x ≡ a → is_nan y ≡ b → at_most y x ≡ true
    go true b p q = nan_above y x p
    go false true p q = absurd (true≢false (sym (nan_above x y q) ∙ h))
    go false false p q = ends (le_total x y (number (is_nan x) p) (number (is_nan y) q))
      where
        ends : (le x y ≡ true) ⊎ (le y x ≡ true) → at_most y x ≡ true
        ends (inl e) = absurd (true≢false (sym (at_most_number x y q ∙ e) ∙ h))
        ends (inr e) = at_most_number y x p ∙ e
