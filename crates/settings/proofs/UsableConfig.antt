-- What holds of settings that their check accepts: the rules' 1 to 6, 23 and 24 do not.
use mathlib.Core.Path.{◌≡◌, refl, sym, ◌∙◌}
use mathlib.Core.Bool.{Bool, true, false, not, ◌&&◌, false≢true}
use Prim.Native.Nat.{◌≤◌}
use native.Mathlib.Omega.{arith}
use borrow.Author.Tests.{leb-false, not-false}
use lib.Dec.{leb}
use lib.Ieee.{Float, le, lt, of_bits}
use Rattle.lists.proofs.Tests.{or_left, or_right}
use Rattle.float.specs.Binary64.{zero64, whole64, finite}
use Rattle.float.proofs.Order.{le_is, finite_number}
use Rattle.std.specs.Prelude.{Ok}
-- Named so that the examples are checked before these lemmas.
use Rattle.settings.specs.Examples
use Rattle.settings.specs.declared.config.Config.{Config}
use Rattle.settings.specs.declared.refusal.Refusal.TheVariants.{R1, R2, MinStayingTime, MaxTimeBetween, TimeBounds, MinSize, MinSpatialResolution, ResolutionBounds}
use Rattle.settings.specs.Settings.{unusable, least, negative, out_of_bounds, check_time_bounds, check_resolution, check_config}
use Rattle.settings.proofs.Turns.{passed, turn_first, turn_rest}

-- Finite and above 0.
pub record Positive (x : Float) : Type 0 where
  pub is_finite : finite x ≡ true
  pub above_zero : lt zero64 x ≡ true

-- A zero, or from 2^-10 to 10^6.
pub record Resolution (x : Float) : Type 0 where
  pub is_finite : finite x ≡ true
  pub not_below : lt x zero64 ≡ false
  pub from_least : lt zero64 x ≡ true → lt x least ≡ false
  pub to_largest : lt (whole64 1000000) x ≡ false

pub record UsableConfig (c : Config) : Type 0 where
  pub r1_positive : Positive c.r1
  pub r2_positive : Positive c.r2
  pub staying_positive : Positive c.min_staying_time
  pub between_positive : Positive c.max_time_between
  pub between_longer : lt c.min_staying_time c.max_time_between ≡ true
  pub size : 2 ≤ c.min_size
  pub resolution : Resolution c.min_spatial_resolution

-- `<=` that fails is `>`.
above : (x y : Float) → finite x ≡ true → finite y ≡ true → le x y ≡ false → lt y x ≡ true
above x y p q h = not-false (lt y x) (sym (le_is x y (finite_number x p) (finite_number y q)) ∙ h)

zero_finite : finite zero64 ≡ true
unfolding finite of_bits
zero_finite = refl

positive : (x : Float) → unusable x ≡ false → Positive x
unfolding unusable
positive x h =
    let p : finite x ≡ true = not-false (finite x) (or_left (not (finite x)) (le x zero64) h) in
    record { is_finite = p; above_zero = above x zero64 p zero_finite (or_right (not (finite x)) (le x zero64) h) }

between : (a b : Bool) → (a && b) ≡ false → a ≡ true → b ≡ false
between true b h k = h
between false b h k = absurd (false≢true k)

resolution : (x : Float) → check_resolution x ≡ Ok tt → Resolution x
unfolding check_resolution negative out_of_bounds
resolution x h =
    let n = passed (negative x) MinSpatialResolution (turn_first _ _ h) in
    let o = passed (out_of_bounds x) ResolutionBounds (turn_first _ _ (turn_rest _ _ h)) in
    record {
      is_finite = not-false (finite x) (or_left (not (finite x)) (lt x zero64) n);
      not_below = or_right (not (finite x)) (lt x zero64) n;
      from_least = between (lt zero64 x) (lt x least) (or_left (lt zero64 x && lt x least) (lt (whole64 1000000) x) o);
      to_largest = or_right (lt zero64 x && lt x least) (lt (whole64 1000000) x) o;
    }

pub config_accepted : (c : Config) → check_config c ≡ Ok tt → UsableConfig c
unfolding check_config
config_accepted c h =
    record {
      r1_positive = positive c.r1 (passed (unusable c.r1) R1 (turn_first _ _ h));
      r2_positive = positive c.r2 (passed (unusable c.r2) R2 (turn_first _ _ (turn_rest _ _ h)));
      staying_positive = s;
      between_positive = b;
      between_longer = unfold check_time_bounds in above c.max_time_between c.min_staying_time b.is_finite s.is_finite
          (passed (le c.max_time_between c.min_staying_time) TimeBounds (turn_first _ _ (turn_rest _ _ (turn_rest _ _ bounds))));
      size = unfold check_time_bounds in let z = leb-false c.min_size 1
          (passed (leb c.min_size 1) MinSize (turn_first _ _ (turn_rest _ _ (turn_rest _ _ (turn_rest _ _ bounds))))) in omega arith;
      resolution = resolution c.min_spatial_resolution (turn_first _ _ (turn_rest _ _ (turn_rest _ _ (turn_rest _ _ h))));
    }
  where
    bounds : check_time_bounds c ≡ Ok tt
    bounds = turn_first _ _ (turn_rest _ _ (turn_rest _ _ h))

    s : Positive c.min_staying_time
    s = unfold check_time_bounds in positive c.min_staying_time (passed (unusable c.min_staying_time) MinStayingTime (turn_first _ _ bounds))

    b : Positive c.max_time_between
    b = unfold check_time_bounds in positive c.max_time_between (passed (unusable c.max_time_between) MaxTimeBetween (turn_first _ _ (turn_rest _ _ bounds)))
