-- A case of a fit as the lists write it, from the place i of the text t on: settings, trace lengths, fixes. Definitions only.
use Rattle.std.specs.Prelude.{◌≡◌, ℕ, zero, suc, ◌+◌, ◌*◌, min, List, eqb, length, set, Float}
use Rattle.std.specs.Float.{binary64}
use Rattle.std.specs.Float.Ieee.{of_bits}
use Rattle.settings.specs.declared.config.Config.{Config}
use Rattle.replay.specs.Numbers.{skip, number_at}

-- The float whose bits are number n.
unfoldable pub float_at : List ℕ → ℕ → ℕ → Float
float_at t i n = of_bits binary64 (number_at t i n)

-- r1 r2 single stay gap size resolution seed.
unfoldable pub settings_at : List ℕ → ℕ → Config
unfolding float_at
settings_at t i = record {
  r1 = float_at t i 0;
  r2 = float_at t i 1;
  label_singleton = eqb (number_at t i 2) 1;
  min_staying_time = float_at t i 3;
  max_time_between = float_at t i 4;
  min_size = number_at t i 5;
  min_spatial_resolution = float_at t i 6;
  seed = number_at t i 7;
}

-- A number in 32 bits, and in 8: the largest there is where it is larger.
abbrev pub length_of : ℕ → ℕ
length_of n = min n 4294967295

abbrev pub mark_of : ℕ → ℕ
mark_of n = min n 255

-- l with f k at each place k below n; what is past the end of l is left out.
unfoldable pub filled : {A : Type 0} → (ℕ → A) → ℕ → List A → List A
filled f zero l = l
filled f (suc n) l = set (filled f n l) n (f n)

-- As many trace lengths as `lens` is long were read; `lens'` are they, and `next` is the place after them.
pub record LensRead (t : List ℕ) (i : ℕ) (lens lens' : List ℕ) (next : ℕ) : Type 0 where
  pub lens_read : lens' ≡ filled (λ k. length_of (number_at t i k)) (length lens) lens
  pub place : next ≡ skip t i (length lens)

-- n fixes `x y mark time` were read into four columns; the primed lists are the columns then, and `next` is the place after the fixes.
pub record FixesRead (t : List ℕ) (i n : ℕ) (xs ys times : List Float) (marks : List ℕ) (xs' ys' times' : List Float) (marks' : List ℕ) (next : ℕ) : Type 0 where
  pub xs_read : xs' ≡ filled (λ k. float_at t i (4 * k)) n xs
  pub ys_read : ys' ≡ filled (λ k. float_at t i (4 * k + 1)) n ys
  pub marks_read : marks' ≡ filled (λ k. mark_of (number_at t i (4 * k + 2))) n marks
  pub times_read : times' ≡ filled (λ k. float_at t i (4 * k + 3)) n times
  pub place : next ≡ skip t i (4 * n)
