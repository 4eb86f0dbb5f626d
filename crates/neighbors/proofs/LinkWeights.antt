-- Link weights: they are whole numbers, above 0 exactly where two places link, and their sums are small.
use mathlib.Core.Path.{◌≡◌, refl, sym, ap, ◌∙◌}
use mathlib.Core.Bool.{Bool, true, false, cond}
use mathlib.Core.List.{List}
use Prim.Native.Nat.{ℕ, ◌*◌, ◌^◌, ◌<◌, ◌≤◌, max}
use native.Mathlib.Nat.{max_comm, max-le, le-max_left, le_trans, mul-le-mul}
use native.Mathlib.Omega.{arith}
use borrow.Author.Tests.{lt-ltb}
use lib.Dec.{lit≤}
use lib.ListN.{length}
use lib.Ieee.{Float, lt, of_bits}
use Rattle.lists.proofs.Sums.{sum, sum_times}
use Rattle.float.specs.Binary64.{whole64, zero64}
use Rattle.float.proofs.Exact.{most, whole_lt, zero_whole}
use Rattle.neighbors.specs.Places.{Place, place_at}
use Rattle.neighbors.specs.StepsPlaces.{stay_count}
use Rattle.distance.specs.Distance.{Metric}
use Rattle.neighbors.specs.Links.{link, weight}
use Rattle.neighbors.proofs.Found.{Counted}
use Rattle.neighbors.proofs.Sighted.{count_le}
use Rattle.neighbors.proofs.Linked.{link_self, link_sym}

-- The weight of a link as a whole number; 0 for no link.
unfoldable pub whole_weight : Metric → Float → List Place → ℕ → ℕ → ℕ
whole_weight dist r2 ps i j = cond (link dist r2 ps i j) (max (place_at ps i).count (place_at ps j).count) 0

-- ---- whole numbers above 0

pub whole_above : (n : ℕ) → 0 < n → n ≤ most → lt zero64 (whole64 n) ≡ true
whole_above n h k = ap (λ (z : Float). lt z (whole64 n)) zero_whole ∙ whole_lt 0 n (omega arith) k ∙ lt-ltb 0 n h

pub zero_not_above : lt zero64 zero64 ≡ false
unfolding lt of_bits
zero_not_above = refl

module _ (dist : Metric) (r2 : Float) (ps : List Place) where
  -- A weight is a whole number.
  pub weight_whole : (i j : ℕ) → weight dist r2 ps i j ≡ whole64 (whole_weight dist r2 ps i j)
  unfolding weight whole_weight
  weight_whole i j = go (link dist r2 ps i j)
    where
      go : (b : Bool)
          → cond b (whole64 (max (place_at ps i).count (place_at ps j).count)) zero64 ≡ whole64
          (cond b (max (place_at ps i).count (place_at ps j).count) 0)
      go true = refl
      go false = zero_whole

  pub whole_sym : (i j : ℕ) → whole_weight dist r2 ps i j ≡ whole_weight dist r2 ps j i
  unfolding whole_weight
  whole_sym i j = rw (link_sym dist r2 ps i j, max_comm (place_at ps i).count (place_at ps j).count)

  pub whole_self : (i : ℕ) → whole_weight dist r2 ps i i ≡ 0
  unfolding whole_weight
  whole_self i = rw (link_self dist r2 ps i)

  pub whole_le : (i j : ℕ) → whole_weight dist r2 ps i j ≤ stay_count ps
  unfolding whole_weight
  whole_le i j = go (link dist r2 ps i j)
    where
      go : (b : Bool) → cond b (max (place_at ps i).count (place_at ps j).count) 0 ≤ stay_count ps
      go true = max-le (count_le ps i) (count_le ps j)
      go false = omega arith

  pub linked_above : (i j : ℕ) → Counted ps → i < length ps → link dist r2 ps i j ≡ true → 0 < whole_weight dist r2 ps i j
  unfolding whole_weight
  linked_above i j c h e = rw e (let a = c i h in let b = le-max_left (place_at ps i).count (place_at ps j).count in omega arith)

  pub unlinked_none : (i j : ℕ) → link dist r2 ps i j ≡ false → whole_weight dist r2 ps i j ≡ 0
  unfolding whole_weight
  unlinked_none i j e = rw e

  -- A weight is above 0 exactly where two places link.
  pub weight_above : (i j : ℕ) → Counted ps → stay_count ps ≤ most → i < length ps → lt zero64 (weight dist r2 ps i j) ≡ link dist r2 ps i j
  weight_above i j c k h = go (link dist r2 ps i j) refl
    where
      go : (b : Bool) → link dist r2 ps i j ≡ b → lt zero64 (weight dist r2 ps i j) ≡ b
      go true e = ap (lt zero64) (weight_whole i j) ∙ whole_above (whole_weight dist r2 ps i j) (linked_above i j c h e) (le_trans (whole_le i j) k)
      go false e = ap (lt zero64) (weight_whole i j ∙ ap whole64 (unlinked_none i j e) ∙ sym zero_whole) ∙ zero_not_above

  -- The weights of all pairs of up to 512 places with up to 65,536 stays add up to at most 2^36, and so do those of any of them.
  pub weights_few : (f : ℕ → ℕ) (n : ℕ) → n ≤ 512 → stay_count ps ≤ 65536 → sum n (λ u. sum n (λ v. whole_weight dist r2 ps (f u) (f v))) ≤ 2 ^ 36
  weights_few f n h k =
      let a : sum n (λ u. sum n (λ v. whole_weight dist r2 ps (f u) (f v))) ≤ n * (n * stay_count ps) =
      sum_times n (n * stay_count ps) (λ u. sum n (λ v. whole_weight dist r2 ps (f u) (f v))) (λ u p. sum_times n (stay_count ps)
      (λ v. whole_weight dist r2 ps (f u) (f v)) (λ v q. whole_le (f u) (f v))) in
      le_trans a (le_trans (mul-le-mul h (mul-le-mul h k)) (lit≤ tt))
