-- The loop of `distinct` over the medians.
use mathlib.Core.Path.{◌≡◌, refl, sym, ap, ◌∙◌}
use mathlib.Core.List.{List, [], ◌∷◌}
use Prim.Native.Nat.{ℕ, ◌+◌, ◌<◌, ◌≤◌}
use native.Mathlib.Omega.{arith}
use lib.ListN.{length}
use lib.Ieee.{Float}
use Rattle.lists.specs.Lists.{overlay}
use Rattle.std.specs.Prelude.{Option, Some, None}
use Rattle.distance.specs.declared.Point.{Point}
use Rattle.neighbors.specs.Places.{Place, sighted, sighted_all, places, places_in, place_xs, place_ys}
use Rattle.neighbors.specs.StepsPlaces.{stay_count, sighted_within, places_within, place_counts, front, Laid, OneMoreLaid, DistinctLaid}
use Rattle.neighbors.proofs.Sighted.{longer, longer_all, counted_one}
use Rattle.neighbors.proofs.Within.{within_on, within_stop, counted_within, counted_beyond, within_some, within_none}
use Rattle.neighbors.proofs.Laid.{length_front, front_laid, laid_over, laid_as}

-- Of the medians ms those in `left` are still to come: the n places of the others stand in front, and behind them what was there.
pub record Reached (ms : List Point) (xs₀ ys₀ : List Float) (cs₀ : List ℕ) (xs ys : List Float) (cs : List ℕ) (n : ℕ) (left : List Point) : Type 0 where
  pub rest : sighted_all (front xs ys cs n) left ≡ places ms
  pub within : sighted_within (length xs₀) (front xs ys cs n) left ≡ places_within (length xs₀) ms
  pub laid : Laid (front xs ys cs n) xs₀ ys₀ cs₀ xs ys cs
  pub few : n ≤ length xs₀
  pub counted : stay_count (front xs ys cs n) + length left ≡ length ms

module _ (ms : List Point) (xs₀ ys₀ : List Float) (cs₀ : List ℕ) where
  pub distinct_start : (left : List Point) → left ≡ ms → Reached ms xs₀ ys₀ cs₀ xs₀ ys₀ cs₀ 0 left
  unfolding places places_within places_in stay_count overlay place_xs place_ys place_counts
  distinct_start left e = rw e record { rest = refl; within = refl; laid = (refl, refl, refl); few = omega arith; counted = omega arith }

  module _ (xs ys : List Float) (cs : List ℕ) (n : ℕ) {qs : List Point} (at : Reached ms xs₀ ys₀ cs₀ xs ys cs n qs)
      (m : Point) (left : List Point) (first : qs ≡ m ∷ left) (l : length xs ≡ length xs₀) where
    abbrev before : List Place
    before = front xs ys cs n

    abbrev next : List Place
    next = sighted before m

    step : sighted_all next left ≡ places ms
    unfolding sighted_all
    step = ap (sighted_all before) (sym first) ∙ at.rest

    step_within : sighted_within (length xs₀) before (m ∷ left) ≡ places_within (length xs₀) ms
    step_within = ap (sighted_within (length xs₀) before) (sym first) ∙ at.within

    -- What `sight` gave.
    module _ (xs' ys' : List Float) (cs' : List ℕ) {o : Option ℕ} (e : OneMoreLaid xs ys cs n m o xs' ys' cs') where
      laid_now : (qs : List Place) → sighted_within (length xs) before (m ∷ []) ≡ qs → length before ≤ length qs → Laid qs xs₀ ys₀ cs₀ xs' ys' cs'
      laid_now qs a b =
          laid_over xs ys cs xs' ys' cs' before qs xs₀ ys₀ cs₀ at.laid b
          (laid_as xs ys cs xs' ys' cs' (sighted_within (length xs) before (m ∷ [])) qs a e.1)

      pub distinct_on : (r : ℕ) → o ≡ Some r → Reached ms xs₀ ys₀ cs₀ xs' ys' cs' r left
      distinct_on r d = record {
        rest = ap (λ (z : List Place). sighted_all z left) f ∙ step;
        within = ap (λ (z : List Place). sighted_within (length xs₀) z left) f ∙ sym (within_on (length xs₀) before m left (omega (arith, many))) ∙ step_within;
        laid = laid_as xs₀ ys₀ cs₀ xs' ys' cs' next (front xs' ys' cs' r) (sym f) t;
        few = omega (arith, many);
        counted = omega (arith, ap stay_count f, counted_one before m, at.counted, ap length first);
      }
        where
          many : (r ≡ length next) × (r ≤ length xs)
          many = within_some (length xs) next r (sym d ∙ e.0)

          w : sighted_within (length xs) before (m ∷ []) ≡ next
          w = unfold sighted_within in within_on (length xs) before m [] (omega (arith, many))

          t : Laid next xs₀ ys₀ cs₀ xs' ys' cs'
          t = laid_now next w (longer before m)

          f : front xs' ys' cs' r ≡ next
          f = front_laid xs₀ ys₀ cs₀ xs' ys' cs' next r many.0 t

      pub distinct_full : o ≡ None → {z : Option ℕ} → z ≡ None → DistinctLaid ms xs₀ ys₀ cs₀ z xs' ys' cs'
      distinct_full d g =
          let stop = sym (within_stop (length xs₀) before m left (omega (arith, many))) ∙ step_within in
          let laid = laid_now before (within_stop (length xs) before m [] many) (omega arith) in
          let end = laid_as xs₀ ys₀ cs₀ xs' ys' cs' before (places_within (length xs₀) ms) stop laid in
          (g ∙ counted_beyond (length xs₀) (places ms) over, end.0, end.1, end.2)
        where
          many : length xs < length next
          many = within_none (length xs) next (sym d ∙ e.0)

          over : length xs₀ < length (places ms)
          over = rw step at (let a = longer_all next left in let z : length xs₀ < length (sighted_all next left) = omega (arith, many) in z)

  pub distinct_end : (xs ys : List Float) (cs : List ℕ) (n : ℕ) (left : List Point) → Reached ms xs₀ ys₀ cs₀ xs ys cs n left → length ys ≡ length xs
      → length cs ≡ length xs → length xs ≡ length xs₀ → left ≡ [] → DistinctLaid ms xs₀ ys₀ cs₀ (Some n) xs ys cs
  distinct_end xs ys cs n left at p q l none =
      let end = laid_as xs₀ ys₀ cs₀ xs ys cs (front xs ys cs n) (places_within (length xs₀) ms) b at.laid in
      (counted_within (length xs₀) (places ms) n c at.few, end.0, end.1, end.2)
    where
      a : front xs ys cs n ≡ places ms
      a = unfold sighted_all in ap (sighted_all (front xs ys cs n)) (sym none) ∙ at.rest

      b : front xs ys cs n ≡ places_within (length xs₀) ms
      b = unfold sighted_within in ap (sighted_within (length xs₀) (front xs ys cs n)) (sym none) ∙ at.within

      c : n ≡ length (places ms)
      c = sym (length_front xs ys cs n p q (omega (arith, at.few))) ∙ ap length a
