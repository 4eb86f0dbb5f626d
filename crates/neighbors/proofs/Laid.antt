-- Slices that hold places in front: what lies there, and what one more stay leaves in them.
use mathlib.Core.Path.{◌≡◌, refl, sym, ap, ◌∙◌, subst}
use mathlib.Core.List.{List, [], ◌∷◌}
use Prim.Native.Nat.{ℕ, suc, ◌+◌, ◌<◌, ◌≤◌}
use native.Mathlib.Omega.{arith}
use lib.ListN.{length, get_or, set, take, drop, length-set}
use lib.Seq.{drop-set-lt, take-set-lt, take-suc-set, length-take-le, get_or-take}
use lib.Ieee.{Float}
use Rattle.lists.specs.Lists.{overlay}
use Rattle.lists.proofs.Overlay.{take_front, overlay_front, overlay_over}
use Rattle.std.specs.Prelude.{Option, Some, None}
use Rattle.distance.specs.declared.Point.{Point}
use Rattle.distance.specs.Distance.{points}
use Rattle.neighbors.specs.Places.{Place, place_of, sighted, places_in, place_xs, place_ys}
use Rattle.neighbors.specs.StepsPlaces.{stay_count, sighted_within, place_counts, place_points, front, PlaceFound, Laid, OneMoreLaid}
use Rattle.neighbors.proofs.Sighted.{length_places_in, sighted_old, sighted_new, length_old, length_new, count_le, count_in}
use Rattle.neighbors.proofs.Search.{found_some, found_no}
use Rattle.neighbors.proofs.Within.{within_on, within_stop, counted_within, counted_beyond, length_place_xs, length_place_ys, length_place_counts, places_columns, place_xs_in, place_ys_in, place_counts_in, place_points_in}

-- ---- the front of longer slices

module _ (xs ys : List Float) (cs : List ℕ) (n : ℕ) (p : length ys ≡ length xs) (q : length cs ≡ length xs) (h : n ≤ length xs) where
  length_xs : length (take n xs) ≡ n
  length_xs = length-take-le n xs h

  length_ys : length (take n ys) ≡ length (take n xs)
  length_ys = length-take-le n ys (omega arith) ∙ sym length_xs

  length_cs : length (take n cs) ≡ length (take n xs)
  length_cs = length-take-le n cs (omega arith) ∙ sym length_xs

  pub length_front : length (front xs ys cs n) ≡ n
  length_front = length_places_in (take n xs) (take n ys) (take n cs) length_ys length_cs ∙ length_xs

  count_front : (i : ℕ) → i < n → get_or cs i 0 ≤ stay_count (front xs ys cs n)
  count_front i k =
      let e = count_in (take n xs) (take n ys) (take n cs) i length_ys length_cs ∙ get_or-take n cs i 0 k in
      subst (λ (z : ℕ). z ≤ stay_count (front xs ys cs n)) e (count_le (front xs ys cs n) i)

-- ---- places laid over the front of slices

module _ (xs ys : List Float) (cs : List ℕ) (xs' ys' : List Float) (cs' : List ℕ) where
  -- Slices that differ from others in the first n places only.
  laid_front : (n : ℕ) → length ys' ≡ length xs' → length cs' ≡ length xs' → n ≤ length xs' → drop n xs' ≡ drop n xs → drop n ys' ≡ drop n ys
      → drop n cs' ≡ drop n cs → Laid (front xs' ys' cs' n) xs ys cs xs' ys' cs'
  laid_front n p q h a b c = (
    overlay_front n xs xs' h a ∙ ap (λ (l : List Float). overlay l xs) (sym (place_xs_in tx ty tc ey ec)),
    overlay_front n ys ys' (omega arith) b ∙ ap (λ (l : List Float). overlay l ys) (sym (place_ys_in tx ty tc ey ec)),
    overlay_front n cs cs' (omega arith) c ∙ ap (λ (l : List ℕ). overlay l cs) (sym (place_counts_in tx ty tc ey ec)),
  )
    where
      tx : List Float
      tx = take n xs'

      ty : List Float
      ty = take n ys'

      tc : List ℕ
      tc = take n cs'

      ey : length ty ≡ length tx
      ey = length_ys xs' ys' cs' n p q h

      ec : length tc ≡ length tx
      ec = length_cs xs' ys' cs' n p q h

  -- The places in front of such slices are ps.
  pub front_laid : (ps : List Place) (n : ℕ) → n ≡ length ps → Laid ps xs ys cs xs' ys' cs' → front xs' ys' cs' n ≡ ps
  front_laid ps n e l =
      let x = take_front (place_xs ps) xs xs' n (e ∙ sym (length_place_xs ps)) l.0 in
      let y = take_front (place_ys ps) ys ys' n (e ∙ sym (length_place_ys ps)) l.1 in
      let c = take_front (place_counts ps) cs cs' n (e ∙ sym (length_place_counts ps)) l.2 in
      rw (x, y, c) (places_columns ps)

  -- Over places in front no fewer are laid.
  pub laid_over : (ps qs : List Place) (xs₀ ys₀ : List Float) (cs₀ : List ℕ) → Laid ps xs₀ ys₀ cs₀ xs ys cs → length ps ≤ length qs
      → Laid qs xs ys cs xs' ys' cs' → Laid qs xs₀ ys₀ cs₀ xs' ys' cs'
  laid_over ps qs xs₀ ys₀ cs₀ a h b =
      let x = overlay_over (place_xs ps) (place_xs qs) xs₀ (omega (arith, length_place_xs ps, length_place_xs qs)) in
      let y = overlay_over (place_ys ps) (place_ys qs) ys₀ (omega (arith, length_place_ys ps, length_place_ys qs)) in
      let c = overlay_over (place_counts ps) (place_counts qs) cs₀ (omega (arith, length_place_counts ps, length_place_counts qs)) in
      (b.0 ∙ ap (overlay (place_xs qs)) a.0 ∙ x, b.1 ∙ ap (overlay (place_ys qs)) a.1 ∙ y, b.2 ∙ ap (overlay (place_counts qs)) a.2 ∙ c)

  pub laid_as : (ps qs : List Place) → ps ≡ qs → Laid ps xs ys cs xs' ys' cs' → Laid qs xs ys cs xs' ys' cs'
  laid_as ps qs e l = subst (λ (z : List Place). Laid z xs ys cs xs' ys' cs') e l

-- ---- what `sight` ensures, by its three ways

module _ (xs ys : List Float) (cs : List ℕ) (n : ℕ) (m : Point) (p : length ys ≡ length xs) (q : length cs ≡ length xs) (h : n ≤ length xs) where
  abbrev before : List Place
  before = front xs ys cs n

  abbrev within : List Place
  within = sighted_within (length xs) before (m ∷ [])

  fx : length (take n xs) ≡ n
  fx = length_xs xs ys cs n p q h

  fy : length (take n ys) ≡ length (take n xs)
  fy = length_ys xs ys cs n p q h

  fc : length (take n cs) ≡ length (take n xs)
  fc = length_cs xs ys cs n p q h

  ff : length before ≡ n
  ff = length_front xs ys cs n p q h

  there : place_points before ≡ points (take n xs) (take n ys)
  there = sym (place_points_in (take n xs) (take n ys) (take n cs) fy fc)

  -- There is room.
  room : length (sighted before m) ≤ length xs → within ≡ sighted before m
  unfolding sighted_within
  room l = within_on (length xs) before m [] l

  module _ {o : Option ℕ} (found : PlaceFound (points (take n xs) (take n ys)) m o) (i : ℕ) (d : o ≡ Some i) where
    at : (i ≡ place_of before m) × (i < length before)
    at = found_some before m i (sym d ∙ found before there)

    e : i ≡ place_of before m
    e = at.0

    k : i < n
    k = omega (arith, at.1, ff)

    old : front xs ys (set cs i (get_or cs i 0 + 1)) n ≡ sighted before m
    old =
        rw (take-set-lt n cs i (get_or cs i 0 + 1) k) (
        subst (λ (z : ℕ). places_in (take n xs) (take n ys) (set (take n cs) z (get_or cs z 0 + 1)) ≡ sighted before m) (sym e) (
        let z = place_of before m in
        let zn : z < n = omega (arith, e, k) in
        let a : get_or cs z 0 + 1 ≡ suc (get_or (take n cs) z 0) = ap (λ (w : ℕ). w + 1) (sym (get_or-take n cs z 0 zn)) ∙ (omega arith) in
        ap (λ (w : ℕ). places_in (take n xs) (take n ys) (set (take n cs) z w)) a
        ∙ sighted_old (take n xs) (take n ys) (take n cs) m fy fc (omega (arith, fx))))

    pub sight_place : i < n
    sight_place = k

    pub sight_few : get_or cs i 0 ≤ stay_count before
    sight_few = count_front xs ys cs n p q h i k

    pub sight_again : OneMoreLaid xs ys cs n m (Some n) xs ys (set cs i (get_or cs i 0 + 1))
    sight_again =
        let a : length (sighted before m) ≡ n = length_old before m (omega (arith, e, ff, k)) ∙ ff in
        let l = laid_front xs ys cs xs ys cs' n p (length-set cs i (get_or cs i 0 + 1) ∙ q) h refl refl (drop-set-lt n cs i (get_or cs i 0 + 1) k) in
        (counted_within (length xs) (sighted before m) n (sym a) h, laid_as xs ys cs xs ys cs' (front xs ys cs' n) within (old ∙ sym (room (omega arith))) l)
      where
        cs' : List ℕ
        cs' = set cs i (get_or cs i 0 + 1)

  module _ {o : Option ℕ} (found : PlaceFound (points (take n xs) (take n ys)) m o) (d : o ≡ None) where
    none : length before ≤ place_of before m
    none = found_no before m (sym d ∙ found before there)

    more : n + 1 ≡ length (sighted before m)
    more = omega (arith, length_new before m none, ff)

    pub sight_full : length xs ≤ n → OneMoreLaid xs ys cs n m None xs ys cs
    sight_full l =
        let stop = within_stop (length xs) before m [] (omega (arith, more)) in (
          counted_beyond (length xs) (sighted before m) (omega (arith, more)),
          laid_as xs ys cs xs ys cs before within (sym stop) (laid_front xs ys cs xs ys cs n p q h refl refl refl),
        )

    new : n < length xs → front (set xs n m.x) (set ys n m.y) (set cs n 1) (suc n) ≡ sighted before m
    new l =
        rw (take-suc-set xs n m.x l, take-suc-set ys n m.y (omega arith), take-suc-set cs n 1 (omega arith))
        (sighted_new (take n xs) (take n ys) (take n cs) m fy fc (omega (arith, fx, ff, none)))

    pub sight_new : n < length xs → OneMoreLaid xs ys cs n m (Some (n + 1)) (set xs n m.x) (set ys n m.y) (set cs n 1)
    sight_new l = (
      counted_within (length xs) (sighted before m) (n + 1) more (omega arith),
      laid_as xs ys cs xs' ys' cs' (front xs' ys' cs' (suc n)) within (new l ∙ sym (room (omega (arith, more)))) laid,
    )
      where
        xs' : List Float
        xs' = set xs n m.x

        ys' : List Float
        ys' = set ys n m.y

        cs' : List ℕ
        cs' = set cs n 1

        tx : length xs' ≡ length xs
        tx = length-set xs n m.x

        laid : Laid (front xs' ys' cs' (suc n)) xs ys cs xs' ys' cs'
        laid =
            laid_front xs ys cs xs' ys' cs' (suc n) (length-set ys n m.y ∙ p ∙ sym tx) (length-set cs n 1 ∙ q ∙ sym tx) (omega (arith, tx))
            (drop-set-lt (suc n) xs n m.x (omega arith)) (drop-set-lt (suc n) ys n m.y (omega arith)) (drop-set-lt (suc n) cs n 1 (omega arith))
