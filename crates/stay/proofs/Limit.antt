-- Groups whose fixes are within the coordinate limit have their median within it. On a grid of a usable step it is within the grid's limit, so the distance's bound
-- holds of the medians of stays too.
use mathlib.Core.Path.{◌≡◌, refl, sym, ap₂, subst}
use mathlib.Core.Bool.{Bool, true, false, ◌&&◌, cond}
use mathlib.Core.List.{List, [], ◌∷◌, ◌++◌, map}
use Prim.Native.Nat.{◌-◌, ◌/◌, ◌<◌}
use native.Mathlib.Omega.{arith}
use lib.ListN.{length, get_or, length-append, length-map}
use lib.Ieee.{Float, nan}
use Rattle.lists.proofs.Tests.{and_left, and_right}
use Rattle.lists.proofs.Items.{All, at_all, all_append}
use Rattle.distance.specs.declared.Point.{Point}
use Rattle.distance.specs.Limit.{limit, within, in_limit}
use Rattle.distance.proofs.Bound.{half_sum, in_grid_limit}
use Rattle.distance.proofs.GridLaws.{Step, point_within}
use Rattle.settings.specs.declared.config.Config.{Config}
use Rattle.stay.specs.Ordered.{at_most, insert_ordered, ordered_from, ordered, median}
use Rattle.trace.specs.Trace.{Fix, timed}
use Rattle.stay.specs.Stays.{middle, stay_median, joins, is_stay, groups_from, groups, medians_of, stay_medians, all_medians}
use Rattle.stay.proofs.Ordered.{insert_cons, insert_length}
use Rattle.stay.proofs.Groups.{groups_join, groups_close, groups_end}

-- ---- coordinates

abbrev In : Float → Type 0
In x = within limit x ≡ true

insert_within : (e : Float) (xs : List Float) → In e → All In xs → All In (insert_ordered e xs)
unfolding insert_ordered
insert_within e [] h a = (h, tt)
insert_within e (x ∷ xs) h a = subst (All In) (sym (insert_cons e x xs)) (go (at_most x e) (insert_within e xs h a.1))
  where
    go : (b : Bool) → All In (insert_ordered e xs) → All In (cond b (x ∷ insert_ordered e xs) (e ∷ x ∷ xs))
    go true r = (a.0, r)
    go false r = (h, a)

ordered_from_within : (acc xs : List Float) → All In acc → All In xs → All In (ordered_from acc xs)
unfolding ordered_from
ordered_from_within acc [] a b = a
ordered_from_within acc (x ∷ xs) a b = ordered_from_within (insert_ordered x acc) xs (insert_within x acc b.0 a) b.1

ordered_from_length : (acc xs : List Float) → 0 < length acc → 0 < length (ordered_from acc xs)
unfolding ordered_from
ordered_from_length acc [] h = h
ordered_from_length acc (x ∷ xs) h = ordered_from_length (insert_ordered x acc) xs (omega (arith, insert_length x acc))

ordered_some : (xs : List Float) → 0 < length xs → 0 < length (ordered xs)
unfolding ordered ordered_from
ordered_some [] h = absurd (omega arith)
ordered_some (x ∷ xs) h = ordered_from_length (insert_ordered x []) xs (omega (arith, insert_length x []))

pub median_within : (xs : List Float) → 0 < length xs → All In xs → within limit (median xs) ≡ true
unfolding median
median_within xs h a =
    half_sum (get_or xs ((length xs - 1) / 2) nan) (get_or xs (length xs / 2) nan) (at_all In xs nan a ((length xs - 1) / 2) (omega arith)) (at_all In xs nan a (length xs / 2) (omega arith))

-- ---- groups

abbrev pub FixIn : Fix → Type 0
FixIn f = in_limit f.at ≡ true

abbrev GroupIn : List Fix → Type 0
GroupIn g = (0 < length g) × All FixIn g

xs_within : (g : List Fix) → All FixIn g → All In (map (λ (f : Fix). f.at.x) g)
unfolding in_limit
xs_within [] a = tt
xs_within (f ∷ g) a = (and_left (within limit f.at.x) (within limit f.at.y) a.0, xs_within g a.1)

ys_within : (g : List Fix) → All FixIn g → All In (map (λ (f : Fix). f.at.y) g)
unfolding in_limit
ys_within [] a = tt
ys_within (f ∷ g) a = (and_right (within limit f.at.x) (within limit f.at.y) a.0, ys_within g a.1)

-- A median on the grid.
abbrev pub MedianIn : Point → Type 0
MedianIn p = in_grid_limit p ≡ true

middle_within : (g : List Fix) → GroupIn g → in_limit (middle g) ≡ true
unfolding middle in_limit ordered
middle_within g a =
    let x : List Float = map (λ (f : Fix). f.at.x) g in
    let y : List Float = map (λ (f : Fix). f.at.y) g in
    ap₂ ◌&&◌
    (median_within (ordered x) (ordered_some x (omega (arith, a.0, length-map g (λ (f : Fix). f.at.x)))) (ordered_from_within [] x tt (xs_within g a.1)))
    (median_within (ordered y) (ordered_some y (omega (arith, a.0, length-map g (λ (f : Fix). f.at.y)))) (ordered_from_within [] y tt (ys_within g a.1)))

module _ (dist : Point → Point → Float) (s : Config) where
  groups_within : (t : Bool) (g fs : List Fix) → GroupIn g → All FixIn fs → All GroupIn (groups_from dist s t g fs)
  groups_within t g [] a b = subst (All GroupIn) (sym (groups_end dist s t g)) (a, tt)
  groups_within t g (f ∷ fs) a b =
      go (joins dist s t g f) refl
      (groups_within t (g ++ (f ∷ [])) fs (simp length-append (omega arith), all_append FixIn g (f ∷ []) a.1 (b.0, tt)) b.1)
      (groups_within t (f ∷ []) fs (omega arith, (b.0, tt)) b.1)
    where
      go : (c : Bool) → joins dist s t g f ≡ c → All GroupIn (groups_from dist s t (g ++ (f ∷ [])) fs) → All GroupIn (groups_from dist s t (f ∷ []) fs)
          → All GroupIn (groups_from dist s t g (f ∷ fs))
      go true e p q = subst (All GroupIn) (sym (groups_join dist s t g f fs e)) p
      go false e p q = subst (All GroupIn) (sym (groups_close dist s t g f fs e)) (a, q)

  module _ (step : Step s.min_spatial_resolution) where
    stay_median_within : (g : List Fix) → GroupIn g → in_grid_limit (stay_median s g) ≡ true
    unfolding stay_median
    stay_median_within g a = point_within s.min_spatial_resolution (middle g) step (middle_within g a)

    medians_of_within : (t : Bool) (gs : List (List Fix)) → All GroupIn gs → All MedianIn (medians_of s t gs)
    unfolding medians_of
    medians_of_within t [] a = tt
    medians_of_within t (g ∷ gs) a = go (is_stay s t g) (medians_of_within t gs a.1)
      where
        go : (b : Bool) → All MedianIn (medians_of s t gs) → All MedianIn (cond b (stay_median s g ∷ medians_of s t gs) (medians_of s t gs))
        go true r = (stay_median_within g a.0, r)
        go false r = r

    medians_within : (fs : List Fix) → All FixIn fs → All MedianIn (stay_medians dist s fs)
    unfolding stay_medians groups medians_of
    medians_within [] a = tt
    medians_within (f ∷ fs) a =
        medians_of_within (timed (f ∷ fs)) (groups_from dist s (timed (f ∷ fs)) (f ∷ []) fs) (groups_within (timed (f ∷ fs)) (f ∷ []) fs (omega arith, (a.0, tt)) a.1)

    pub all_medians_within : (ts : List (List Fix)) → All (All FixIn) ts → All MedianIn (all_medians dist s ts)
    unfolding all_medians
    all_medians_within [] a = tt
    all_medians_within (t ∷ ts) a = all_append MedianIn (stay_medians dist s t) (all_medians dist s ts) (medians_within t a.0) (all_medians_within ts a.1)
