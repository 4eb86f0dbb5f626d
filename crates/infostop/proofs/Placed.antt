-- The places of the stays' medians: how many they are, and the arrays that hold them.
use mathlib.Core.Path.{◌≡◌, refl, sym, ap, ◌∙◌, subst}
use mathlib.Core.List.{List, ◌++◌}
use Rattle.std.specs.Prelude.{Option, Some, None, Ok, Err}
use Prim.Native.Nat.{ℕ, ◌*◌, ◌<◌, ◌≤◌}
use native.Mathlib.Decide.{dec_lt}
use native.Mathlib.Nat.{mul-le-mul}
use native.Mathlib.Omega.{arith}
use borrow.Author.Tests.{le-leb, lt-leb}
use lib.IntN.{negsuc}
use lib.ListN.{length, take, drop}
use lib.Ieee.{Float}
use Rattle.lists.specs.Lists.{overlay}
use Rattle.lists.proofs.Overlay.{take_front}
use Rattle.float.specs.Binary64.{zero64}
use Rattle.distance.specs.declared.Point.{Point}
use Rattle.neighbors.specs.Places.{Place, place_at, places, place_xs, place_ys}
use Rattle.neighbors.specs.StepsPlaces.{places_within, front, place_counts, distinct_within}
use Rattle.neighbors.proofs.Within.{within_some, within_none, within_places, length_place_xs, length_place_ys, length_place_counts, places_columns}
use Rattle.neighbors.proofs.Found.{counted, all_counted}
use Rattle.settings.specs.declared.refusal.Refusal.{Refusal}
use Rattle.settings.specs.declared.refusal.Refusal.TheVariants.{TooManyPlaces}
use Rattle.infostop.specs.declared.steps.PlaceArrays.{PlaceArrays}
use Rattle.infostop.specs.Steps.{PlaceSlices, Space, in_arrays, places_found}
use Rattle.infostop.proofs.Arrays.{array, array_part, array_front}

-- ---- how many places

found_ok : (cap : ℕ) (ps : List Place) → length ps ≤ cap → Ok (in_arrays ps) ≡ places_found cap ps
unfolding places_found
found_ok cap ps h = rw (le-leb (length ps) cap h)

found_more : (cap : ℕ) (ps : List Place) → cap < length ps → Err TooManyPlaces ≡ places_found cap ps
unfolding places_found
found_more cap ps h = rw (lt-leb (length ps) cap h)

-- What `find_places` tells.
pub found_some : (cap : ℕ) (ps : List Place) (a : PlaceArrays) → Ok a ≡ places_found cap ps → (length ps ≤ cap) × (a ≡ in_arrays ps)
found_some cap ps a e = go (dec_lt cap (length ps))
  where
    go : Dec (cap < length ps) → (length ps ≤ cap) × (a ≡ in_arrays ps)
    go (yes h) = let f : Ok a ≡ Err TooManyPlaces = e ∙ sym (found_more cap ps h) in absurd (cc)
    go (no h) = let f : Ok a ≡ Ok (in_arrays ps) = e ∙ sym (found_ok cap ps (omega arith)) in (omega arith, cc)

pub found_none : (cap : ℕ) (ps : List Place) (r : Refusal) → Err r ≡ places_found cap ps → (cap < length ps) × (r ≡ TooManyPlaces)
found_none cap ps r e = go (dec_lt cap (length ps))
  where
    go : Dec (cap < length ps) → (cap < length ps) × (r ≡ TooManyPlaces)
    go (yes h) = let f : Err r ≡ Err TooManyPlaces = e ∙ sym (found_more cap ps h) in (h, cc)
    go (no h) = let f : Err r ≡ Ok (in_arrays ps) = e ∙ sym (found_ok cap ps (omega arith)) in absurd (cc)

-- ---- what `distinct` writes at the front of the arrays
module _ (cap : ℕ) (few : cap ≤ 512) (ms : List Point) (r : Option ℕ) (e : r ≡ distinct_within (length (take cap (array zero64))) (places ms)) where
  abbrev capx : ℕ
  capx = length (take cap (array zero64))

  pub too_many : r ≡ None → Err TooManyPlaces ≡ places_found cap (places ms)
  too_many q = found_more cap (places ms) (omega (arith, array_part zero64 cap few, within_none capx (places ms) (sym q ∙ e)))

  pub arrays_laid : (p : ℕ) → r ≡ Some p → (px py : List Float) (pc : List ℕ)
      → px ≡ overlay (place_xs (places_within capx ms)) (take cap (array zero64))
      → py ≡ overlay (place_ys (places_within capx ms)) (take cap (array zero64))
      → pc ≡ overlay (place_counts (places_within capx ms)) (take cap (array 0))
      → Ok (record { xs = px ++ drop cap (array zero64); ys = py ++ drop cap (array zero64); counts = pc ++ drop cap (array 0); count = p }) ≡ places_found cap (places ms)
  arrays_laid p q px py pc hx hy hc =
      let n = within_some capx (places ms) p (sym q ∙ e) in
      let w : places_within capx ms ≡ places ms = within_places capx ms (omega (arith, n.0, n.1)) in
      let room : length (places ms) ≤ cap = omega (arith, n.0, n.1, array_part zero64 cap few) in
      rw (
        array_front zero64 cap (place_xs (places ms)) px few (omega (arith, room, length_place_xs (places ms))) (rw w at hx),
        array_front zero64 cap (place_ys (places ms)) py few (omega (arith, room, length_place_ys (places ms))) (rw w at hy),
        array_front 0 cap (place_counts (places ms)) pc few (omega (arith, room, length_place_counts (places ms))) (rw w at hc),
        n.0,
      ) (found_ok cap (places ms) room)

-- ---- the places in front of the arrays

front_arrays : (ps : List Place) → front (in_arrays ps).xs (in_arrays ps).ys (in_arrays ps).counts (length ps) ≡ ps
front_arrays ps = rw (
  take_front (place_xs ps) (array zero64) _ (length ps) (sym (length_place_xs ps)) refl,
  take_front (place_ys ps) (array zero64) _ (length ps) (sym (length_place_ys ps)) refl,
  take_front (place_counts ps) (array 0) _ (length ps) (sym (length_place_counts ps)) refl,
) (places_columns ps)

pub front_is : (a : PlaceArrays) (ps : List Place) → a ≡ in_arrays ps → front a.xs a.ys a.counts a.count ≡ ps
front_is a ps e = rw e (front_arrays ps)

-- They are no more than the arrays hold.
pub count_few : (cap : ℕ) (ps : List Place) (a : PlaceArrays) → cap ≤ 512 → Ok a ≡ places_found cap ps → a.count ≤ 512
count_few cap ps a h e = let f = found_some cap ps a e in rw f.1 (omega (arith, f.0))

-- What `label_tracks` asks of the places of k medians.
module _ (cap n k floats words : ℕ) (few : cap ≤ 512) (space : Space n k cap floats words) (ms : List Point) (long : length ms ≡ k) (a : PlaceArrays)
    (e : Ok a ≡ places_found cap (places ms)) where
  abbrev ps : List Place
  ps = places ms

  abbrev qs : List Place
  qs = front a.xs a.ys a.counts a.count

  are : qs ≡ ps
  are = front_is a ps (found_some cap ps a e).1

  places_few : length qs ≤ cap
  places_few = rw are (found_some cap ps a e).0

  count_is : a.count ≡ length qs
  count_is = rw are (ap (λ (z : PlaceArrays). z.count) (found_some cap ps a e).1)

  place_slices : PlaceSlices qs (length (take a.count (array (negsuc 0))))
  place_slices = record {
    labels_length = array_part (negsuc 0) a.count (count_few cap ps a few e) ∙ count_is;
    few = omega (arith, places_few);
    counted = subst (λ (z : List Place). (i : ℕ) → i < length z → 0 < (place_at z i).count) (sym are) (counted ms);
    stays = rw are (omega (arith, all_counted ms, space.few_stays, space.few_fixes));
  }

  label_space : Space n k (length qs) floats words
  label_space = record {
    few_fixes = space.few_fixes;
    few_stays = space.few_stays;
    floats_length = let h : length qs * length qs ≤ cap * cap = mul-le-mul places_few places_few in omega (arith, h, space.floats_length);
    words_length = space.words_length;
  }

  pub asked : PlaceSlices qs (length (take a.count (array (negsuc 0)))) × Space n k (length qs) floats words
  asked = (place_slices, label_space)
