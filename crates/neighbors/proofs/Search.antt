-- What a search for a place answers.
use mathlib.Core.Path.{◌≡◌, refl, ◌∙◌}
use mathlib.Core.Bool.{Bool, true, false, not, cond}
use mathlib.Core.List.{List, [], ◌∷◌}
use Prim.Native.Nat.{ℕ, suc, ◌+◌, ◌<◌, ◌≤◌}
use native.Mathlib.Decide.{dec_lt}
use native.Mathlib.Omega.{arith}
use lib.Dec.{ltb}
use borrow.Author.Tests.{lt-ltb, le-ltb}
use lib.ListN.{length}
use Rattle.std.specs.Prelude.{Option, Some, None}
use Rattle.std.specs.List.{position_or_len}
use Rattle.distance.specs.declared.Point.{Point}
use Rattle.neighbors.specs.Places.{Place, same_place, place_of}
use Rattle.neighbors.specs.StepsPlaces.{place_points, place_found, PlaceFound}
use Rattle.neighbors.proofs.Within.{length_place_points}

-- ---- what `place_found` answers

pub found_some : (ps : List Place) (m : Point) (i : ℕ) → Some i ≡ place_found ps m → (i ≡ place_of ps m) × (i < length ps)
unfolding place_found
found_some ps m i e = go (dec_lt (place_of ps m) (length ps))
  where
    go : Dec (place_of ps m < length ps) → (i ≡ place_of ps m) × (i < length ps)
    go (yes h) = let f : Some i ≡ Some (place_of ps m) = e ∙ rw (lt-ltb (place_of ps m) (length ps) h) in let q : i ≡ place_of ps m = cc in (q, omega arith)
    go (no h) = let f : Some i ≡ None = e ∙ rw (le-ltb (place_of ps m) (length ps) (omega arith)) in absurd (cc)

pub found_no : (ps : List Place) (m : Point) → None ≡ place_found ps m → length ps ≤ place_of ps m
unfolding place_found
found_no ps m e = go (dec_lt (place_of ps m) (length ps))
  where
    go : Dec (place_of ps m < length ps) → length ps ≤ place_of ps m
    go (yes h) = let f : None ≡ Some (place_of ps m) = e ∙ rw (lt-ltb (place_of ps m) (length ps) h) in absurd (cc)
    go (no h) = omega arith

-- The number of the place of m is at most how many places there are.
pub place_le : (ps : List Place) (m : Point) → place_of ps m ≤ length ps
unfolding place_of
place_le [] m = omega arith
place_le (p ∷ ps) m = go (same_place p.at m) (place_le ps m)
  where
    go : (b : Bool) → place_of ps m ≤ length ps → cond b 0 (suc (place_of ps m)) ≤ suc (length ps)
    go true h = omega arith
    go false h = omega arith

-- ---- the search in a list of points

module _ (m : Point) where
  abbrev pub is_at : Point → Bool
  is_at q = same_place q m

  place_of_points : (ps : List Place) → place_of ps m ≡ position_or_len is_at (place_points ps)
  unfolding place_of place_points
  place_of_points [] = refl
  place_of_points (p ∷ ps) = go (is_at p.at) (place_of_points ps)
    where
      go : (b : Bool) → place_of ps m ≡ position_or_len is_at (place_points ps)
          → cond b 0 (suc (place_of ps m)) ≡ cond (not b) (1 + position_or_len is_at (place_points ps)) 0
      go true e = refl
      go false e = omega arith

  pub points_found : (qs : List Point) {r : Option ℕ}
      → r ≡ cond (ltb (position_or_len is_at qs) (length qs)) (Some (position_or_len is_at qs)) None → PlaceFound qs m r
  unfolding place_found
  points_found qs e ps q = rw (place_of_points ps, ← length_place_points ps, q) e
