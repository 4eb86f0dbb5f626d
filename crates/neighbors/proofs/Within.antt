-- Places up to a cap, and the columns of places.
use mathlib.Core.Path.{◌≡◌, refl, ap, ◌∙◌}
use mathlib.Core.List.{List, [], ◌∷◌}
use Prim.Native.Nat.{ℕ, ◌<◌, ◌≤◌}
use native.Mathlib.Decide.{dec_lt}
use native.Mathlib.Omega.{arith}
use borrow.Author.Tests.{lt-leb, le-leb}
use lib.ListN.{length, length-map}
use lib.Ieee.{Float}
use Rattle.std.specs.Prelude.{Some, None}
use Rattle.distance.specs.declared.Point.{Point}
use Rattle.neighbors.specs.Places.{Place, sighted, sighted_all, places, places_in, place_xs, place_ys}
use Rattle.distance.specs.Distance.{points}
use Rattle.neighbors.specs.StepsPlaces.{sighted_within, places_within, place_counts, place_points, distinct_within}
use Rattle.neighbors.proofs.Sighted.{longer_all}

-- ---- the cap

module _ (cap : ℕ) where
  pub within_on : (ps : List Place) (m : Point) (ms : List Point) → length (sighted ps m) ≤ cap → sighted_within cap ps (m ∷ ms) ≡ sighted_within cap (sighted ps m) ms
  unfolding sighted_within
  within_on ps m ms h = rw (le-leb (length (sighted ps m)) cap h)

  pub within_stop : (ps : List Place) (m : Point) (ms : List Point) → cap < length (sighted ps m) → sighted_within cap ps (m ∷ ms) ≡ ps
  unfolding sighted_within
  within_stop ps m ms h = rw (lt-leb (length (sighted ps m)) cap h)

  within_all : (ps : List Place) (ms : List Point) → length (sighted_all ps ms) ≤ cap → sighted_within cap ps ms ≡ sighted_all ps ms
  unfolding sighted_all sighted_within
  within_all ps [] h = refl
  within_all ps (m ∷ ms) h = let l = longer_all (sighted ps m) ms in within_on ps m ms (omega arith) ∙ within_all (sighted ps m) ms h

  -- Where there is room for all places, they are all there.
  pub within_places : (ms : List Point) → length (places ms) ≤ cap → places_within cap ms ≡ places ms
  unfolding places places_within
  within_places ms h = within_all [] ms h

  -- What the count of places tells.
  pub counted_within : (ps : List Place) (n : ℕ) → n ≡ length ps → n ≤ cap → Some n ≡ distinct_within cap ps
  unfolding distinct_within
  counted_within ps n e h = rw (← e, le-leb n cap h)

  pub counted_beyond : (ps : List Place) → cap < length ps → None ≡ distinct_within cap ps
  unfolding distinct_within
  counted_beyond ps h = rw (lt-leb (length ps) cap h)

  pub within_some : (ps : List Place) (n : ℕ) → Some n ≡ distinct_within cap ps → (n ≡ length ps) × (n ≤ cap)
  unfolding distinct_within
  within_some ps n e = go (dec_lt cap (length ps))
    where
      go : Dec (cap < length ps) → (n ≡ length ps) × (n ≤ cap)
      go (yes h) = let f : Some n ≡ None = e ∙ rw (lt-leb (length ps) cap h) in absurd (cc)
      go (no h) = let f : Some n ≡ Some (length ps) = e ∙ rw (le-leb (length ps) cap (omega arith)) in let q : n ≡ length ps = cc in (q, omega arith)

  pub within_none : (ps : List Place) → None ≡ distinct_within cap ps → cap < length ps
  unfolding distinct_within
  within_none ps e = go (dec_lt cap (length ps))
    where
      go : Dec (cap < length ps) → cap < length ps
      go (yes h) = h
      go (no h) = let f : None ≡ Some (length ps) = e ∙ rw (le-leb (length ps) cap (omega arith)) in absurd (cc)

-- ---- the columns

pub length_place_xs : (ps : List Place) → length (place_xs ps) ≡ length ps
unfolding place_xs
length_place_xs ps = length-map ps (λ (p : Place). p.at.x)

pub length_place_ys : (ps : List Place) → length (place_ys ps) ≡ length ps
unfolding place_ys
length_place_ys ps = length-map ps (λ (p : Place). p.at.y)

pub length_place_counts : (ps : List Place) → length (place_counts ps) ≡ length ps
unfolding place_counts
length_place_counts ps = length-map ps (λ (p : Place). p.count)

pub length_place_points : (ps : List Place) → length (place_points ps) ≡ length ps
unfolding place_points
length_place_points ps = length-map ps (λ (p : Place). p.at)

-- Places are those of their columns.
pub places_columns : (ps : List Place) → places_in (place_xs ps) (place_ys ps) (place_counts ps) ≡ ps
unfolding places_in place_xs place_ys place_counts
places_columns [] = refl
places_columns (p ∷ ps) = ap {B = List Place} (λ r. p ∷ r) (places_columns ps)

-- The columns of the places of three slices of one length are the slices.
pub place_xs_in : (xs ys : List Float) (cs : List ℕ) → length ys ≡ length xs → length cs ≡ length xs → place_xs (places_in xs ys cs) ≡ xs
unfolding places_in place_xs
place_xs_in [] ys cs p q = refl
place_xs_in (x ∷ xs) [] cs p q = absurd (omega arith)
place_xs_in (x ∷ xs) (y ∷ ys) [] p q = absurd (omega arith)
place_xs_in (x ∷ xs) (y ∷ ys) (c ∷ cs) p q = ap {B = List Float} (λ r. x ∷ r) (place_xs_in xs ys cs (omega arith) (omega arith))

pub place_ys_in : (xs ys : List Float) (cs : List ℕ) → length ys ≡ length xs → length cs ≡ length xs → place_ys (places_in xs ys cs) ≡ ys
unfolding places_in place_ys
place_ys_in [] [] cs p q = refl
place_ys_in [] (y ∷ ys) cs p q = absurd (omega arith)
place_ys_in (x ∷ xs) [] cs p q = absurd (omega arith)
place_ys_in (x ∷ xs) (y ∷ ys) [] p q = absurd (omega arith)
place_ys_in (x ∷ xs) (y ∷ ys) (c ∷ cs) p q = ap {B = List Float} (λ r. y ∷ r) (place_ys_in xs ys cs (omega arith) (omega arith))

pub place_counts_in : (xs ys : List Float) (cs : List ℕ) → length ys ≡ length xs → length cs ≡ length xs → place_counts (places_in xs ys cs) ≡ cs
unfolding places_in place_counts
place_counts_in [] ys [] p q = refl
place_counts_in [] ys (c ∷ cs) p q = absurd (omega arith)
place_counts_in (x ∷ xs) [] cs p q = absurd (omega arith)
place_counts_in (x ∷ xs) (y ∷ ys) [] p q = absurd (omega arith)
place_counts_in (x ∷ xs) (y ∷ ys) (c ∷ cs) p q = ap {B = List ℕ} (λ r. c ∷ r) (place_counts_in xs ys cs (omega arith) (omega arith))

-- The points of such places are those of the first two.
pub place_points_in : (xs ys : List Float) (cs : List ℕ) → length ys ≡ length xs → length cs ≡ length xs → points xs ys ≡ place_points (places_in xs ys cs)
unfolding places_in place_points points
place_points_in [] ys cs p q = refl
place_points_in (x ∷ xs) [] cs p q = absurd (omega arith)
place_points_in (x ∷ xs) (y ∷ ys) [] p q = absurd (omega arith)
place_points_in (x ∷ xs) (y ∷ ys) (c ∷ cs) p q = ap {B = List Point} (λ r. record { x = x; y = y } ∷ r) (place_points_in xs ys cs (omega arith) (omega arith))
