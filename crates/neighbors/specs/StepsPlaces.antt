-- Serves the contracts of this crate's own functions; no public contract reaches it.
-- Places in slices: the search for one, and the writing of those that there is room for. Definitions only.
use Rattle.std.specs.Prelude.{◌≡◌, ℕ, ◌+◌, ◌<◌, ◌≤◌, cond, List, [], ◌∷◌, map, leb, ltb, length, take, Float, Option, Some, None}
use Rattle.lists.specs.Lists.{overlay}
use Rattle.distance.specs.declared.Point.{Point}
use Rattle.neighbors.specs.Places.{Place, sighted, places, place_of, places_in, place_xs, place_ys}

-- All stays of all places.
unfoldable pub stay_count : List Place → ℕ
stay_count [] = 0
stay_count (p ∷ ps) = p.count + stay_count ps

-- The places after the medians ms too, up to the first that would make them more than the cap.
unfoldable pub sighted_within : ℕ → List Place → List Point → List Place
sighted_within cap ps [] = ps
sighted_within cap ps (m ∷ ms) = let r = sighted_within cap (sighted ps m) ms in cond (leb (length (sighted ps m)) cap) r ps

-- The places of medians in order, up to the first that would be a place more than the cap.
unfoldable pub places_within : ℕ → List Point → List Place
places_within cap ms = sighted_within cap [] ms

-- The count of each place.
unfoldable pub place_counts : List Place → List ℕ
place_counts ps = map (λ (p : Place). p.count) ps

-- The point of each place.
unfoldable pub place_points : List Place → List Point
place_points ps = map (λ (p : Place). p.at) ps

-- The n places at the front of longer slices.
abbrev pub front : List Float → List Float → List ℕ → ℕ → List Place
front xs ys cs n = places_in (take n xs) (take n ys) (take n cs)

-- How many places there are; None where they are more than the caller's cap (the rules' 19).
unfoldable pub distinct_within : ℕ → List Place → Option ℕ
distinct_within cap ps = cond (leb (length ps) cap) (Some (length ps)) None

-- The number of the place of m, if it has one.
unfoldable pub place_found : List Place → Point → Option ℕ
place_found ps m = cond (ltb (place_of ps m) (length ps)) (Some (place_of ps m)) None

-- r is the number of the place of m among the places at the points qs, whatever their counts are.
abbrev pub PlaceFound : List Point → Point → Option ℕ → Type 0
PlaceFound qs m r = (ps : List Place) → place_points ps ≡ qs → r ≡ place_found ps m

-- Three slices of one length with n places in front, whose stays are fewer than 65,536.
abbrev pub PlacesInFront : List Float → List Float → List ℕ → ℕ → Type 0
PlacesInFront xs ys cs n = (length ys ≡ length xs) × (length cs ≡ length xs) × (n ≤ length xs) × (stay_count (front xs ys cs n) < 65536)

-- The slices hold the places ps in front, and behind them what xs, ys and cs hold.
abbrev pub Laid : List Place → List Float → List Float → List ℕ → List Float → List Float → List ℕ → Type 0
Laid ps xs ys cs xs' ys' cs' = (xs' ≡ overlay (place_xs ps) xs) × (ys' ≡ overlay (place_ys ps) ys) × (cs' ≡ overlay (place_counts ps) cs)

-- One more stay, with the median m, where n places stand in front: r tells how many there are then, and the slices hold those that there is room for.
abbrev pub OneMoreLaid : List Float → List Float → List ℕ → ℕ → Point → Option ℕ → List Float → List Float → List ℕ → Type 0
OneMoreLaid xs ys cs n m r xs' ys' cs' =
    (r ≡ distinct_within (length xs) (sighted (front xs ys cs n) m)) × Laid (sighted_within (length xs) (front xs ys cs n) (m ∷ [])) xs ys cs xs' ys' cs'

-- The places of the medians ms: r tells how many there are, and the slices hold those that there is room for.
abbrev pub DistinctLaid : List Point → List Float → List Float → List ℕ → Option ℕ → List Float → List Float → List ℕ → Type 0
DistinctLaid ms xs ys cs r xs' ys' cs' =
    let ps = places_within (length xs) ms in
    (r ≡ distinct_within (length xs) (places ms))
    × (xs' ≡ overlay (place_xs ps) xs) × (ys' ≡ overlay (place_ys ps) ys) × (cs' ≡ overlay (place_counts ps) cs)
