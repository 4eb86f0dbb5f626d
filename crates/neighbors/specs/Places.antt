-- Distinct medians (docs/RULES.md, "Distinct medians"). Definitions only.
use Rattle.std.specs.Prelude.{◌≡◌, ◌≢◌, ℕ, suc, ◌<◌, Bool, false, ◌&&◌, cond, List, [], ◌∷◌, map, length, get_or, Float}
use Rattle.float.specs.Binary64.{zero64, same_bits}
use Rattle.distance.specs.declared.Point.{Point}

-- Two medians are one place if both bit patterns agree, so 0.0 and -0.0 differ.
unfoldable pub same_place : Point → Point → Bool
same_place p q = same_bits p.x q.x && same_bits p.y q.y

-- A distinct median, with the count of its stays.
pub record Place : Type 0 where
  pub at : Point
  pub count : ℕ

-- The places after one more stay with the median m: counted at its place, or a new place behind the others.
unfoldable pub sighted : List Place → Point → List Place
sighted [] m = record { at = m; count = 1 } ∷ []
sighted (p ∷ ps) m = let r = p ∷ sighted ps m in cond (same_place p.at m) (record { at = p.at; count = suc p.count } ∷ ps) r

-- The places after more medians, in order.
unfoldable pub sighted_all : List Place → List Point → List Place
sighted_all ps [] = ps
sighted_all ps (m ∷ ms) = sighted_all (sighted ps m) ms

-- The places of medians in order, numbered by first sight.
unfoldable pub places : List Point → List Place
places ms = sighted_all [] ms

-- The number of the place of m; how many places there are where m has none.
unfoldable pub place_of : List Place → Point → ℕ
place_of [] m = 0
place_of (p ∷ ps) m = let r = suc (place_of ps m) in cond (same_place p.at m) 0 r

-- Stands for a place where there is none.
abbrev pub no_place : Place
no_place = record { at = record { x = zero64; y = zero64 }; count = 0 }

-- Place i.
abbrev pub place_at : List Place → ℕ → Place
place_at ps i = get_or ps i no_place

-- Of any two of these points a bit pattern differs.
abbrev pub AllDiffer : List Point → Type 0
AllDiffer ps = (i j : ℕ) → i < length ps → j < length ps → i ≢ j → same_place (get_or ps i no_place.at) (get_or ps j no_place.at) ≡ false

-- ---- what slices hold

-- The places of slices of coordinates and counts.
unfoldable pub places_in : List Float → List Float → List ℕ → List Place
places_in [] ys cs = []
places_in (x ∷ xs) [] cs = []
places_in (x ∷ xs) (y ∷ ys) [] = []
places_in (x ∷ xs) (y ∷ ys) (c ∷ cs) = record { at = record { x = x; y = y }; count = c } ∷ places_in xs ys cs

-- The x of each place.
unfoldable pub place_xs : List Place → List Float
place_xs ps = map (λ (p : Place). p.at.x) ps

-- The y of each place.
unfoldable pub place_ys : List Place → List Float
place_ys ps = map (λ (p : Place). p.at.y) ps
