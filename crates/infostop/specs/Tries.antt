-- The rules' tracks to try, with their settings, in a form that reads like their list. Definitions only.
use Rattle.std.specs.Prelude.{ℕ, Bool, false, List, [], ◌∷◌, ◌++◌, map, ℤ, length, Float}
use Rattle.std.proofs.Math.Option.{Option, none, some}
use Rattle.float.specs.Binary64.{whole64, zero64}
use Rattle.distance.specs.Distance.{euclidean}
use Rattle.neighbors.specs.Places.{Place}
use Rattle.neighbors.specs.Links.{link}
use Rattle.settings.specs.declared.config.Config.{Config}
use Rattle.settings.specs.Refusals.{number_of}
use Rattle.settings.specs.Tries.{settings}
use Rattle.infostop.specs.Fit.{Outcome, refused, fitted, fit}

-- A fix as the list writes it.
pub record Seen : Type 0 where
  pub x : ℕ
  pub y : ℕ
  pub time : Option ℕ

abbrev pub at : ℕ → ℕ → Seen
at x y = record { x = x; y = y; time = none }

abbrev pub at_time : ℕ → ℕ → ℕ → Seen
at_time x y t = record { x = x; y = y; time = some t }

abbrev pub twice : Seen → List Seen
twice f = f ∷ f ∷ []

-- ---- its columns

abbrev pub all : List (List Seen) → List Seen
all [] = []
all (t ∷ ts) = t ++ all ts

abbrev pub time_in : Option ℕ → Float
time_in none = zero64
time_in (some t) = whole64 t

abbrev pub mark_in : Option ℕ → ℕ
mark_in none = 0
mark_in (some t) = 1

-- The fit of tracks, with 64 places and work slices that are long enough.
abbrev pub fit_with : Config → List (List Seen) → Outcome
fit_with c ts =
    let fs = all ts in
    fit c (map (λ (f : Seen). whole64 f.x) fs) (map (λ (f : Seen). whole64 f.y) fs) (map (λ (f : Seen). time_in f.time) fs) (map (λ (f : Seen). mark_in f.time) fs)
    (map (λ (t : List Seen). length t) ts) (length fs) 64 8192 8192

abbrev pub fit_of : List (List Seen) → Outcome
fit_of = fit_with settings

-- ---- what is told of an answer

-- A refusal's number, or the labels.
pub data Result : Type 0 where
  number : ℕ → Result
  labels : List ℤ → Result

abbrev pub result_of : Outcome → Result
result_of (refused e) = number (number_of e)
result_of (fitted f) = labels f.labels

-- Its places, each with the count of its stays.
abbrev pub places_of : Outcome → List Place
places_of (refused e) = []
places_of (fitted f) = f.places

abbrev pub place_count : Outcome → ℕ
place_count o = length (places_of o)

-- Whether the places 0 and 1 link.
abbrev pub pair_links : Outcome → Bool
pair_links (refused e) = false
pair_links (fitted f) = link euclidean settings.r2 f.places 0 1
