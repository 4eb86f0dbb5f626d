-- A function at each item of a list, and an item read by its index.
use mathlib.Core.Path.{◌≡◌, refl, ap, ap₂}
use mathlib.Core.List.{List, [], ◌∷◌, ◌++◌, map}
use Prim.Native.Nat.{ℕ, zero, suc, ◌<◌}
use native.Mathlib.Omega.{arith}
use lib.ListN.{length, get_or}

pub map_append : {A B : Type 0} (f : A → B) (l r : List A) → map f (l ++ r) ≡ map f l ++ map f r
map_append f [] r = refl
map_append {A} {B} f (x ∷ l) r = ap (λ (t : List B). f x ∷ t) (map_append f l r)

pub map_map : {A B C : Type 0} (f : B → C) (g : A → B) (l : List A) → map f (map g l) ≡ map (λ (x : A). f (g x)) l
map_map f g [] = refl
map_map {A} {B} {C} f g (x ∷ l) = ap (λ (t : List C). f (g x) ∷ t) (map_map f g l)

-- Functions that agree at each item.
pub map_agree : {A B : Type 0} (f g : A → B) (d : A) (l : List A) → ((i : ℕ) → f (get_or l i d) ≡ g (get_or l i d)) → map f l ≡ map g l
map_agree f g d [] h = refl
map_agree {A} {B} f g d (x ∷ l) h = ap₂ (λ (y : B) (t : List B). y ∷ t) (h 0) (map_agree f g d l (λ i. h (suc i)))

-- Inside the list the defaults do not matter.
pub get_or_map : {A B : Type 0} (f : A → B) (l : List A) (i : ℕ) (d : A) (e : B) → i < length l → get_or (map f l) i e ≡ f (get_or l i d)
get_or_map f [] i d e h = absurd (omega arith)
get_or_map f (x ∷ l) zero d e h = refl
get_or_map f (x ∷ l) (suc i) d e h = get_or_map f l i d e (omega arith)

pub get_or_inside : {A : Type 0} (l : List A) (i : ℕ) (d e : A) → i < length l → get_or l i d ≡ get_or l i e
get_or_inside [] i d e h = absurd (omega arith)
get_or_inside (x ∷ l) zero d e h = refl
get_or_inside (x ∷ l) (suc i) d e h = get_or_inside l i d e (omega arith)
