-- Items of a list: what holds of every one, and being one.
use mathlib.Core.Path.{◌≡◌}
use mathlib.Core.Logic.{◌⊎◌, inl, inr}
use mathlib.Core.List.{List, [], ◌∷◌, ◌++◌}
use Prim.Native.Nat.{ℕ, zero, suc, ◌<◌}
use native.Mathlib.Omega.{arith}
use lib.ListN.{length, get_or}

-- P holds of every item.
abbrev pub All : {A : Type 0} → (A → Type 0) → List A → Type 0
All P [] = Unit {0}
All P (x ∷ xs) = P x × All P xs

pub all_at : {A : Type 0} (P : A → Type 0) (l : List A) (d : A) → ((k : ℕ) → k < length l → P (get_or l k d)) → All P l
all_at P [] d f = tt
all_at P (x ∷ xs) d f = (f 0 (omega arith), all_at P xs d (λ k h. f (suc k) (omega arith)))

pub at_all : {A : Type 0} (P : A → Type 0) (l : List A) (d : A) → All P l → (k : ℕ) → k < length l → P (get_or l k d)
at_all P [] d a k h = absurd (omega arith)
at_all P (x ∷ xs) d a zero h = a.0
at_all P (x ∷ xs) d a (suc k) h = at_all P xs d a.1 k (omega arith)

pub all_append : {A : Type 0} (P : A → Type 0) (xs ys : List A) → All P xs → All P ys → All P (xs ++ ys)
all_append P [] ys a b = b
all_append P (x ∷ xs) ys a b = (a.0, all_append P xs ys a.1 b)

-- x is one of the items.
abbrev pub Among : {A : Type 0} → List A → A → Type 0
Among [] x = ⊥
Among (y ∷ ys) x = (x ≡ y) ⊎ Among ys x

pub among_left : {A : Type 0} (a b : List A) (x : A) → Among a x → Among (a ++ b) x
among_left [] b x h = absurd h
among_left (y ∷ a) b x (inl e) = inl e
among_left (y ∷ a) b x (inr h) = inr (among_left a b x h)

pub among_right : {A : Type 0} (a b : List A) (x : A) → Among b x → Among (a ++ b) x
among_right [] b x h = h
among_right (y ∷ a) b x h = inr (among_right a b x h)
