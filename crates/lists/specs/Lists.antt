-- Lists that several definitions share. Definitions only.
use Rattle.std.specs.Prelude.{◌⊎◌, ◌≡◌, ℕ, zero, suc, Bool, false, ◌||◌, cond, List, [], ◌∷◌, ◌++◌, eqb, ℤ, negsuc, length, drop}

-- i, i + 1, .., n numbers in all.
unfoldable pub from : ℕ → ℕ → List ℕ
from i zero = []
from i (suc n) = i ∷ from (suc i) n

-- 0, 1, .., n - 1.
unfoldable pub upto : ℕ → List ℕ
unfolding from
upto n = from 0 n

-- x is an item of the list.
abbrev pub Has : List ℕ → ℕ → Type 0
Has [] x = ⊥
Has (y ∷ ys) x = (x ≡ y) ⊎ Has ys x

-- Whether x is.
unfoldable pub member : ℕ → List ℕ → Bool
member x [] = false
member x (y ∷ ys) = eqb x y || member x ys

-- The first place of x in the list; its length where x is not there.
unfoldable pub position : ℕ → List ℕ → ℕ
position x [] = 0
position x (y ∷ ys) = let r = suc (position x ys) in cond (eqb x y) 0 r

-- Whether f holds of an item.
unfoldable pub any_of : (ℕ → Bool) → List ℕ → Bool
any_of f [] = false
any_of f (x ∷ xs) = f x || any_of f xs

-- The items of which f holds.
unfoldable pub select : (ℕ → Bool) → List ℕ → List ℕ
select f [] = []
select f (x ∷ xs) = let r = select f xs in cond (f x) (x ∷ r) r

-- l at the front of s, and what is behind stays.
unfoldable pub overlay : {A : Type 0} → List A → List A → List A
overlay l s = l ++ drop (length l) s

-- -1, the label of what has none.
abbrev pub minus_one : ℤ
minus_one = negsuc 0
