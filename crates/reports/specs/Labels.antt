-- The labels of the model's places, upward. Definitions only.
use Rattle.std.specs.Prelude.{ℕ, suc, max, Bool, false, List, [], ◌∷◌, eqb, ℤ, pos, negsuc}

-- One above a label; 0 for -1, which is no label.
unfoldable pub label_end : ℤ → ℕ
label_end (pos l) = suc l
label_end (negsuc l) = 0

-- How many labels there are, from 0 on: one above the highest. A fit leaves no gap below it; a model made by hand can, and then a label in the gap has
-- no place.
unfoldable pub labels_in : List ℤ → ℕ
labels_in [] = 0
labels_in (k ∷ ks) = max (label_end k) (labels_in ks)

-- Whether k is the label l.
unfoldable pub is_label : ℕ → ℤ → Bool
is_label l (pos k) = eqb k l
is_label l (negsuc k) = false
