-- Serves the contracts of this crate's own functions; no public contract reaches it.
-- A work slice of four parts of equal length q: the open group's x and y in order, and the medians' x and y.
use Rattle.std.specs.Prelude.{ℕ, ◌+◌, ◌≤◌, ◌<◌, ◌≡◌, List, ◌∷◌, ◌++◌, length, take, drop, Float, true}
use Rattle.lists.specs.StepsParts.{part, put}
use Rattle.distance.specs.declared.Point.{Point}
use Rattle.stay.specs.Ordered.{insert_ordered, median}
use Rattle.stay.specs.StepsOrdered.{in_order}

-- e inserted into the first len elements of r, which are in order.
unfoldable pub insert_in : ℕ → Float → List Float → List Float
insert_in len e r = insert_ordered e (take len r) ++ drop (len + 1) r

-- x and y inserted into the first len elements of the first two parts.
unfoldable pub insert_both : ℕ → ℕ → Float → Float → List Float → List Float
insert_both q len x y w =
    let v = put 0 q (insert_in len x (part 0 q w)) w in
    put q q (insert_in len y (part q q v)) v

-- e at the place p, and what stood from there on up by one, the last dropped.
unfoldable pub shifted : ℕ → Float → List Float → List Float
shifted p e xs = take (length xs) (take p xs ++ (e ∷ drop p xs))

-- The median of the first len elements of the first two parts.
unfoldable pub middle_in : ℕ → ℕ → List Float → Point
middle_in q len w = record { x = median (take len (part 0 q w)); y = median (take len (part q q w)) }

-- There is room for one more, and what is there is in order.
pub record CanInsert (q len : ℕ) (w : List Float) : Type 0 where
  pub more : len < q
  pub fits : q + q ≤ length w
  pub x_order : in_order (take len (part 0 q w)) ≡ true
  pub y_order : in_order (take len (part q q w)) ≡ true
