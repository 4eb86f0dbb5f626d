-- Serves the contracts of this crate's own functions; no public contract reaches it.
-- Lists in order.
use Rattle.std.specs.Prelude.{Bool, true, ◌&&◌, List, [], ◌∷◌, Float}
use Rattle.stay.specs.Ordered.{at_most}

-- x is at most the first of xs.
unfoldable pub at_most_first : Float → List Float → Bool
unfolding at_most
at_most_first x [] = true
at_most_first x (y ∷ ys) = at_most x y

-- Each element is at most the next.
unfoldable pub in_order : List Float → Bool
unfolding at_most_first
in_order [] = true
in_order (x ∷ xs) = at_most_first x xs && in_order xs
