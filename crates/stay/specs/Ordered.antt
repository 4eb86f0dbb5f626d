-- docs/RULES.md, "Stays": the coordinates of a group in order, and their median. Definitions only.
use Rattle.std.specs.Prelude.{ℕ, suc, ◌-◌, ◌/◌, Bool, ◌||◌, cond, List, [], ◌∷◌, ◌++◌, length, take, drop, get_or, Float}
use Rattle.std.specs.Float.{nan}
use Rattle.std.specs.Float.Ieee.{is_nan, le, add, mul, of_bits}
use Rattle.float.specs.Binary64.{add64, mul64, half64}

-- a is at most b. NaN, which no accepted track has, stands above every number, so that this orders all values.
unfoldable pub at_most : Float → Float → Bool
unfolding le is_nan
at_most a b = le a b || is_nan b

-- How many elements stand before the first that is not at most e: the Rust's partition_point(|x| x <= elem).
unfoldable pub insertion_point : Float → List Float → ℕ
unfolding at_most
insertion_point e [] = 0
insertion_point e (x ∷ xs) = cond (at_most x e) (suc (insertion_point e xs)) 0

-- e inserted there: "a new equal one after its equals".
unfoldable pub insert_ordered : Float → List Float → List Float
unfolding insertion_point
insert_ordered e xs = take (insertion_point e xs) xs ++ (e ∷ drop (insertion_point e xs) xs)

-- The elements of acc, and those of xs inserted one after the other.
unfoldable pub ordered_from : List Float → List Float → List Float
unfolding insert_ordered
ordered_from acc [] = acc
ordered_from acc (x ∷ xs) = ordered_from (insert_ordered x acc) xs

-- The elements in order.
unfoldable pub ordered : List Float → List Float
unfolding ordered_from
ordered xs = ordered_from [] xs

-- "0.5×(a+b) with a, b at (len-1)/2 and len/2". Of no elements it is NaN.
unfoldable pub median : List Float → Float
unfolding add mul of_bits
median xs = mul64 half64 (add64 (get_or xs ((length xs - 1) / 2) nan) (get_or xs (length xs / 2) nan))
