-- Serves the contracts of this crate's own functions; no public contract reaches it.
-- Parts of a slice, for building blocks of the crates above.
use Rattle.std.specs.Prelude.{ℕ, List, ◌++◌, take, drop}

-- The n elements from a.
abbrev pub part : {A : Type 0} → ℕ → ℕ → List A → List A
part a n w = take n (drop a w)

-- w with r for the n elements from a.
unfoldable pub put : {A : Type 0} → ℕ → ℕ → List A → List A → List A
put a n r w = take a w ++ (r ++ drop n (drop a w))
