-- Serves the contracts of this crate's own functions; no public contract reaches it.
use Rattle.std.specs.Prelude.{ℕ, ◌<◌, List, length, get_or}

-- Every item is below b.
unfoldable pub Below : ℕ → List ℕ → Type 0
Below b l = (k : ℕ) → k < length l → get_or l k 0 < b

-- The item at each place k is one that the conversion `gives` makes of k.
abbrev pub Counts : {A : Type 0} → (ℕ → A → Type 0) → List A → Type 0
Counts {A} gives l = (k : ℕ) (d : A) → k < length l → gives k (get_or l k d)
