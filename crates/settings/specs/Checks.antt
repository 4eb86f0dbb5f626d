-- Checks in their order: the first cause is the one that is given. Definitions only.
use Rattle.std.specs.Prelude.{ℕ, suc, Bool, true, false, List, [], ◌∷◌, Result, Ok, Err}
use Rattle.settings.specs.declared.refusal.Refusal.{Refusal}

-- What a check answers: `Ok tt` where it accepts, and the cause where it refuses.
abbrev pub Checked : Type 0
Checked = Result (Unit {0}) Refusal

abbrev pub is_refused : Checked → Bool
is_refused (Ok x) = false
is_refused (Err e) = true

-- One cause.
unfoldable pub refuse_if : Bool → Refusal → Checked
refuse_if true e = Err e
refuse_if false e = Ok tt

-- The first of two checks, and where it accepts, the second.
unfoldable pub first_of : Checked → Checked → Checked
first_of (Ok x) d = d
first_of (Err e) d = Err e

-- Several checks.
unfoldable pub in_turn : List Checked → Checked
in_turn [] = Ok tt
in_turn (c ∷ cs) = first_of c (in_turn cs)

-- One check at each item.
unfoldable pub each_of : {A : Type 0} → (A → Checked) → List A → Checked
each_of f [] = Ok tt
each_of f (x ∷ xs) = first_of (f x) (each_of f xs)

-- One check at each item and its number, counted from k.
unfoldable pub each_from : {A : Type 0} → (ℕ → A → Checked) → ℕ → List A → Checked
each_from f k [] = Ok tt
each_from f k (x ∷ xs) = first_of (f k x) (each_from f (suc k) xs)
