-- Serves the contracts of this crate's own functions; no public contract reaches it.
-- A text written byte by byte, as the code does.
use Rattle.std.specs.Prelude.{◌≡◌, ℕ, ◌+◌, Bool, true, false, cond, List, [], ◌∷◌, ltb, ℤ, pos, negsuc, length, set}
use Rattle.print.specs.declared.bytes.Output.{Output}

-- A slice, and how many of its bytes are written.
pub record Out : Type 0 where
  pub bytes : List ℕ
  pub used : ℕ

abbrev pub out : List ℕ → ℕ → Out
out l n = record { bytes = l; used = n }

-- One byte more, where there is room.
unfoldable pub push : Out → ℕ → Out
push o b = cond (ltb o.used (length o.bytes)) (out (set o.bytes o.used b) (o.used + 1)) o

-- A text more.
unfoldable pub pushes : Out → List ℕ → Out
pushes o [] = o
pushes o (b ∷ bs) = pushes (push o b) bs

-- A label that is printed as a number, and not as -1.
unfoldable pub is_number : ℤ → Bool
is_number (pos n) = true
is_number (negsuc n) = false

-- What such a slice holds in the code.
abbrev pub held : Output → Out
held o = out o.bytes.now o.used

-- From o the text t was written: o' holds the same slice still, with t behind what was written before.
pub record Wrote (o o' : Output) (t : List ℕ) : Type 0 where
  pub same : o'.bytes.ghost_name ≡ o.bytes.ghost_name
  pub written : held o' ≡ pushes (held o) t
