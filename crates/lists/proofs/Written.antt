-- A loop over a slice that writes each element.
use mathlib.Core.Path.{◌≡◌, sym, ◌∙◌}
use mathlib.Core.List.{List, [], ◌∷◌, ◌++◌, append_assoc, append-nil}
use Prim.Native.Nat.{ℕ, ◌+◌, ◌<◌, ◌≤◌}
use native.Mathlib.Numerals.{add-one}
use lib.ListN.{length, take, set}
use lib.Seq.{take-suc-set, take_all}

-- From i on, `left` is to come.
pub written_on : {A : Type 0} (out left all : List A) (i : ℕ) (v : A) → i < length out → take i out ++ (v ∷ left) ≡ all
    → take (i + 1) (set out i v) ++ left ≡ all
written_on out left all i v h e = rw (add-one i, take-suc-set out i v h, append_assoc) e

pub written_end : {A : Type 0} (out all : List A) (i : ℕ) → length out ≤ i → take i out ++ [] ≡ all → out ≡ all
written_end out all i h e = sym (take_all i out h) ∙ sym (append-nil (take i out)) ∙ e
