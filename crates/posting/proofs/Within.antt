-- Labels that stand within their columns: at a place, and in a part of the slice.
use mathlib.Core.Path.{◌≡◌, refl, sym, ◌∙◌}
use mathlib.Core.Bool.{Bool, true, false}
use mathlib.Core.List.{List, [], ◌∷◌}
use Prim.Native.Nat.{ℕ, zero, suc, ◌<◌}
use native.Mathlib.Omega.{arith}
use lib.IntN.{ℤ, pos}
use lib.ListN.{length, get_or, take, drop}
use Rattle.lists.proofs.Tests.{and_left, and_right}
use Rattle.std.proofs.Common.{◌↔◌}
use Rattle.std.specs.Prelude.{IsTrue}
use Rattle.std.specs.List.{All}
use Rattle.posting.specs.Posted.{in_column, all_in_column}

any_at : (ls : List ℤ) (k : ℕ) (d : ℤ) → all_in_column ls ≡ true → k < length ls → in_column (get_or ls k d) ≡ true
unfolding all_in_column
any_at [] k d a h = absurd (omega arith)
any_at (l ∷ ls) zero d a h = and_left (in_column l) (all_in_column ls) a
any_at (l ∷ ls) (suc k) d a h = any_at ls k d (and_right (in_column l) (all_in_column ls) a) (omega arith)

pub label_at : (ls : List ℤ) (k : ℕ) → all_in_column ls ≡ true → k < length ls → in_column (get_or ls k (pos 0)) ≡ true
label_at ls k a h = any_at ls k (pos 0) a h

pub first_within : (n : ℕ) (ls : List ℤ) → all_in_column ls ≡ true → all_in_column (take n ls) ≡ true
unfolding all_in_column
first_within zero ls a = refl
first_within (suc n) [] a = refl
first_within (suc n) (l ∷ ls) a = rw (and_left (in_column l) (all_in_column ls) a) (first_within n ls (and_right (in_column l) (all_in_column ls) a))

pub rest_within : (n : ℕ) (ls : List ℤ) → all_in_column ls ≡ true → all_in_column (drop n ls) ≡ true
unfolding all_in_column
rest_within zero ls a = a
rest_within (suc n) [] a = refl
rest_within (suc n) (l ∷ ls) a = rest_within n ls (and_right (in_column l) (all_in_column ls) a)

-- ---- the answer of a test of each label

abbrev pub InColumn : ℤ → Type 0
InColumn l = in_column l ≡ true

all_pass : (ls : List ℤ) → All InColumn ls → all_in_column ls ≡ true
unfolding all_in_column
all_pass [] h = refl
all_pass (l ∷ ls) h = rw (h 0 (pos 0) (omega arith)) (all_pass ls (λ k d n. h (suc k) d (omega arith)))

pub all_is : (ls : List ℤ) {b : Bool} → (IsTrue b ↔ All InColumn ls) → b ≡ all_in_column ls
all_is ls {b} h = go b (all_in_column ls) refl refl
  where
    go : (b' t : Bool) → b ≡ b' → all_in_column ls ≡ t → b' ≡ t
    go true t e f = sym (all_pass ls (h.0 e)) ∙ f
    go false true e f = sym e ∙ h.1 (λ k d n. any_at ls k d f n)
    go false false e f = refl
