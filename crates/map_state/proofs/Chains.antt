-- Searches over the nodes and the numbers of members: the definitions, as the code's loops and the library's words for chains have them.
use mathlib.Core.Path.{◌≡◌, refl, sym, ◌∙◌}
use mathlib.Core.Bool.{Bool, true, false, cond, not}
use mathlib.Core.List.{List, [], ◌∷◌}
use Prim.Native.Nat.{ℕ, suc, ◌+◌, ◌<◌, ◌≤◌}
use native.Mathlib.Decide.{dec_lt}
use native.Mathlib.Numerals.{add-one}
use native.Mathlib.Omega.{arith}
use borrow.Author.Tests.{lt-ltb, le-ltb, eq-eqb, ne_eqb}
use lib.Dec.{eqb, ltb}
use lib.ListN.{length, get_or, drop, drop_of_length-le}
use lib.Seq.{drop-cons}
use Rattle.std.specs.Prelude.{position, Option, Some, None}
use Rattle.std.specs.List.{position_or_len}
use Rattle.map_state.specs.MapState.{lowest, count}

lowest_len : (g : ℕ) (part : List ℕ) → position_or_len (λ p. eqb p g) part ≡ lowest g part
unfolding lowest
lowest_len g [] = refl
lowest_len g (x ∷ xs) = go (lowest_len g xs) (eqb x g) where
  go : position_or_len (λ p. eqb p g) xs ≡ lowest g xs → (b : Bool) → cond (not b) (1 + position_or_len (λ p. eqb p g) xs) 0 ≡ cond b 0 (suc (lowest g xs))
  go i true = refl
  go i false = omega arith

found_or_not : (g : ℕ) (part : List ℕ) → position (λ p. eqb p g) part ≡ cond (ltb (lowest g part) (length part)) (Some (lowest g part)) None
found_or_not g part = rw (lowest_len g part)

-- Where the search finds a member it is the lowest, and where it finds none the group has none.
pub found : (g : ℕ) (part : List ℕ) {o : Option ℕ} {a : ℕ} → o ≡ position (λ p. eqb p g) part → o ≡ Some a → (a ≡ lowest g part) × (a < length part)
found g part {a = a} e f = go (dec_lt (lowest g part) (length part)) (sym f ∙ e ∙ found_or_not g part) where
  go : Dec (lowest g part < length part) → Some a ≡ cond (ltb (lowest g part) (length part)) (Some (lowest g part)) None → (a ≡ lowest g part) × (a < length part)
  go (yes h) q = let i : a ≡ lowest g part = (let r : Some a ≡ Some (lowest g part) = rw (lt-ltb _ _ h) at q in cc) in (i, omega arith)
  go (no h) q = let r : Some a ≡ None = (let k : length part ≤ lowest g part = omega arith in rw (le-ltb _ _ k) at q) in cc

pub not_found : (g : ℕ) (part : List ℕ) {o : Option ℕ} → o ≡ position (λ p. eqb p g) part → o ≡ None → length part ≤ lowest g part
not_found g part e f = go (dec_lt (lowest g part) (length part)) (sym f ∙ e ∙ found_or_not g part) where
  go : Dec (lowest g part < length part) → None ≡ cond (ltb (lowest g part) (length part)) (Some (lowest g part)) None → length part ≤ lowest g part
  go (yes h) q = let r : None ≡ Some (lowest g part) = rw (lt-ltb _ _ h) at q in cc
  go (no h) q = omega arith

-- ---- the number of members from v on: a member first, another node, and none past the last
count_on : (g : ℕ) (part : List ℕ) (v : ℕ) → v < length part → count g (drop v part) ≡ cond (eqb (get_or part v 0) g) (suc (count g (drop (v + 1) part))) (count g (drop (v + 1) part))
unfolding count
count_on g part v h = rw (drop-cons part v 0 h, add-one v) refl

pub count_yes : (g : ℕ) (part : List ℕ) (v : ℕ) → v < length part → get_or part v 0 ≡ g → count g (drop v part) ≡ suc (count g (drop (v + 1) part))
count_yes g part v h t = rw (eq-eqb _ _ t) at (count_on g part v h)

pub count_no : (g : ℕ) (part : List ℕ) (v : ℕ) → v < length part → (get_or part v 0 ≡ g → ⊥) → count g (drop v part) ≡ count g (drop (v + 1) part)
count_no g part v h t = rw (ne_eqb _ _ t) at (count_on g part v h)

pub count_end : (g : ℕ) (part : List ℕ) (v : ℕ) → length part ≤ v → count g (drop v part) ≡ 0
unfolding count
count_end g part v h = rw (drop_of_length-le part {i = v} h)

pub count_few : (g : ℕ) (part : List ℕ) → count g part ≤ length part
unfolding count
count_few g [] = omega arith
count_few g (x ∷ xs) = go (eqb x g) (count_few g xs) where
  go : (b : Bool) → count g xs ≤ length xs → cond b (suc (count g xs)) (count g xs) ≤ suc (length xs)
  go true h = omega arith
  go false h = omega arith
