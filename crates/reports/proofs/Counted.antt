-- How many of some labels are l, counted one after the other.
use mathlib.Core.Path.{◌≡◌}
use mathlib.Core.Bool.{Bool, true, false, cond}
use mathlib.Core.List.{List, [], ◌∷◌}
use Prim.Native.Nat.{ℕ, suc, ◌+◌, ◌<◌, ◌≤◌}
use native.Mathlib.Numerals.{add-one}
use native.Mathlib.Omega.{arith}
use lib.IntN.{ℤ, pos}
use lib.ListN.{length, get_or, drop, drop_of_length-le}
use lib.Seq.{drop-cons}
-- Named so that the examples are checked before these lemmas.
use Rattle.reports.specs.Examples
use Rattle.reports.specs.Labels.{is_label}
use Rattle.reports.specs.Visits.{visits_to}

-- ---- the visits from place i on: those behind it, and one more where its label is l

visits_on : (ks : List ℤ) (l i : ℕ) → i < length ks
    → visits_to (drop i ks) l ≡ cond (is_label l (get_or ks i (pos 0))) (suc (visits_to (drop (i + 1) ks) l)) (visits_to (drop (i + 1) ks) l)
unfolding visits_to
visits_on ks l i h = rw (drop-cons ks i (pos 0) h, add-one i)

pub visits_yes : (ks : List ℤ) (l i : ℕ) → i < length ks → is_label l (get_or ks i (pos 0)) ≡ true → visits_to (drop i ks) l ≡ suc (visits_to (drop (i + 1) ks) l)
visits_yes ks l i h t = rw t at (visits_on ks l i h)

pub visits_no : (ks : List ℤ) (l i : ℕ) → i < length ks → is_label l (get_or ks i (pos 0)) ≡ false → visits_to (drop i ks) l ≡ visits_to (drop (i + 1) ks) l
visits_no ks l i h t = rw t at (visits_on ks l i h)

pub visits_end : (ks : List ℤ) (l i : ℕ) → length ks ≤ i → visits_to (drop i ks) l ≡ 0
unfolding visits_to
visits_end ks l i h = rw (drop_of_length-le ks {i = i} h)

-- ---- they are at most as many as the labels

pub visits_few : (ks : List ℤ) (l : ℕ) → visits_to ks l ≤ length ks
unfolding visits_to
visits_few [] l = omega arith
visits_few (k ∷ ks) l = go (is_label l k) (visits_few ks l)
  where
    go : (b : Bool) → visits_to ks l ≤ length ks → cond b (suc (visits_to ks l)) (visits_to ks l) ≤ suc (length ks)
    go true h = omega arith
    go false h = omega arith
