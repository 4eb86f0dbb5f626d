-- The coordinates of a label's places, taken in one after the other.
use mathlib.Core.Path.{◌≡◌, refl, sym, ap, ◌∙◌}
use mathlib.Core.Bool.{true, false}
use mathlib.Core.List.{List, [], ◌∷◌, ◌++◌}
use Prim.Native.Nat.{ℕ, ◌+◌, ◌<◌, ◌≤◌}
use native.Mathlib.Omega.{arith}
use lib.IntN.{ℤ}
use lib.ListN.{length, take, drop}
use lib.Seq.{take_at, take-append-le, length-take-le}
use lib.Ieee.{Float}
use Rattle.stay.specs.StepsOrdered.{in_order}
use Rattle.stay.specs.Ordered.{insert_ordered, ordered_from, ordered, median}
use Rattle.stay.proofs.Ordered.{insert_length, insert_in_order}
-- Named so that the examples are checked before these lemmas.
use Rattle.reports.specs.Examples
use Rattle.reports.specs.Labels.{is_label}
use Rattle.reports.specs.LabelMedians.{with_label, label_median}

-- Behind an insertion the front is one longer.
inserted : (g h : List Float) (n : ℕ) (v : Float) → n < length g → h ≡ insert_ordered v (take n g) ++ drop (n + 1) g → take (n + 1) h ≡ insert_ordered v (take n g)
inserted g h n v k e =
    let i = insert_length v (take n g) in
    let j = length-take-le n g (omega arith) in
    ap (take (n + 1)) e ∙ take_at (insert_ordered v (take n g)) (drop (n + 1) g) (n + 1) (omega arith)

-- The front of the group, with the places that are left, gives all in order. Those have the labels js and the coordinates us.
pub record Gathered (l : ℕ) (ks : List ℤ) (vs g : List Float) (n : ℕ) (js : List ℤ) (us : List Float) : Type 0 where
  pub few : n + length js ≤ length ks
  pub one_length : length js ≡ length us
  pub in_front : in_order (take n g) ≡ true
  pub rest : ordered_from (take n g) (with_label l js us) ≡ ordered (with_label l ks vs)

-- What is left, place by place: a place with the label is inserted, and one with another is passed over.
module _ (l : ℕ) (k : ℤ) (ks : List ℤ) (v : Float) (vs : List Float) where
  pub gather_in : (g h : List Float) (n : ℕ) → h ≡ insert_ordered v (take n g) ++ drop (n + 1) g → n < length g → is_label l k ≡ true
      → ordered_from (take n g) (with_label l (k ∷ ks) (v ∷ vs)) ≡ ordered_from (take (n + 1) h) (with_label l ks vs)
  unfolding with_label ordered_from
  gather_in g h n e room b = rw (inserted g h n v room e, b) refl

  pub gather_past : is_label l k ≡ false → with_label l (k ∷ ks) (v ∷ vs) ≡ with_label l ks vs
  unfolding with_label
  gather_past b = rw b refl

pub front_ordered : (g h : List Float) (n : ℕ) (v : Float) → h ≡ insert_ordered v (take n g) ++ drop (n + 1) g → n < length g → in_order (take n g) ≡ true → in_order (take (n + 1) h) ≡ true
front_ordered g h n v e room o = rw (inserted g h n v room e) (insert_in_order v (take n g) o)

pub gather_end : {l : ℕ} {ks js : List ℤ} {vs us g : List Float} {n : ℕ} → Gathered l ks vs g n js us → js ≡ [] → take n g ≡ ordered (with_label l ks vs)
unfolding with_label ordered_from
gather_end {l} {ks} {js} {vs} {us} {g} {n} inv e = ap (λ (a : List ℤ). ordered_from (take n g) (with_label l a us)) (sym e) ∙ inv.rest

-- The median of the first n items of the group, which stands in front of its array.
pub gathered_median : (l : ℕ) (ks : List ℤ) (vs g a : List Float) (n : ℕ) {m : Float} → n ≤ length g → take n g ≡ ordered (with_label l ks vs)
    → m ≡ median (take n (g ++ a)) → m ≡ label_median ks vs l
unfolding label_median
gathered_median l ks vs g a n h e r = r ∙ ap median (take-append-le n g a h ∙ e)
