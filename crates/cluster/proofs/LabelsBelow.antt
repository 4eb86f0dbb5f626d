-- The labels of places are -1 or below the number of places.
use mathlib.Core.Path.{◌≡◌, refl, ◌∙◌}
use mathlib.Core.Logic.{◌⊎◌, inl, inr}
use mathlib.Core.Bool.{Bool, true, false, not, cond}
use mathlib.Core.List.{List, [], ◌∷◌}
use Prim.Native.Nat.{ℕ, suc, ◌+◌, ◌<◌, ◌≤◌}
use native.Mathlib.Decide.{dec_lt}
use native.Mathlib.Omega.{arith}
use lib.IntN.{ℤ, pos}
use lib.ListN.{length, get_or, length-map, get_or-eq_default}
use lib.Ieee.{Float}
use Rattle.lists.specs.Lists.{upto, position, select, minus_one}
use Rattle.lists.proofs.Members.{position_lt}
use Rattle.lists.proofs.Upto.{length_upto}
use Rattle.neighbors.specs.Places.{Place}
use Rattle.neighbors.specs.StepsPlaces.{stay_count}
use Rattle.distance.specs.Distance.{Metric}
use Rattle.neighbors.specs.Links.{linked, nodes, singles}
use Rattle.neighbors.proofs.Found.{Counted}
use Rattle.neighbors.proofs.NodeList.{linked_node, unlinked_single}
use Rattle.cluster.specs.Cluster.{label_count, cluster}
use Rattle.cluster.proofs.Labelled.{label_of, ls, part, labels_are, labels_long, node_label, node_below, single_label}
use Rattle.cluster.proofs.Clustered.{dense_few}

-- A label is -1 or below n.
abbrev pub Below : ℕ → ℤ → Type 0
Below n z = (z ≡ minus_one) ⊎ ((l : ℕ) × (l < n) × (z ≡ pos l))

-- A test or its negation selects each item.
select_both : (f : ℕ → Bool) (l : List ℕ) → length (select f l) + length (select (λ x. not (f x)) l) ≡ length l
unfolding select
select_both f [] = refl
select_both f (y ∷ ys) = go (f y) (select_both f ys)
  where
    go : (b : Bool) → length (select f ys) + length (select (λ x. not (f x)) ys) ≡ length ys
        → length (cond b (y ∷ select f ys) (select f ys)) + length (cond (not b) (y ∷ select (λ x. not (f x)) ys) (select (λ x. not (f x)) ys)) ≡ suc (length ys)
    go true h = omega arith
    go false h = omega arith

module _ (dist : Metric) (r2 : Float) (single : Bool) (seed : ℕ) (ps : List Place) (c : Counted ps) (few : length ps ≤ 512) (stays : stay_count ps ≤ 65536) where
  abbrev gs : List ℕ
  gs = ls dist r2 single seed ps

  abbrev ss : List ℕ
  ss = singles dist r2 ps

  places_are : length (nodes dist r2 ps) + length ss ≡ length ps
  unfolding nodes singles
  places_are = select_both (linked dist r2 ps) (upto (length ps)) ∙ length_upto (length ps)

  labels_fit : label_count gs + length ss ≤ length ps
  labels_fit =
      let a : label_count gs ≤ length gs = rw (labels_are dist r2 single seed ps c few stays) (dense_few (part dist r2 single seed ps c few stays)) in
      let b = labels_long dist r2 single seed ps c few stays in
      let d = places_are in
      omega arith

  pub labels_below : (i : ℕ) → i < length ps → Below (length ps) (label_of dist r2 single seed ps i)
  labels_below i h = go (linked dist r2 ps i) refl
    where
      one : (s : Bool) → linked dist r2 ps i ≡ false → Below (length ps) (cond s (pos (label_count gs + position i ss)) minus_one)
      one true q = let a = position_lt i ss (unlinked_single dist r2 ps i h q) in let b = labels_fit in inr (label_count gs + position i ss, omega arith, refl)
      one false q = inl refl

      go : (b : Bool) → linked dist r2 ps i ≡ b → Below (length ps) (label_of dist r2 single seed ps i)
      go true q =
          let m = linked_node dist r2 ps i h q in
          let a = node_below dist r2 single seed ps c few stays i m in
          let b = labels_fit in
          inr (get_or gs (position i (nodes dist r2 ps)) 0, omega arith, node_label dist r2 single seed ps i m)
      go false q = rw (single_label dist r2 single seed ps i h q) (one single q)

  -- What is read past the labels is -1.
  pub label_below : (i : ℕ) → Below (length ps) (get_or (cluster dist r2 single seed ps).labels i minus_one)
  label_below i = go (dec_lt i (length ps))
    where
      long : length (cluster dist r2 single seed ps).labels ≡ length ps
      long = unfold cluster in length-map (upto (length ps)) _ ∙ length_upto (length ps)

      go : Dec (i < length ps) → Below (length ps) (get_or (cluster dist r2 single seed ps).labels i minus_one)
      go (yes h) = labels_below i h
      go (no h) = inl (get_or-eq_default (cluster dist r2 single seed ps).labels minus_one {n = i} (omega (arith, long)))
