-- The labels of places have no gap: below a label each number is the label of a place.
use mathlib.Core.Path.{◌≡◌, refl, sym, ap, ◌∙◌, subst}
use mathlib.Core.Bool.{Bool, true, false, not, cond}
use mathlib.Core.List.{List, [], ◌∷◌}
use Prim.Native.Nat.{ℕ, zero, suc, ◌+◌, ◌-◌, ◌<◌, ◌≤◌}
use native.Mathlib.Decide.{dec_lt}
use native.Mathlib.Omega.{arith}
use borrow.Author.Tests.{eqb-true, not-true}
use lib.IntN.{ℤ, pos, pos-ne-negsuc}
use lib.ListN.{length, get_or, length-map}
use lib.Ieee.{Float}
use Rattle.lists.specs.Lists.{Has, upto, position, minus_one}
use Rattle.lists.proofs.Members.{has_at, position_lt, select_true, select_position}
use Rattle.lists.proofs.Upto.{length_upto}
use Rattle.neighbors.specs.Places.{Place}
use Rattle.neighbors.specs.StepsPlaces.{stay_count}
use Rattle.distance.specs.Distance.{Metric}
use Rattle.neighbors.specs.Links.{linked, nodes, singles}
use Rattle.neighbors.proofs.Found.{Counted}
use Rattle.neighbors.proofs.NodeList.{node_lt, linked_node, node_at, node_position, single_lt, unlinked_single}
use Rattle.map_state.specs.MapState.{lowest, leads}
use Rattle.map_state.proofs.Leaders.{lowest_of}
use Rattle.infomap.specs.Infomap.{rank, relabel_dense}
use Rattle.cluster.specs.Cluster.{label_count, cluster, NoGap}
use Rattle.cluster.proofs.Relabelled.{relabel_at, relabel_long}
use Rattle.cluster.proofs.Labelled.{label_of, ls, part, part_long, labels_are, node_label, node_below, single_label, single_pos}

-- ---- of nodes

-- A rank below another is that of a lowest member.
rank_reached : (part : List ℕ) (b l : ℕ) → l < rank part b → (a : ℕ) × (a < b) × (leads part a ≡ true) × (rank part a ≡ l)
unfolding rank
rank_reached part zero l h = absurd (omega arith)
rank_reached part (suc v) l h = go (leads part v) refl h (dec_lt l (rank part v)) (rank_reached part v l)
  where
    go : (b : Bool) → leads part v ≡ b → l < cond b (suc (rank part v)) (rank part v) → Dec (l < rank part v)
        → (l < rank part v → (a : ℕ) × (a < v) × (leads part a ≡ true) × (rank part a ≡ l)) → (a : ℕ) × (a < suc v) × (leads part a ≡ true) × (rank part a ≡ l)
    go b e k (yes p) ih = let r = ih p in let q : r.0 < v = r.1 in (r.0, omega arith, r.2, r.3)
    go true e k (no p) ih = (v, omega arith, e, omega arith)
    go false e k (no p) ih = absurd (p k)

-- A dense label below another is a node's.
dense_reached : (part : List ℕ) (u l : ℕ) → u < length part → l < get_or (relabel_dense part) u 0 → (v : ℕ) × (v < length part) × (get_or (relabel_dense part) v 0 ≡ l)
unfolding leads
dense_reached part u l h k =
    let m = lowest_of part u h in
    let r = rank_reached part (lowest (get_or part u 0) part) l (subst (λ (z : ℕ). l < z) (relabel_at part u h) k) in
    let q : r.0 < lowest (get_or part u 0) part = r.1 in
    let w : r.0 < length part = omega arith in
    (r.0, w, relabel_at part r.0 w ∙ ap (rank part) (eqb-true (lowest (get_or part r.0 0) part) r.0 r.2) ∙ r.3)

-- Below the number of labels there is one at least as high.
count_reached : (ls : List ℕ) (l : ℕ) → l < label_count ls → (u : ℕ) × (u < length ls) × (l ≤ get_or ls u 0)
unfolding label_count
count_reached [] l h = absurd (omega arith)
count_reached (x ∷ xs) l h = go (dec_lt l (label_count xs)) (count_reached xs l)
  where
    go : Dec (l < label_count xs) → (l < label_count xs → (u : ℕ) × (u < length xs) × (l ≤ get_or xs u 0)) → (u : ℕ) × (u < suc (length xs)) × (l ≤ get_or (x ∷ xs) u 0)
    go (yes p) ih = let r = ih p in let q : r.0 < length xs = r.1 in (suc r.0, omega arith, r.2)
    go (no p) ih = (0, omega arith, omega arith)

node_reached : (part : List ℕ) (l : ℕ) → l < label_count (relabel_dense part) → (v : ℕ) × (v < length part) × (get_or (relabel_dense part) v 0 ≡ l)
node_reached part l h =
    let r = count_reached (relabel_dense part) l h in
    let k : r.0 < length part = subst (λ (n : ℕ). r.0 < n) (relabel_long part) r.1 in
    go r.0 k r.2 (dec_lt l (get_or (relabel_dense part) r.0 0))
  where
    go : (u : ℕ) → u < length part → l ≤ get_or (relabel_dense part) u 0 → Dec (l < get_or (relabel_dense part) u 0) → (v : ℕ) × (v < length part) × (get_or (relabel_dense part) v 0 ≡ l)
    go u k m (yes p) = dense_reached part u l k p
    go u k m (no p) = (u, k, omega arith)

-- ---- of places

module _ (dist : Metric) (r2 : Float) (single : Bool) (seed : ℕ) (ps : List Place) (c : Counted ps) (few : length ps ≤ 512) (stays : stay_count ps ≤ 65536) where
  abbrev gs : List ℕ
  gs = ls dist r2 single seed ps

  abbrev at : ℕ → ℤ
  at = label_of dist r2 single seed ps

  abbrev ss : List ℕ
  ss = singles dist r2 ps

  Reached : ℕ → Type 0
  Reached l = (j : ℕ) × (j < length ps) × (at j ≡ pos l)

  -- Below the number of node labels.
  by_node : (l : ℕ) → l < label_count gs → Reached l
  unfolding Reached
  by_node l h =
      let r = node_reached (part dist r2 single seed ps c few stays) l (subst (λ (z : List ℕ). l < label_count z) (labels_are dist r2 single seed ps c few stays) h) in
      let v = r.0 in
      let k : v < length (nodes dist r2 ps) = subst (λ (n : ℕ). v < n) (part_long dist r2 single seed ps c few stays) r.1 in
      let j = get_or (nodes dist r2 ps) v 0 in (
        j,
        node_lt dist r2 ps j (node_at dist r2 ps v k),
        node_label dist r2 single seed ps j (node_at dist r2 ps v k)
            ∙ ap (λ (z : ℕ). pos (get_or gs z 0)) (node_position dist r2 ps v k)
            ∙ ap pos (ap (λ (z : List ℕ). get_or z v 0) (labels_are dist r2 single seed ps c few stays) ∙ r.2),
      )

  -- From it on, the singles up to one that has a label.
  by_single : (k : ℕ) → k < length ss → single ≡ true → Reached (label_count gs + k)
  unfolding Reached singles
  by_single k h t =
      let j = get_or ss k 0 in
      let m : Has ss j = has_at ss k h in
      let un : linked dist r2 ps j ≡ false = not-true (linked dist r2 ps j) (select_true (λ i. not (linked dist r2 ps i)) (upto (length ps)) j m) in
      let p : position j ss ≡ k = select_position (λ i. not (linked dist r2 ps i)) (length ps) k h in (
        j,
        single_lt dist r2 ps j m,
        single_label dist r2 single seed ps j (single_lt dist r2 ps j m) un
            ∙ ap (λ (b : Bool). cond b (pos (label_count gs + position j ss)) minus_one) t
            ∙ ap (λ (z : ℕ). pos (label_count gs + z)) p,
      )

  below : (i l l' : ℕ) → i < length ps → at i ≡ pos l → l' ≤ l → Reached l'
  below i l l' h e k = go (dec_lt l' (label_count gs)) (linked dist r2 ps i) refl
    where
      labelled : (s : Bool) → single ≡ s → linked dist r2 ps i ≡ false → single ≡ true
      labelled true q u = q
      labelled false q u = absurd (pos-ne-negsuc l 0 (sym e ∙ single_label dist r2 single seed ps i h u ∙ ap (λ (b : Bool). cond b (pos (label_count gs + position i ss)) minus_one) q))

      go : Dec (l' < label_count gs) → (b : Bool) → linked dist r2 ps i ≡ b → Reached l'
      go (yes p) b q = by_node l' p
      go (no p) true q = absurd (
          let m = linked_node dist r2 ps i h q in
          let a = node_below dist r2 single seed ps c few stays i m in
          let d : pos (get_or gs (position i (nodes dist r2 ps)) 0) ≡ pos l = sym (node_label dist r2 single seed ps i m) ∙ e in
          let f : get_or gs (position i (nodes dist r2 ps)) 0 ≡ l = cc in
          omega arith)
      go (no p) false q =
          let a = single_pos dist r2 single seed ps c few stays i l h q e in
          let b = position_lt i ss (unlinked_single dist r2 ps i h q) in
          subst Reached (let z : label_count gs + (l' - label_count gs) ≡ l' = omega arith in z) (by_single (l' - label_count gs) (omega arith) (labelled single refl q))

  -- The labels that `cluster` gives.
  pub no_gap : NoGap (cluster dist r2 single seed ps).labels
  unfolding Reached
  no_gap i l l' h e k =
      let r = below i l l' (subst (λ (n : ℕ). i < n) long h) e k in
      (r.0, subst (λ (n : ℕ). r.0 < n) (sym long) r.1, r.2)
    where
      long : length (cluster dist r2 single seed ps).labels ≡ length ps
      long = unfold cluster in length-map (upto (length ps)) _ ∙ length_upto (length ps)
