-- (a) and (b) of demand 3 for places: when a place's label is -1, and chains between places of one label.
use mathlib.Core.Path.{◌≡◌, refl, sym, ap, ◌∙◌, subst}
use mathlib.Core.Logic.{◌↔◌}
use mathlib.Core.Bool.{Bool, true, false, cond}
use mathlib.Core.List.{List, [], ◌∷◌, map}
use Prim.Native.Nat.{ℕ, zero, suc, ◌+◌, ◌<◌, ◌≤◌}
use native.Mathlib.Omega.{arith}
use borrow.Author.Tests.{eqb-true, eq-eqb}
use lib.Dec.{eqb}
use lib.IntN.{ℤ, pos, pos-ne-negsuc}
use lib.ListN.{length, get_or}
use lib.Ieee.{Float}
use Rattle.lists.specs.Lists.{minus_one, Has, upto, member, position}
use Rattle.lists.proofs.Tests.{clash}
use Rattle.lists.proofs.Upto.{length_upto, get_or_upto}
use Rattle.lists.proofs.Members.{member_has, has_member, position_lt, get_or_position, position_injective}
use Rattle.neighbors.specs.Places.{Place}
use Rattle.neighbors.specs.StepsPlaces.{stay_count}
use Rattle.distance.specs.Distance.{Metric}
use Rattle.neighbors.specs.Links.{linked, nodes, singles}
use Rattle.neighbors.specs.Chains.{Chain, alone}
use Rattle.neighbors.proofs.Found.{Counted}
use Rattle.neighbors.proofs.NodeList.{node_lt, node_linked, linked_node, unlinked_single}
use Rattle.infomap.specs.Infomap.{kept_grouping, run_infomap, relabel_dense}
use Rattle.run_laws.proofs.Ways.{Joined}
use Rattle.run_laws.proofs.Joined.{kept_joined}
-- Named so that the example is checked before these lemmas.
use Rattle.cluster.specs.Examples
use Rattle.cluster.specs.Cluster.{node_network, label_count, place_label, cluster}
use Rattle.cluster.proofs.NodeNetwork.{node_size, node_both, way_chain}
use Rattle.cluster.proofs.Relabelled.{relabel_long, relabel_alike}
use Rattle.cluster.proofs.LabelCount.{label_lt}

map_upto : (f : ℕ → ℤ) (d : ℤ) (n i : ℕ) → i < n → get_or (map f (upto n)) i d ≡ f i
map_upto f d n i h = at (upto n) i (subst (λ (z : ℕ). i < z) (sym (length_upto n)) h) ∙ ap f (get_or_upto n i h)
  where
    at : (l : List ℕ) (i : ℕ) → i < length l → get_or (map f l) i d ≡ f (get_or l i 0)
    at [] i q = absurd (omega arith)
    at (x ∷ xs) zero q = refl
    at (x ∷ xs) (suc i) q = at xs i (omega arith)

pos_injective : (a b : ℕ) → pos a ≡ pos b → a ≡ b
pos_injective a b e = cc

module _ (dist : Metric) (r2 : Float) (single : Bool) (seed : ℕ) (ps : List Place) where
  abbrev ns : List ℕ
  ns = nodes dist r2 ps

  abbrev ss : List ℕ
  ss = singles dist r2 ps

  -- The nodes' labels.
  abbrev pub ls : List ℕ
  ls = (run_infomap (node_network dist r2 ps) seed).partition

  abbrev pub label_of : ℕ → ℤ
  label_of i = get_or (cluster dist r2 single seed ps).labels i minus_one

  label_is : (i : ℕ) → i < length ps → label_of i ≡ place_label single ns ss ls i
  unfolding cluster
  label_is i h = map_upto (place_label single ns ss ls) minus_one (length ps) i h

  pub node_label : (i : ℕ) → Has ns i → label_of i ≡ pos (get_or ls (position i ns) 0)
  node_label i m = label_is i (node_lt dist r2 ps i m) ∙ go
    where
      go : place_label single ns ss ls i ≡ pos (get_or ls (position i ns) 0)
      go = unfold place_label in ap (λ (b : Bool). cond b (pos (get_or ls (position i ns) 0)) (cond single (pos (label_count ls + position i ss)) minus_one)) (has_member i ns m)

  not_member : (i : ℕ) → i < length ps → linked dist r2 ps i ≡ false → member i ns ≡ false
  not_member i h e = go (member i ns) refl
    where
      go : (b : Bool) → member i ns ≡ b → b ≡ false
      go true q = clash (linked dist r2 ps i) (node_linked dist r2 ps i (member_has i ns q)) e
      go false q = refl

  pub single_label : (i : ℕ) → i < length ps → linked dist r2 ps i ≡ false → label_of i ≡ cond single (pos (label_count ls + position i ss)) minus_one
  single_label i h e = label_is i h ∙ go
    where
      go : place_label single ns ss ls i ≡ cond single (pos (label_count ls + position i ss)) minus_one
      go = unfold place_label in ap (λ (b : Bool). cond b (pos (get_or ls (position i ns) 0)) (cond single (pos (label_count ls + position i ss)) minus_one)) (not_member i h e)

  -- (a) A place's label is -1 exactly when singles go unlabelled and it has no link.
  pub label_none : (i : ℕ) → i < length ps → (label_of i ≡ minus_one) ↔ ((single ≡ false) × (linked dist r2 ps i ≡ false))
  label_none i h = (to (linked dist r2 ps i) refl single refl, λ p. single_label i h p.1 ∙ ap (λ (b : Bool). cond b (pos (label_count ls + position i ss)) minus_one) p.0)
    where
      to : (b : Bool) → linked dist r2 ps i ≡ b → (s : Bool) → single ≡ s → label_of i ≡ minus_one → (single ≡ false) × (linked dist r2 ps i ≡ false)
      to true q s r e = absurd (pos-ne-negsuc (get_or ls (position i ns) 0) 0 (sym (node_label i (linked_node dist r2 ps i h q)) ∙ e))
      to false q true r e = absurd (pos-ne-negsuc (label_count ls + position i ss) 0 (sym (single_label i h q ∙ ap (λ (b : Bool). cond b (pos (label_count ls + position i ss)) minus_one) r) ∙ e))
      to false q false r e = (r, q)

  -- ---- (b)
  module _ (c : Counted ps) (few : length ps ≤ 512) (stays : stay_count ps ≤ 65536) where
    part_joined : Joined (node_network dist r2 ps) (kept_grouping (node_network dist r2 ps) seed).partition
    part_joined = kept_joined (node_network dist r2 ps) (node_both dist r2 ps c few stays) seed

    abbrev pub part : List ℕ
    part = (kept_grouping (node_network dist r2 ps) seed).partition

    pub part_long : length part ≡ length ns
    part_long = part_joined.long ∙ node_size dist r2 ps c few stays

    pub labels_are : ls ≡ relabel_dense part
    unfolding run_infomap
    labels_are = refl

    pub labels_long : length ls ≡ length ns
    labels_long = ap length labels_are ∙ relabel_long part ∙ part_long

    eqb_eq : (a b a' b' : ℕ) → eqb a b ≡ eqb a' b' → a' ≡ b' → a ≡ b
    eqb_eq a b a' b' e p = eqb-true a b (e ∙ eq-eqb a' b' p)

    nodes_chain : (u v : ℕ) → u < length ns → v < length ns → get_or ls u 0 ≡ get_or ls v 0 → Chain dist r2 ps (get_or ns u 0) (get_or ns v 0)
    nodes_chain u v h k e =
        let hp : u < length part = subst (λ (m : ℕ). u < m) (sym part_long) h in
        let kp : v < length part = subst (λ (m : ℕ). v < m) (sym part_long) k in
        let same : get_or part u 0 ≡ get_or part v 0 = eqb_eq (get_or part u 0) (get_or part v 0) (get_or (relabel_dense part) u 0) (get_or (relabel_dense part) v 0) ((relabel_alike part).groups u v hp kp)
        (subst (λ (z : List ℕ). get_or z u 0 ≡ get_or z v 0) labels_are e) in
        way_chain dist r2 ps c few stays
        (part_joined.ways u v (subst (λ (m : ℕ). u < m) part_joined.long hp) (subst (λ (m : ℕ). v < m) part_joined.long kp) same) h

    pub node_below : (i : ℕ) → Has ns i → get_or ls (position i ns) 0 < label_count ls
    node_below i m = label_lt ls (position i ns) (subst (λ (z : ℕ). position i ns < z) (sym labels_long) (position_lt i ns m))

    pub single_pos : (i l : ℕ) → i < length ps → linked dist r2 ps i ≡ false → label_of i ≡ pos l → (l ≡ label_count ls + position i ss)
    single_pos i l h q e = go single (single_label i h q)
      where
        go : (s : Bool) → label_of i ≡ cond s (pos (label_count ls + position i ss)) minus_one → l ≡ label_count ls + position i ss
        go true r = pos_injective l (label_count ls + position i ss) (sym e ∙ r)
        go false r = absurd (pos-ne-negsuc l 0 (sym e ∙ r))

    -- Two places of one label are joined by a chain.
    pub label_chain : (i j l : ℕ) → i < length ps → j < length ps → label_of i ≡ pos l → label_of j ≡ pos l → Chain dist r2 ps i j
    label_chain i j l h k p q = go (linked dist r2 ps i) (linked dist r2 ps j) refl refl
      where
        go : (a b : Bool) → linked dist r2 ps i ≡ a → linked dist r2 ps j ≡ b → Chain dist r2 ps i j
        go true true x y =
            let mi = linked_node dist r2 ps i h x in
            let mj = linked_node dist r2 ps j k y in
            let e : get_or ls (position i ns) 0 ≡ get_or ls (position j ns) 0 =
            pos_injective (get_or ls (position i ns) 0) (get_or ls (position j ns) 0) (sym (node_label i mi) ∙ p ∙ sym q ∙ node_label j mj) in
            subst (λ (z : ℕ). Chain dist r2 ps z j) (get_or_position i ns mi) (subst (λ (z : ℕ). Chain dist r2 ps (get_or ns (position i ns) 0) z) (get_or_position j ns mj)
            (nodes_chain (position i ns) (position j ns) (position_lt i ns mi) (position_lt j ns mj) e))
        go true false x y =
            let mi = linked_node dist r2 ps i h x in
            absurd (let a = node_below i mi in let b = single_pos j l k y q in let d = pos_injective (get_or ls (position i ns) 0) l (sym (node_label i mi) ∙ p) in omega arith)
        go false true x y =
            let mj = linked_node dist r2 ps j k y in
            absurd (let a = node_below j mj in let b = single_pos i l h x p in let d = pos_injective (get_or ls (position j ns) 0) l (sym (node_label j mj) ∙ q) in omega arith)
        go false false x y =
            let a = single_pos i l h x p in
            let b = single_pos j l k y q in
            let e : i ≡ j = position_injective i j ss (unlinked_single dist r2 ps i h x) (unlinked_single dist r2 ps j k y) (omega arith) in
            subst (λ (z : ℕ). Chain dist r2 ps i z) e (alone h)
