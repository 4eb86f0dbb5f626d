-- The labels of places, as the walk over them writes them: for any nodes, and place by place where the nodes are those of which f holds.
use mathlib.Core.Path.{◌≡◌, refl, sym, ap, ap₂, ◌∙◌}
use mathlib.Core.Bool.{Bool, true, false, not, ◌&&◌, cond}
use mathlib.Core.List.{List, [], ◌∷◌, ◌++◌, map, append_assoc, append-nil}
use Prim.Native.Nat.{ℕ, zero, suc, ◌+◌, ◌-◌, ◌^◌, ◌<◌, ◌≤◌}
use native.Mathlib.Numerals.{add-one}
use native.Mathlib.Nat.{sub-zero}
use native.Mathlib.Omega.{arith}
use lib.Dec.{eqb, ltb}
use lib.IntN.{ℤ, pos, negsuc}
use lib.ListN.{length, get_or, set, take, drop}
use lib.Seq.{take_all, take-suc-set}
use borrow.Author.Tests.{lt-ltb, le-ltb, ne_eqb}
use Rattle.std.proofs.Common.{Bor, Iter}
use Rattle.std.specs.declared.iter.Enumerate.{Enumerate}
use Rattle.std.specs.Prelude.{Option, Some, None, MatchOption}
use Rattle.lists.proofs.Tests.{eqb_self}
use Rattle.lists.specs.Lists.{from, upto, position, select}
use Rattle.cluster.specs.Cluster.{label_count, place_label, labels_from}
use Rattle.cluster.proofs.Before.{before, before_on, before_not, node_test, position_is, member_is}

-- ---- the nodes that an iterator has left

-- u nodes are taken. What was peeked, if anything, is the next node with its number; behind it `rest` is left, counted from `count`.
abbrev pub Left : List ℕ → ℕ → Option (Option (ℕ × Bor ℕ)) → List ℕ → ℕ → Type 0
Left ns u peeked rest count =
    MatchOption peeked ((rest ≡ drop u ns) × (count ≡ u)) (λ o. MatchOption o (drop u ns ≡ []) (λ x. (x.0 ≡ u) × (drop u ns ≡ x.1.now ∷ rest) × (count ≡ u + 1)))

-- o is what was peeked, or what comes next.
abbrev pub Next : Option (Option (ℕ × Bor ℕ)) → Option (ℕ × Bor ℕ) → Enumerate (Iter ℕ) → Enumerate (Iter ℕ) → Type 0
Next peeked o e e' =
    MatchOption peeked
    (MatchOption o (((length e.iter.rest.now ≡ 0) × (e'.iter ≡ e.iter)) × (e'.count ≡ e.count))
    (λ x. (e.iter.rest.now ≡ x.1.now ∷ e'.iter.rest.now) × (x.0 ≡ e.count) × (e'.count ≡ e.count + 1) × (x.0 + 1 < 2 ^ 64)))
    (λ q. (o ≡ q) × (e' ≡ e))

none : (l : List ℕ) → length l ≡ 0 → l ≡ []
none [] e = refl
none (x ∷ l) e = absurd (omega arith)

pub looked : (ns : List ℕ) (u : ℕ) (peeked : Option (Option (ℕ × Bor ℕ))) (o : Option (ℕ × Bor ℕ)) (e e' : Enumerate (Iter ℕ)) → Left ns u peeked e.iter.rest.now e.count
    → Next peeked o e e' → Left ns u (Some o) e'.iter.rest.now e'.count × (e'.count + length e'.iter.rest.now ≤ e.count + length e.iter.rest.now)
looked ns u None None e e' (r, k) ((z, s), q) = (sym r ∙ none e.iter.rest.now z, rw (s, q) (omega arith))
looked ns u None (Some x) e e' (r, k) (d, n, q, b) = ((n ∙ k, sym r ∙ d, q ∙ ap (λ (z : ℕ). z + 1) k), omega (arith, ap length d))
looked ns u (Some q) o e e' left (a, s) = rw (a, s) (left, omega arith)

dropped : (ns : List ℕ) (u y : ℕ) (rest : List ℕ) → drop u ns ≡ y ∷ rest → (u < length ns) × (get_or ns u 0 ≡ y) × (rest ≡ drop (suc u) ns)
dropped [] zero y rest e = absurd (cc)
dropped [] (suc u) y rest e = absurd (cc)
dropped (n ∷ ns) zero y rest e = let a : n ≡ y = cc in let b : ns ≡ rest = cc in (omega arith, a, sym b)
dropped (n ∷ ns) (suc u) y rest e = let d = dropped ns u y rest e in (omega (arith, d.0), d.1, d.2)

past : (ns : List ℕ) (u : ℕ) → drop u ns ≡ [] → length ns ≤ u
past [] u e = omega arith
past (n ∷ ns) zero e = absurd (cc)
past (n ∷ ns) (suc u) e = omega (arith, past ns u e)

-- o is no node, or not place i.
abbrev pub Other : ℕ → Option (ℕ × Bor ℕ) → Type 0
Other i o = MatchOption o (Unit {0}) (λ x. x.1.now ≡ i → ⊥)

pub other_by : {P : ℕ × Bor ℕ → Type 0} (i : ℕ) (o : Option (ℕ × Bor ℕ)) → MatchOption o (Unit {0}) P → ((x : ℕ × Bor ℕ) → P x → x.1.now ≡ i → ⊥) → Other i o
other_by i None p h = tt
other_by i (Some x) p h = h x p

-- The node that was peeked is taken.
pub taken : (ns : List ℕ) (u count : ℕ) (x : ℕ × Bor ℕ) (rest : List ℕ) → Left ns u (Some (Some x)) rest count → Left ns (u + 1) None rest count
taken ns u count x rest (a, d, q) = (rw (add-one u) (dropped ns u x.1.now rest d).2, q)

-- ---- the walk

module _ (single : Bool) (nodes groups : List ℕ) where
  -- The places below i are labelled, u of them being nodes: with the labels of the n - i others these are all.
  unfoldable pub Walked : List ℤ → ℕ → ℕ → ℕ → Type 0
  Walked labels n u i = take i labels ++ labels_from single nodes groups u i (n - i) ≡ labels_from single nodes groups 0 0 n

  pub walk_start : (labels : List ℤ) (n : ℕ) → Walked labels n 0 0
  unfolding Walked
  walk_start labels n = ap (labels_from single nodes groups 0 0) (sub-zero n)

  walk_on : (labels : List ℤ) (n u i : ℕ) (node : Bool) {l : ℤ} → Walked labels n u i → i < n → length labels ≡ n → (ltb u (length nodes) && eqb (get_or nodes u 0) i) ≡ node
      → l ≡ cond node (pos (get_or groups u 0)) (cond single (pos (label_count groups + (i - u))) (negsuc 0)) → Walked (set labels i l) n (cond node (u + 1) u) (i + 1)
  unfolding Walked labels_from
  walk_on labels n u i node {l} w h k t b =
      let r : n - i ≡ suc (n - suc i) = omega arith in
      let room : i < length labels = omega arith in
      rw (add-one i, take-suc-set labels i l room, append_assoc, b, ← t) (rw r at w)

  -- Place i is node x.
  pub walk_node : (labels : List ℤ) (n u i : ℕ) (x : ℕ × Bor ℕ) (rest : List ℕ) (count : ℕ) {l : ℤ} → Walked labels n u i → i < n → length labels ≡ n
      → Left nodes u (Some (Some x)) rest count → x.1.now ≡ i → l ≡ pos (get_or groups x.0 0) → Walked (set labels i l) n (u + 1) (i + 1)
  walk_node labels n u i x rest count w h k (a, d, q) e b =
      let at = dropped nodes u x.1.now rest d in
      walk_on labels n u i true w h k (rw (lt-ltb u (length nodes) at.0, at.1, e) (eqb_self i)) (b ∙ ap (λ (z : ℕ). pos (get_or groups z 0)) a)

  -- It is none.
  pub walk_past : (labels : List ℤ) (n u i : ℕ) (o : Option (ℕ × Bor ℕ)) (rest : List ℕ) (count : ℕ) {l : ℤ} → Walked labels n u i → i < n → length labels ≡ n
      → Left nodes u (Some o) rest count → Other i o
      → l ≡ cond single (pos (label_count groups + (i - u))) (negsuc 0) → Walked (set labels i l) n u (i + 1)
  walk_past labels n u i None rest count w h k d e b = walk_on labels n u i false w h k (rw (le-ltb u (length nodes) (past nodes u d))) b
  walk_past labels n u i (Some x) rest count w h k (a, d, q) e b =
      let at = dropped nodes u x.1.now rest d in
      walk_on labels n u i false w h k (rw (lt-ltb u (length nodes) at.0, at.1) (ne_eqb x.1.now i e)) b

  pub walk_end : (labels : List ℤ) (n u i : ℕ) → Walked labels n u i → n ≤ i → length labels ≡ n → labels ≡ labels_from single nodes groups 0 0 n
  unfolding Walked labels_from
  walk_end labels n u i w h e =
      let o : n - i ≡ 0 = omega arith in
      let t : length labels ≤ i = omega arith in
      sym (append-nil labels) ∙ rw (o, take_all i labels t) at w

-- ---- nodes in place order

module _ (f : ℕ → Bool) (single : Bool) (gs : List ℕ) (n : ℕ) where
  abbrev pub ns : List ℕ
  ns = select f (upto n)

  abbrev pub ss : List ℕ
  ss = select (λ i. not (f i)) (upto n)

  -- The label of place i, from how many nodes are before it.
  abbrev label_from : Bool → ℕ → ℕ → ℤ
  label_from node u i = cond node (pos (get_or gs u 0)) (cond single (pos (label_count gs + (i - u))) (negsuc 0))

  label_is : (i : ℕ) → i < n → place_label single ns ss gs i ≡ label_from (f i) (before f i) i
  unfolding place_label
  label_is i h = ap (λ (t : Bool). cond t (pos (get_or gs (position i ns) 0)) (cond single (pos (label_count gs + position i ss)) (negsuc 0))) (member_is f n i h) ∙ go (f i) refl
    where
      go : (t : Bool) → f i ≡ t → cond t (pos (get_or gs (position i ns) 0)) (cond single (pos (label_count gs + position i ss)) (negsuc 0)) ≡ label_from t (before f i) i
      go true e = ap (λ (z : ℕ). pos (get_or gs z 0)) (position_is f n i h e)
      go false e =
          let p : position i ss ≡ i - before f i = position_is (λ j. not (f j)) n i h (ap not e) ∙ (let a = before_not f i in omega arith) in
          ap (λ (z : ℕ). cond single (pos (label_count gs + z)) (negsuc 0)) p

  -- From place i on.
  in_order : (k i : ℕ) → i + k ≡ n → labels_from single ns gs (before f i) i k ≡ map (place_label single ns ss gs) (from i k)
  unfolding labels_from from
  in_order zero i e = refl
  in_order (suc k) i e =
      let h : i < n = omega arith in
      let t = node_test f n i h in
      ap₂ {C = List ℤ} (λ (z : ℤ) (zs : List ℤ). z ∷ zs)
      (ap (λ (b : Bool). label_from b (before f i) i) t ∙ sym (label_is i h))
      (ap (λ (b : Bool). labels_from single ns gs (cond b (before f i + 1) (before f i)) (suc i) k) t
      ∙ ap (λ (u : ℕ). labels_from single ns gs u (suc i) k) (sym (before_on f i))
      ∙ in_order k (suc i) (omega arith))

  -- Where the nodes stand in place order, the walk gives each place its label.
  pub labels_in_order : labels_from single ns gs 0 0 n ≡ map (place_label single ns ss gs) (upto n)
  unfolding upto from select
  labels_in_order = in_order n 0 (omega arith)
