-- The labels by first member, node by node.
use mathlib.Core.Path.{◌≡◌, refl, sym, ap, ◌∙◌}
use mathlib.Core.Bool.{Bool, true, false, cond}
use mathlib.Core.List.{List, map}
use Prim.Native.Nat.{ℕ, zero, suc, ◌+◌, ◌<◌, ◌≤◌}
use native.Mathlib.Numerals.{add-one}
use native.Mathlib.Omega.{arith}
use borrow.Author.Tests.{eqb-true, eqb-false, eq-eqb, ne_eqb}
use lib.Dec.{eqb}
use lib.ListN.{length, get_or, set, length-map, length-set}
use lib.Seq.{ext_get_or}
use Rattle.map_state.specs.MapState.{lowest, leads}
use Rattle.lists.proofs.Maps.{get_or_map}
use Rattle.lists.proofs.Stores.{stored_below}
use Rattle.map_state.proofs.Leaders.{lowest_of}
use Rattle.std.specs.Prelude.{Option, Some, None, position}
use Rattle.map_state.proofs.Chains.{found, not_found}
use Rattle.map_state.proofs.Groups.{lowest_at}
use Rattle.infomap.specs.Infomap.{rank, relabel_dense}

abbrev pub label_at : List ℕ → ℕ → ℕ
label_at part v = rank part (lowest (get_or part v 0) part)

-- the count of groups goes on
pub rank_on : (part : List ℕ) (v : ℕ) {f next next' : ℕ} → f ≡ lowest (get_or part v 0) part → next ≡ rank part v → next' ≡ cond (eqb f v) (next + 1) next → next' ≡ rank part (v + 1)
unfolding rank leads
rank_on part v {next = next} p q e = e ∙ rw (p, q, add-one v, add-one (rank part v))

pub rank_le : (part : List ℕ) (v : ℕ) → rank part v ≤ v
unfolding rank
rank_le part zero = omega arith
rank_le part (suc v) = go (rank_le part v) (leads part v) where
  go : rank part v ≤ v → (b : Bool) → cond b (suc (rank part v)) (rank part v) ≤ suc v
  go h true = omega arith
  go h false = omega arith

-- the label of v, from the labels below it
pub label_on : (part labels : List ℕ) (v : ℕ) {f next x : ℕ} → v < length part → f ≡ lowest (get_or part v 0) part → next ≡ rank part v → ((k : ℕ) → k < v → get_or labels k 0 ≡ label_at part k)
    → x ≡ cond (eqb f v) next (get_or labels f 0) → x ≡ label_at part v
label_on part labels v {f} {next} h p q below e = e ∙ go (eqb f v) refl where
  go : (b : Bool) → eqb f v ≡ b → cond b next (get_or labels f 0) ≡ label_at part v
  go true t = q ∙ ap (rank part) (sym (eqb-true f v t) ∙ p)
  go false t =
      let o = lowest_of part v h in
      let d = eqb-false f v t in
      let i : lowest (get_or part v 0) part < v = omega arith in
      let s : get_or part f 0 ≡ get_or part v 0 = ap (λ (z : ℕ). get_or part z 0) p ∙ lowest_at (get_or part v 0) part (omega arith) in
      below f (omega arith) ∙ ap (λ (z : ℕ). rank part (lowest z part)) s

-- a node whose group has a member below it gets that member's label
module _ (part labels : List ℕ) (v : ℕ) {f next : ℕ} (h : v < length part) (p : f ≡ lowest (get_or part v 0) part) (q : next ≡ rank part v) where
  pub label_seen : f < v → ((k : ℕ) → k < v → get_or labels k 0 ≡ label_at part k) → get_or labels f 0 ≡ label_at part v
  label_seen d below = label_on part labels v {f = f} {next = next} h p q below (rw (ne_eqb f v (λ e. omega arith)))

  pub rank_seen : f < v → next ≡ rank part (v + 1)
  rank_seen d = rank_on part v {f = f} {next = next} p q (rw (ne_eqb f v (λ e. omega arith)))

-- the first member of a group gets a new one
module _ (part : List ℕ) (v : ℕ) {next : ℕ} (p : v ≡ lowest (get_or part v 0) part) (q : next ≡ rank part v) where
  pub label_new : next ≡ label_at part v
  label_new = q ∙ ap (rank part) p

  pub rank_new : next + 1 ≡ rank part (v + 1)
  rank_new = rank_on part v {f = v} {next = next} p q (rw (eq-eqb v v refl))

-- which it is where the search for its group's lowest member finds none below it
pub first_if_none : (part : List ℕ) (v : ℕ) {o : Option ℕ} → v < length part → o ≡ position (λ p. eqb p (get_or part v 0)) part → o ≡ None → v ≡ lowest (get_or part v 0) part
first_if_none part v h e n = absurd (omega (arith, not_found (get_or part v 0) part e n, lowest_of part v h))

pub first_if_above : (part : List ℕ) (v : ℕ) {o : Option ℕ} {f : ℕ} → v < length part → o ≡ position (λ p. eqb p (get_or part v 0)) part → o ≡ Some f → v ≤ f → v ≡ lowest (get_or part v 0) part
first_if_above part v h e n k = omega (arith, found (get_or part v 0) part e n, lowest_of part v h)

-- node v labelled: what is known of the labels below it goes on, and so does the count of groups
module _ (part labels : List ℕ) (v n : ℕ) {next : ℕ} (here : v < length part) (long : length labels ≡ n) (room : v < n) (below : (k : ℕ) → k < v → get_or labels k 0 ≡ label_at part k) (q : next ≡ rank part v) where
  abbrev pub Labelled : List ℕ → ℕ → Type 0
  Labelled ls m = ((k : ℕ) → k < v + 1 → get_or ls k 0 ≡ label_at part k) × (m ≡ rank part (v + 1)) × (length ls ≡ n)

  pub labelled_seen : {o : Option ℕ} {f : ℕ} → o ≡ position (λ p. eqb p (get_or part v 0)) part → o ≡ Some f → f < v → Labelled (set labels v (get_or labels f 0)) next
  labelled_seen e is d =
      let p = (found (get_or part v 0) part e is).0 in (
        stored_below _ labels v _ (omega arith) (label_at part) below (label_seen part labels v here p q d below),
        rank_seen part labels v here p q d,
        simp length-set long,
      )

  pub labelled_new : v ≡ lowest (get_or part v 0) part → Labelled (set labels v next) (next + 1)
  labelled_new first = (stored_below _ labels v _ (omega arith) (label_at part) below (label_new part v first q), rank_new part v first q, simp length-set long)

pub is_relabelled : (part labels : List ℕ) → length labels ≡ length part → ((k : ℕ) → k < length part → get_or labels k 0 ≡ label_at part k) → labels ≡ relabel_dense part
unfolding relabel_dense
is_relabelled part labels e f =
    ext_get_or 0 labels (map (λ g. rank part (lowest g part)) part) (e ∙ sym (length-map part (λ g. rank part (lowest g part))))
    (λ k h. f k (omega arith) ∙ sym (get_or_map (λ (g : ℕ). rank part (lowest g part)) part k 0 0 (omega arith)))
