-- How the loops of the sums from_partition go on and end.
use mathlib.Core.Path.{◌≡◌, refl, sym, ap, ◌∙◌}
use mathlib.Core.Bool.{cond}
use mathlib.Core.List.{List, [], ◌∷◌, ◌++◌}
use Prim.Native.Nat.{ℕ, suc, ◌+◌, ◌-◌, ◌<◌, ◌≤◌}
use native.Mathlib.Numerals.{add-one}
use native.Mathlib.Nat.{sub-zero}
use native.Mathlib.Omega.{arith}
use borrow.Author.Tests.{eq-eqb, ne_eqb}
use lib.Dec.{eqb}
use lib.ListN.{length, drop, get_or, set, take, replicate, length-replicate, drop_of_length-le}
use lib.Seq.{drop-cons, take-set-lt, take_at, length-take-le}
use Rattle.std.proofs.lemmas.List.{get_or-take}
use lib.Ieee.{Float, nan}
use Rattle.float.specs.Binary64.{add64, div64, zero64}
use Rattle.float.specs.Ln.{plogp}
use Rattle.map_state.specs.Network.{Network, row}
use Rattle.map_state.specs.MapState.{MapState, leads, sum_q}
use Rattle.map_state.specs.Steps.{Firsts}
use Rattle.codelength.specs.Steps.{sums_in, with_sums}
use Rattle.codelength.specs.Codelength.{add_exit, exit_from, Sums, add_node, add_nodes_from, module_sums, sums_of, add_module, terms_from, terms, node_plogp_from, codelength_of, codelength, from_partition}
use Rattle.map_state.proofs.Leaders.{firsts_of_lem, slot}
use Rattle.codelength.specs.declared.Terms.{Terms}

-- What is left to add: the link to the next node first, and nothing past the last.
pub out_on : (g : ℕ) (a w : Float) (p : ℕ) (part : List ℕ) (ws : List Float) → exit_from g a (p ∷ part) (w ∷ ws) ≡ exit_from g (add_exit g a p w) part ws
unfolding exit_from
out_on g a w p part ws = refl

pub out_end : (g : ℕ) (a : Float) (part : List ℕ) (ws : List Float) → part ≡ [] → exit_from g a part ws ≡ a
unfolding exit_from
out_end g a part ws e = rw e

pub nodes_added_on : (n : Network) (part : List ℕ) (s : Sums) (v : ℕ) {s' : Sums} → v < length part → s' ≡ add_node n part s v → add_nodes_from n part s' (v + 1) (length part - (v + 1)) ≡ add_nodes_from n part s v (length part - v)
unfolding add_nodes_from
nodes_added_on n part s v h e =
    let o : length part - v ≡ suc (length part - (v + 1)) = omega arith in
    rw (o, e, add-one v)

pub nodes_added_end : (n : Network) (part : List ℕ) (s : Sums) (v : ℕ) → length part ≤ v → s ≡ add_nodes_from n part s v (length part - v)
unfolding add_nodes_from
nodes_added_end n part s v h =
    let o : length part - v ≡ 0 = omega arith in
    rw o

pub nodes_added_start : (n : Network) (part : List ℕ) {e s : List Float} → e ≡ replicate (length part) zero64 → s ≡ replicate (length part) zero64 → add_nodes_from n part (sums_of e s) 0 (length part - 0) ≡ module_sums n part
unfolding module_sums
nodes_added_start n part p q = rw (p, q, sub-zero)

terms_on : (d : Float) (part first : List ℕ) (exit strengths : List Float) (t : Terms) (v : ℕ) → Firsts part first → v < length part
    → terms_from d part exit strengths t v (length part - v) ≡ terms_from d part exit strengths (cond (eqb (get_or first v 0) v) (add_module d t (get_or exit v nan) (get_or strengths v nan)) t) (v + 1) (length part - (v + 1))
unfolding terms_from leads
terms_on d part first exit strengths t v k h =
    let o : length part - v ≡ suc (length part - (v + 1)) = omega arith in
    rw (o, firsts_of_lem part first k v h, add-one v) refl

-- The groups from node v on, by lowest member: that of v first where v leads it, and none past the last node.
pub terms_yes : (d : Float) (part first : List ℕ) (exit strengths : List Float) (t : Terms) (v : ℕ) → Firsts part first → v < length part → get_or first v 0 ≡ v
    → terms_from d part exit strengths t v (length part - v) ≡ terms_from d part exit strengths (add_module d t (get_or exit v nan) (get_or strengths v nan)) (v + 1) (length part - (v + 1))
terms_yes d part first exit strengths t v k h i = rw (eq-eqb _ _ i) at (terms_on d part first exit strengths t v k h)

pub terms_no : (d : Float) (part first : List ℕ) (exit strengths : List Float) (t : Terms) (v : ℕ) → Firsts part first → v < length part → (get_or first v 0 ≡ v → ⊥)
    → terms_from d part exit strengths t v (length part - v) ≡ terms_from d part exit strengths t (v + 1) (length part - (v + 1))
terms_no d part first exit strengths t v k h i = rw (ne_eqb _ _ i) at (terms_on d part first exit strengths t v k h)

pub terms_end : (d : Float) (part : List ℕ) (exit strengths : List Float) (t : Terms) (v : ℕ) → length part ≤ v → terms_from d part exit strengths t v (length part - v) ≡ t
unfolding terms_from
terms_end d part exit strengths t v h =
    let o : length part - v ≡ 0 = omega arith in
    rw o

pub nodes_on : (d a : Float) (ss : List Float) (v : ℕ) {x : Float} → node_plogp_from d a (drop v ss) ≡ node_plogp_from d zero64 ss → v < length ss → x ≡ plogp (div64 (get_or ss v nan) d)
    → node_plogp_from d (add64 a x) (drop (v + 1) ss) ≡ node_plogp_from d zero64 ss
unfolding node_plogp_from
nodes_on d a ss v f h e = (rw (e, add-one v, drop-cons ss v nan h)) ∙ f

pub nodes_end : (d a : Float) (ss : List Float) (v : ℕ) → node_plogp_from d a (drop v ss) ≡ node_plogp_from d zero64 ss → length ss ≤ v → a ≡ node_plogp_from d zero64 ss
unfolding node_plogp_from
nodes_end d a ss v f h = rw (drop_of_length-le ss {i = v} h) at f

-- ---- the code's arrays, of which the first n places are the state

-- one node, from the code's steps
pub node_added : (net : Network) (s : MapState) (n : ℕ) (part first : List ℕ) (e t es st : List Float) (q : Float) (v : ℕ) {x : Float}
    → ◌≡◌ {A = MapState} (record { partition = take n part; exits = take n e; strengths = take n t; q_sum = q }) s → n ≤ length part → Firsts s.partition first → v < length s.partition
    → es ≡ s.exits → st ≡ net.strength → x ≡ exit_from (get_or s.partition v 0) (get_or es (get_or first v 0) nan) s.partition (row net v)
    → ◌≡◌ {A = MapState} (record { partition = take n part; exits = take n (set e (get_or first v 0) x); strengths = take n (set t (get_or first v 0) (add64 (get_or t (get_or first v 0) nan) (get_or st v nan))); q_sum = q })
    (with_sums s (add_node net s.partition (sums_in s) v))
unfolding add_node
node_added net s n part first e t es st q v {x} w l fs h ee ss p =
    let f = get_or first v 0 in
    let pp = ap (λ (z : MapState). z.partition) w in
    let pe = ap (λ (z : MapState). z.exits) w in
    let pt = ap (λ (z : MapState). z.strengths) w in
    let b : f < n = omega (arith, slot s.partition first v fs h, length-take-le n part l, ap length pp) in
    let o : get_or t f nan ≡ get_or s.strengths f nan = sym (get_or-take n t f nan b) ∙ ap (λ (l : List Float). get_or l f nan) pt in
    rw (take-set-lt n e f x b, take-set-lt n t f (add64 (get_or t f nan) (get_or st v nan)) b, pp, pe, pt, ap (λ (z : MapState). z.q_sum) w, o, p, ss, ee, firsts_of_lem s.partition first fs v h)

-- the sums before the first node: the first n places are filled with 0
pub sums_cleared : (net : Network) (s : MapState) (n : ℕ) (part : List ℕ) (e t : List Float) (q : Float) (ps : List ℕ) (xs ys us vs : List Float)
    → ◌≡◌ {A = MapState} (record { partition = take n part; exits = take n e; strengths = take n t; q_sum = q }) s
    → n ≤ length part → ps ≡ s.partition → xs ≡ replicate (length ps) zero64 → ys ≡ replicate (length ps) zero64
    → add_nodes_from net s.partition (sums_of (take n (xs ++ us)) (take n (ys ++ vs))) 0 (length s.partition - 0) ≡ module_sums net s.partition
sums_cleared net s n part e t q ps xs ys us vs w l f g h =
    let m : length (replicate (length ps) zero64) ≡ n =
    length-replicate (length ps) zero64 ∙ ap length f ∙ ap (λ (z : MapState). length z.partition) (sym w) ∙ length-take-le n part l in
    nodes_added_start net s.partition (take_at xs us n (ap length g ∙ m) ∙ g ∙ rw f) (take_at ys vs n (ap length h ∙ m) ∙ h ∙ rw f)

-- the state from its sums
pub sums_made : (s t : MapState) (z : Sums) → t.partition ≡ s.partition → t.q_sum ≡ s.q_sum → sums_in t ≡ z → t ≡ with_sums s z
sums_made s t z p q e = rw (← e, ← p, ← q) refl

pub codelength_is : (n : Network) (s t : MapState) {x : Terms} {a l : Float} → t ≡ with_sums s (module_sums n s.partition) → x ≡ terms n.d t.partition t.exits t.strengths → a ≡ node_plogp_from n.d zero64 n.strength → l ≡ codelength_of x a → l ≡ codelength n s.partition
unfolding codelength
codelength_is n s t p q r z = z ∙ rw (q, r, p)

pub from_partition_is : (n : Network) (s t : MapState) {q : Float} → t ≡ with_sums s (module_sums n s.partition) → q ≡ sum_q n.d t.partition t.exits
    → ◌≡◌ {A = MapState} (record { partition = t.partition; exits = t.exits; strengths = t.strengths; q_sum = q }) (from_partition n s.partition)
unfolding from_partition
from_partition_is n s t p r = rw (r, p)
