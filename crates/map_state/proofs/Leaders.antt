-- Lowest members and numbers of members, before and after a move.
use mathlib.Core.Path.{◌≡◌, refl, sym, ap, ◌∙◌}
use mathlib.Core.Bool.{Bool, true, false, cond}
use mathlib.Core.List.{List, [], ◌∷◌}
use mathlib.Core.Logic.{◌≢◌}
use Prim.Native.Nat.{ℕ, zero, suc, ◌+◌, ◌-◌, ◌<◌, ◌≤◌}
use native.Mathlib.Nat.{sub-zero}
use native.Mathlib.Numerals.{add-one}
use native.Mathlib.Omega.{arith}
use borrow.Author.Tests.{eq-eqb, ne_eqb, eqb-true, eqb-false}
use lib.Dec.{eqb}
use lib.ListN.{length, get_or, set, take, length-set, get_or-eq_default}
use lib.Seq.{get_or-set_same, get_or-set_other, set_out, take-set-lt, length-take-le}
use Rattle.std.proofs.lemmas.List.{get_or-take}
use lib.Ieee.{Float, nan}
use Rattle.float.specs.Binary64.{add64, div64, zero64}
use Rattle.lists.proofs.Maps.{get_or_inside}
use Rattle.std.specs.Prelude.{position, Option, Some, None}
use Rattle.map_state.proofs.Chains.{found, not_found, count_few}
use Rattle.map_state.specs.Network.{Network}
use Rattle.map_state.specs.MapState.{MapState, moved_by, apply_move, store_at, lowest, count, leads, sum_q_from, sum_q, stats_of, stats_at}
use Rattle.map_state.specs.Steps.{Firsts, Renewed, StoredAt, Summed}
use Rattle.map_state.specs.declared.ModuleStats.{ModuleStats}
use Rattle.map_state.specs.declared.Moved.{Moved}

lowest_le1 : (b : Bool) (r n : ℕ) → r ≤ n → cond b 0 (suc r) ≤ suc n
lowest_le1 true r n h = omega arith
lowest_le1 false r n h = omega arith

pub lowest_le : (g : ℕ) (part : List ℕ) → lowest g part ≤ length part
unfolding lowest
lowest_le g [] = omega arith
lowest_le g (x ∷ xs) = lowest_le1 (eqb x g) (lowest g xs) (length xs) (lowest_le g xs)

-- a node's group has a lowest member, at or below the node
pub lowest_of : (part : List ℕ) (v : ℕ) → v < length part → lowest (get_or part v 0) part ≤ v
unfolding lowest
lowest_of [] v h = omega arith
lowest_of (x ∷ xs) zero h = rw (eq-eqb x x refl) (omega arith)
lowest_of (x ∷ xs) (suc v) h = lowest_le1 (eqb x (get_or xs v 0)) (lowest (get_or xs v 0) xs) v (lowest_of xs v (omega arith))

count_of1 : (b : Bool) (r : ℕ) → 0 < r → 0 < cond b (suc r) r
count_of1 true r h = omega arith
count_of1 false r h = h

pub count_of : (part : List ℕ) (v : ℕ) → v < length part → 0 < count (get_or part v 0) part
unfolding count
count_of [] v h = omega arith
count_of (x ∷ xs) zero h = rw (eq-eqb x x refl) (omega arith)
count_of (x ∷ xs) (suc v) h = count_of1 (eqb x (get_or xs v 0)) (count (get_or xs v 0) xs) (count_of xs v (omega arith))

-- a move leaves the lowest members of the other groups
pub lowest_other : (x h : ℕ) (part : List ℕ) (u : ℕ) → x ≢ h → x ≢ get_or part u 0 → lowest x (set part u h) ≡ lowest x part
unfolding lowest
lowest_other x h [] u a b = refl
lowest_other x h (y ∷ ys) zero a b = rw (ne_eqb h x (λ e. a (sym e)), ne_eqb y x (λ e. b (sym e)))
lowest_other x h (y ∷ ys) (suc u) a b = ap (λ (z : ℕ). cond (eqb y x) 0 (suc z)) (lowest_other x h ys u a b)

pub firsts_of_lem : (part first : List ℕ) → Firsts part first → (v : ℕ) → v < length part → get_or first v 0 ≡ lowest (get_or part v 0) part
unfolding Firsts
firsts_of_lem part first k = k

module _ (part first first' : List ℕ) (u h : ℕ) (long : u < length part) (before : Firsts part first) where
  abbrev g : ℕ
  g = get_or part u 0

  abbrev part' : List ℕ
  part' = set part u h

  firsts_at : (v : ℕ) → v < length part → (s t : Bool) → eqb (get_or part' v 0) g ≡ s → eqb (get_or part' v 0) h ≡ t
      → cond t (lowest h part') (cond s (lowest g part') (get_or first v 0)) ≡ lowest (get_or part' v 0) part'
  firsts_at v p true false e f = ap (λ (z : ℕ). lowest z part') (sym (eqb-true _ _ e))
  firsts_at v p s true e f = ap (λ (z : ℕ). lowest z part') (sym (eqb-true _ _ f))
  firsts_at v p false false e f =
      let d : v ≢ u = λ q. eqb-false _ _ f (ap (λ (z : ℕ). get_or part' z 0) q ∙ get_or-set_same part u h 0 long) in
      let o : get_or part' v 0 ≡ get_or part v 0 = get_or-set_other part u v h 0 d in
      firsts_of_lem part first before v p ∙ sym (ap (λ (z : ℕ). lowest z part') o ∙ lowest_other (get_or part v 0) h part u (λ q. eqb-false _ _ f (o ∙ q)) (λ q. eqb-false _ _ e (o ∙ q)))

  -- the kept lowest members after a move: those of the group that u left are given anew, then those of the group that it went to
  pub firsts_move : (between : List ℕ) → Renewed part' first between g (lowest g part') → Renewed part' between first' h (lowest h part') → Firsts part' first'
  unfolding Firsts
  firsts_move between e f = λ v p.
      f v p ∙ ap (λ (z : ℕ). cond (eqb (get_or part' v 0) h) (lowest h part') z) (e v p) ∙ firsts_at v (rw (length-set part u h) at p) (eqb (get_or part' v 0) g) (eqb (get_or part' v 0) h) refl refl

-- a group without members has nothing to renew
pub none_renewed : (part first : List ℕ) (x a : ℕ) → length part ≤ lowest x part → Renewed part first first x a
none_renewed part first x a h v p = rw (ne_eqb (get_or part v 0) x (λ e. let o = lowest_of part v p in let q : lowest x part ≤ v = rw e at o in omega arith))

-- A group's sums are stored at the lowest member that a search finds, and its number is given to the members; where it finds none there is nothing to do.
module _ (part : List ℕ) (g : ℕ) {o : Option ℕ} (e : o ≡ position (λ p. eqb p g) part) where
  pub stored_some : (xs : List Float) (x : Float) {a : ℕ} → o ≡ Some a → StoredAt part xs (set xs a x) g x
  stored_some xs x {a} s = let f = found g part e s in rw (← f.0) (take-set-lt (length part) xs a x f.1)

  pub stored_none : (xs : List Float) (x : Float) → o ≡ None → length part ≤ length xs → StoredAt part xs xs g x
  stored_none xs x s h = let n = not_found g part e s in let l = length-take-le (length part) xs h in sym (set_out _ _ _ (omega arith))

  pub renewed_some : (first after : List ℕ) {a : ℕ} → o ≡ Some a → Renewed part first after g a → Renewed part first after g (lowest g part)
  renewed_some first after s r = rw (← (found g part e s).0) r

  pub renewed_none : (first : List ℕ) → o ≡ None → Renewed part first first g (lowest g part)
  renewed_none first s = none_renewed part first g _ (not_found g part e s)

-- the steps of a move, together
pub apply_move_is : (n : Network) (s : MapState) (u h : ℕ) {m : Moved} {e1 e2 s1 s2 : List Float} {r : Float} → let part = set s.partition u h in let g = get_or s.partition u 0 in
    m ≡ moved_by n s u h → e1 ≡ store_at part s.exits g m.src.exit → e2 ≡ store_at part e1 h m.dest.exit → s1 ≡ store_at part s.strengths g m.src.strength → s2 ≡ store_at part s1 h m.dest.strength
    → r ≡ sum_q n.d part e2 → ◌≡◌ {A = MapState} (record { partition = part; exits = e2; strengths = s2; q_sum = r }) (apply_move n s u h)
unfolding apply_move
apply_move_is n s u h pm p1 p2 p3 p4 pr = rw (pr, p4, p3, p2, p1, pm)

q_on : (d : Float) (part first : List ℕ) (exit : List Float) (a a' : Float) (v : ℕ) → Firsts part first → v < length part → a' ≡ cond (eqb (get_or first v 0) v) (add64 a (div64 (get_or exit v nan) d)) a
    → sum_q_from d part exit a' (v + 1) (length part - (v + 1)) ≡ sum_q_from d part exit a v (length part - v)
unfolding sum_q_from leads
q_on d part first exit a a' v k h e =
    let o : length part - v ≡ suc (length part - (v + 1)) = omega arith in
    rw (o, e, firsts_of_lem part first k v h, add-one v)

-- The groups whose lowest member is v or higher, added to the sum so far, are z: past a node that leads its group, past another, and at the end.
pub q_yes : (d : Float) (part first : List ℕ) (exit : List Float) (a : Float) (v : ℕ) {z : Float} → sum_q_from d part exit a v (length part - v) ≡ z → Firsts part first → v < length part → get_or first v 0 ≡ v
    → sum_q_from d part exit (add64 a (div64 (get_or exit v nan) d)) (v + 1) (length part - (v + 1)) ≡ z
q_yes d part first exit a v e k h t = q_on d part first exit a _ v k h (rw (eq-eqb _ _ t)) ∙ e

pub q_no : (d : Float) (part first : List ℕ) (exit : List Float) (a : Float) (v : ℕ) {z : Float} → sum_q_from d part exit a v (length part - v) ≡ z → Firsts part first → v < length part → (get_or first v 0 ≡ v → ⊥)
    → sum_q_from d part exit a (v + 1) (length part - (v + 1)) ≡ z
q_no d part first exit a v e k h t = q_on d part first exit a _ v k h (rw (ne_eqb _ _ t)) ∙ e

pub q_start : (d : Float) (part : List ℕ) (exit : List Float) → sum_q_from d part exit zero64 0 (length part - 0) ≡ sum_q d part exit
unfolding sum_q
q_start d part exit = rw sub-zero

pub q_end : (d : Float) (part : List ℕ) (exit : List Float) (a : Float) (v : ℕ) → sum_q_from d part exit a v (length part - v) ≡ sum_q d part exit → length part ≤ v → a ≡ sum_q d part exit
unfolding sum_q_from
q_end d part exit a v e h =
    let o : length part - v ≡ 0 = omega arith in
    rw o at e

none1 : (b : Bool) (r c n : ℕ) → (n ≤ r → c ≡ 0) → suc n ≤ cond b 0 (suc r) → cond b (suc c) c ≡ 0
none1 true r c n f h = omega arith
none1 false r c n f h = f (omega arith)

-- a group without a lowest member has none
pub count_none : (g : ℕ) (part : List ℕ) → length part ≤ lowest g part → count g part ≡ 0
unfolding lowest count
count_none g [] h = refl
count_none g (x ∷ xs) h = none1 (eqb x g) (lowest g xs) (count g xs) (length xs) (count_none g xs) h

-- a group's sums stand at its lowest member
pub stats_stand : (part : List ℕ) (exit strengths : List Float) (g slot : ℕ) {k : ℕ} → Summed part exit strengths → slot < length part → slot ≡ lowest g part → k ≡ count g part
    → ◌≡◌ {A = ModuleStats} (record { exit = get_or exit slot nan; strength = get_or strengths slot nan; n_nodes = k }) (stats_at part exit strengths g)
unfolding stats_at
stats_stand part exit strengths g slot s h e p =
    rw (p, ← e, get_or_inside exit slot nan zero64 (omega arith), get_or_inside strengths slot nan zero64 (omega arith))

-- the module of an empty group
pub stats_none : (part : List ℕ) (exit strengths : List Float) (g : ℕ) → length exit ≡ length part → length strengths ≡ length part → length part ≤ lowest g part
    → ◌≡◌ {A = ModuleStats} (record { exit = zero64; strength = zero64; n_nodes = 0 }) (stats_at part exit strengths g)
unfolding stats_at
stats_none part exit strengths g p q h = rw (get_or-eq_default exit zero64 {n = lowest g part} (omega arith), get_or-eq_default strengths zero64 {n = lowest g part} (omega arith), count_none g part h)

-- a node's group has members, and no group more than 512
pub stats_some : (s : MapState) (u : ℕ) {o : ModuleStats} → u < length s.partition → o ≡ stats_of s (get_or s.partition u 0) → 0 < o.n_nodes
unfolding stats_at
stats_some s u h e = rw e (count_of s.partition u h)

pub stats_few : (s : MapState) (g : ℕ) {p : ModuleStats} → length s.partition ≤ 512 → p ≡ stats_of s g → p.n_nodes ≤ 512
unfolding stats_at
stats_few s g h e = rw e (omega (arith, count_few g s.partition))

-- of n nodes, the first n of a list of lowest members are enough; there are as many, and they are nodes
pub firsts_front : (n : ℕ) (part first : List ℕ) → Firsts (take n part) first → n ≤ length part → Firsts (take n part) (take n first)
unfolding Firsts
firsts_front n part first f h v p = let e = length-take-le n part h in get_or-take n first v 0 (omega (arith, e)) ∙ f v p

pub front_long : (n : ℕ) (part first : List ℕ) → n ≤ length part → n ≤ length first → length (take n first) ≡ length (take n part)
front_long n part first h k = length-take-le n first k ∙ sym (length-take-le n part h)

pub slot : (part first : List ℕ) (v : ℕ) → Firsts part first → v < length part → get_or first v 0 < length part
slot part first v f h = omega (arith, firsts_of_lem part first f v h, lowest_of part v h)
