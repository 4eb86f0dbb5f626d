-- What the answers of the scan and of the isolation test mean.
use mathlib.Core.Path.{◌≡◌, refl, sym, ap, ◌∙◌, subst}
use mathlib.Core.Logic.{◌⊎◌, inl, inr, ◌≢◌}
use Prim.Native.Nat.{ℕ, zero, suc, ◌<◌, ◌≤◌}
use native.Mathlib.Nat.{le_refl}
use native.Mathlib.Omega.{arith}
use mathlib.Core.Bool.{Bool, true, false, cond, true≢false}
use mathlib.Core.List.{List, [], ◌∷◌}
use borrow.Author.Tests.{ltb-true, ltb-false, eqb-false, ne_eqb}
use lib.Dec.{ltb, eqb}
use lib.ListN.{length, get_or}
use lib.Ieee.{Float, lt, neg}
use Rattle.lists.specs.Lists.{Has}
use Rattle.float.specs.Binary64.{sub64}
use Rattle.lists.proofs.Items.{All}
use Rattle.map_state.specs.Network.{Network, row}
use Rattle.map_state.specs.MapState.{MapState, delta_move}
use Rattle.scan.specs.Scan.{Answer, no_move, move, margin, candidates, best_delta, better, consider, scan_from, scan, highest_from, next_free_module, isolate}
use Rattle.scan.proofs.Candidates.{each, candidates_have}
use Rattle.scan.proofs.Isolation.{first_bound}
use Rattle.optimize.specs.Rounds.{optimize_partition}
use Rattle.run_laws.proofs.Ways.{Linked}
use Rattle.optimize.proofs.Ends.{trial_length}
use Rattle.run_laws.proofs.Quiet.{trial_no_moves}

-- ---- a neighbour's group is a candidate
all_has : (P : ℕ → Type 0) (l : List ℕ) (x : ℕ) → All P l → Has l x → P x
all_has P [] x a m = absurd m
all_has P (y ∷ ys) x a (inl e) = subst P (sym e) a.0
all_has P (y ∷ ys) x a (inr m) = all_has P ys x a.1 m

-- ---- the scan
not_move : {A : Type 0} (h : ℕ) (change : Float) → no_move ≡ move h change → A
not_move h change e = absurd (let z : ◌≡◌ {A = ℕ} 0 1 = cc in omega arith)

-- h is the group of a node that u has a link to.
pub record NeighbourGroup (net : Network) (part : List ℕ) (u h : ℕ) : Type 0 where
  pub node : ℕ
  pub inside : node < length part
  pub linked : Linked net u node
  pub group : get_or part node 0 ≡ h

module _ (net : Network) (s : MapState) (u : ℕ) where
  abbrev own : ℕ
  own = get_or s.partition u 0

  abbrev after : Answer → ℕ → Bool → Bool → Answer
  after a g b c = cond b a (cond c (move g (delta_move net s u g)) a)

  consider_move : (a : Answer) (g : ℕ) (b c : Bool) (h : ℕ) (change : Float) → after a g b c ≡ move h change → (a ≡ move h change) ⊎ ((h ≡ g) × (b ≡ false) × (change ≡ delta_move net s u g))
  consider_move a g true c h change e = inl e
  consider_move a g false true h change e = inr ((cc), refl, (cc))
  consider_move a g false false h change e = inl e

  scan_from_move : (P : ℕ → Type 0) (a : Answer) (hs : List ℕ) (h : ℕ) (change : Float) → All P hs → scan_from net s u a hs ≡ move h change → (a ≡ move h change) ⊎ (P h × (h ≢ own) × (change ≡ delta_move net s u h))
  unfolding scan_from consider better
  scan_from_move P a [] h change p e = inl e
  scan_from_move P a (g ∷ hs) h change p e = later (scan_from_move P (consider net s u a g) hs h change p.1 e)
    where
      this : (a ≡ move h change) ⊎ ((h ≡ g) × (eqb g own ≡ false) × (change ≡ delta_move net s u g)) → (a ≡ move h change) ⊎ (P h × (h ≢ own) × (change ≡ delta_move net s u h))
      this (inl q) = inl q
      this (inr q) = inr (subst P (sym q.0) p.0, (λ o. eqb-false g own q.1 (sym q.0 ∙ o)), q.2 ∙ ap (delta_move net s u) (sym q.0))

      later : (consider net s u a g ≡ move h change) ⊎ (P h × (h ≢ own) × (change ≡ delta_move net s u h)) → (a ≡ move h change) ⊎ (P h × (h ≢ own) × (change ≡ delta_move net s u h))
      later (inl q) = this (consider_move a g (eqb g own) (lt (delta_move net s u g) (sub64 (best_delta a) margin)) h change q)
      later (inr q) = inr q

  -- A scan that answers a move names the group of a neighbour, another than the node's own, and its change.
  pub scan_move : (h : ℕ) (change : Float) → scan net s u ≡ move h change → NeighbourGroup net s.partition u h × (h ≢ own) × (change ≡ delta_move net s u h)
  unfolding scan
  scan_move h change e =
      pick (scan_from_move (NeighbourGroup net s.partition u) no_move (candidates s.partition (row net u)) h change
      (each (NeighbourGroup net s.partition u) s.partition (row net u) (λ v k t. record { node = v; inside = k; linked = t; group = refl })) e)
    where
      pick : (no_move ≡ move h change) ⊎ (NeighbourGroup net s.partition u h × (h ≢ own) × (change ≡ delta_move net s u h)) → NeighbourGroup net s.partition u h × (h ≢ own) × (change ≡ delta_move net s u h)
      pick (inl q) = not_move h change q
      pick (inr q) = q

  -- The change by a move to h is not below minus the margin.
  abbrev pub NotBelow : ℕ → Type 0
  NotBelow h = lt (delta_move net s u h) (neg margin) ≡ false

  consider_none : (a : Answer) (g : ℕ) (b c : Bool) → after a g b c ≡ no_move → (a ≡ no_move) × (b ≡ false → c ≡ false)
  consider_none a g true c e = (e, λ f. absurd (true≢false f))
  consider_none a g false true e = not_move g (delta_move net s u g) (sym e)
  consider_none a g false false e = (e, λ f. refl)

  scan_from_none : (a : Answer) (hs : List ℕ) → scan_from net s u a hs ≡ no_move → (a ≡ no_move) × All (λ h. h ≢ own → NotBelow h) hs
  unfolding scan_from consider better
  scan_from_none a [] e = (e, tt)
  scan_from_none a (g ∷ hs) e =
      let later = scan_from_none (consider net s u a g) hs e in
      let this = consider_none a g (eqb g own) (lt (delta_move net s u g) (sub64 (best_delta a) margin)) later.0 in
      let bound : sub64 (best_delta a) margin ≡ neg margin = ap (λ (z : Answer). sub64 (best_delta z) margin) this.0 ∙ first_bound in
      (this.0, (λ d. subst (λ (z : Float). lt (delta_move net s u g) z ≡ false) bound (this.1 (ne_eqb g own d)), later.1))

  -- Where a scan answers no move, no move to another group of a linked node has a change below minus the margin.
  pub scan_none : scan net s u ≡ no_move → (v : ℕ) → v < length s.partition → Linked net u v → get_or s.partition v 0 ≢ own → NotBelow (get_or s.partition v 0)
  unfolding scan
  scan_none e v h t d =
      all_has (λ g. g ≢ own → NotBelow g) (candidates s.partition (row net u)) (get_or s.partition v 0)
      (scan_from_none no_move (candidates s.partition (row net u)) e).1 (candidates_have s.partition (row net u) v h t) d

  -- ---- the isolation test
  abbrev new : ℕ
  new = next_free_module s.partition

  -- An isolation test that answers a move names the next free number and its change, which is below minus the margin.
  pub isolate_move : (h : ℕ) (change : Float) → isolate net s u ≡ move h change → (h ≡ new) × (change ≡ delta_move net s u new) × (lt change (neg margin) ≡ true)
  unfolding isolate
  isolate_move h change e = pick (lt (delta_move net s u new) (neg margin)) refl e
    where
      pick : (b : Bool) → lt (delta_move net s u new) (neg margin) ≡ b → cond b (move new (delta_move net s u new)) no_move ≡ move h change → (h ≡ new) × (change ≡ delta_move net s u new) × (lt change (neg margin) ≡ true)
      pick true t q = let c : change ≡ delta_move net s u new = cc in ((cc), c, ap (λ (z : Float). lt z (neg margin)) c ∙ t)
      pick false t q = not_move h change q

  -- Where it answers no move, the move to a new group has no change below minus the margin.
  pub isolate_none : isolate net s u ≡ no_move → NotBelow new
  unfolding isolate
  isolate_none e = pick (lt (delta_move net s u new) (neg margin)) e
    where
      pick : (b : Bool) → cond b (move new (delta_move net s u new)) no_move ≡ no_move → b ≡ false
      pick true q = not_move new (delta_move net s u new) (sym q)
      pick false q = refl

highest_from_lem : (m : ℕ) (part : List ℕ) → m ≤ highest_from m part
unfolding highest_from
highest_from_lem m [] = le_refl m
highest_from_lem m (g ∷ gs) = pick (ltb m g) refl (highest_from_lem (cond (ltb m g) g m) gs)
  where
    pick : (b : Bool) → ltb m g ≡ b → cond b g m ≤ highest_from (cond b g m) gs → m ≤ highest_from (cond b g m) gs
    pick true t i = omega (arith, ltb-true m g t)
    pick false t i = i

highest_of : (m : ℕ) (part : List ℕ) (v : ℕ) → get_or part v 0 ≤ highest_from m part
unfolding highest_from
highest_of m [] v = omega arith
highest_of m (g ∷ gs) zero = pick (ltb m g) refl (highest_from_lem (cond (ltb m g) g m) gs)
  where
    pick : (b : Bool) → ltb m g ≡ b → cond b g m ≤ highest_from (cond b g m) gs → g ≤ highest_from (cond b g m) gs
    pick true t i = i
    pick false t i = omega (arith, ltb-false m g t)
highest_of m (g ∷ gs) (suc v) = highest_of (cond (ltb m g) g m) gs v

-- The next free number is above every number in use.
pub next_free_above : (part : List ℕ) (v : ℕ) → get_or part v 0 < next_free_module part
next_free_above part v = omega (arith, highest_of 0 part v)

-- ---- a trial that came to rest
module _ (net : Network) (x : ℕ) (still : (optimize_partition net x).moved ≡ false) where
  abbrev ended : MapState
  ended = (optimize_partition net x).state

  -- By the sums it carries, no move of a node to another group of a neighbour has a change below minus the margin,
  pub rest_linked : (u v : ℕ) → u < length net.strength → v < length net.strength → Linked net u v → get_or ended.partition v 0 ≢ get_or ended.partition u 0
      → NotBelow net ended u (get_or ended.partition v 0)
  rest_linked u v h k l d = scan_none net ended u ((trial_no_moves net x still).scanned u h) v (omega (arith, trial_length net x)) l d

  -- and none to a new group.
  pub rest_new : (u : ℕ) → u < length net.strength → NotBelow net ended u (next_free_module ended.partition)
  rest_new u h = isolate_none net ended u ((trial_no_moves net x still).isolated u h)
