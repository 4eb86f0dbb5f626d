-- Nodes of one group are joined by a way along the links. Assumes that links go both ways.
use mathlib.Core.Path.{◌≡◌, sym, ◌∙◌, subst}
use mathlib.Core.Logic.{◌≢◌}
use Prim.Native.Nat.{ℕ, ◌<◌}
use native.Mathlib.Decide.{ℕ_discrete}
use native.Mathlib.Omega.{arith}
use mathlib.Core.List.{List}
use lib.ListN.{length, get_or, set, length-set}
use lib.Seq.{get_or-set_same, get_or-set_other}
use lib.Ieee.{Float}
use Rattle.lists.specs.Lists.{upto}
use Rattle.lists.proofs.Upto.{length_upto, get_or_upto}
use Rattle.map_state.specs.Network.{Network}
use Rattle.map_state.specs.MapState.{MapState, apply_move}
use Rattle.codelength.specs.Codelength.{from_partition}
use Rattle.scan.specs.Scan.{move, scan, isolate}
use Rattle.optimize.specs.Rounds.{optimize_partition}
use Rattle.infomap.specs.Infomap.{best_of_three, kept_grouping}
use Rattle.run_laws.proofs.Ways.{Linked, BothWays, Way, end, go, Joined}
use Rattle.run_laws.proofs.Quiet.{trial_keeps, best_keeps, kept_keeps}
use Rattle.run_laws.proofs.ScanAnswers.{scan_move, isolate_move, next_free_above}

-- One way after another is a way.
pub way_then : {net : Network} {u v w : ℕ} → Way net u v → Way net v w → Way net u w
way_then end q = q
way_then (go h l p) q = go h l (way_then p q)

-- With each node by itself, a group is one node.
pub joined_upto : (net : Network) → Joined net (upto (length net.strength))
joined_upto net = record {
  long = length_upto (length net.strength);
  ways = λ u v h k e. subst (λ (z : ℕ). Way net u z) (sym (get_or_upto (length net.strength) u h) ∙ e ∙ get_or_upto (length net.strength) v k) end;
}

-- Node u goes to group h: enough that there are ways from u to the other members of h, and back.
module _ (net : Network) (part : List ℕ) (j : Joined net part) (u h : ℕ)
    (there : (v : ℕ) → v < length net.strength → get_or part v 0 ≡ h → Way net u v)
    (back : (v : ℕ) → v < length net.strength → get_or part v 0 ≡ h → Way net v u) where
  at : (v : ℕ) → v < length net.strength → u ≡ v → get_or (set part u h) v 0 ≡ h
  at v k e = subst (λ (z : ℕ). get_or (set part u h) z 0 ≡ h) e (get_or-set_same part u h 0 (omega (arith, j.long)))

  off : (v : ℕ) → u ≢ v → get_or (set part u h) v 0 ≡ get_or part v 0
  off v d = get_or-set_other part u v h 0 (λ e. d (sym e))

  cases : (v w : ℕ) → v < length net.strength → w < length net.strength → get_or (set part u h) v 0 ≡ get_or (set part u h) w 0 → Dec (u ≡ v) → Dec (u ≡ w) → Way net v w
  cases v w p q e (yes a) (yes b) = subst (λ (z : ℕ). Way net v z) (sym a ∙ b) end
  cases v w p q e (yes a) (no b) = subst (λ (z : ℕ). Way net z w) a (there w q (sym (off w b) ∙ sym e ∙ at v p a))
  cases v w p q e (no a) (yes b) = subst (λ (z : ℕ). Way net v z) b (back v p (sym (off v a) ∙ e ∙ at w q b))
  cases v w p q e (no a) (no b) = j.ways v w p q (sym (off v a) ∙ e ∙ off w b)

  joined_set : Joined net (set part u h)
  joined_set = record { long = length-set part u h ∙ j.long; ways = λ v w p q e. cases v w p q e (ℕ_discrete u v) (ℕ_discrete u w) }

module _ (net : Network) (both : BothWays net) where
  linked_back : (u v : ℕ) → u < length net.strength → v < length net.strength → Linked net u v → Linked net v u
  linked_back u v h k l = sym (both u v h k) ∙ l

  by_scan : (s : MapState) (u h : ℕ) (change : Float) → u < length net.strength → Joined net s.partition → scan net s u ≡ move h change → Joined net (apply_move net s u h).partition
  unfolding apply_move
  by_scan s u h change k j e =
      let m = (scan_move net s u h change e).0 in
      let x = m.node in
      let i : x < length net.strength = omega (arith, j.long, m.inside) in
      joined_set net s.partition j u h
      (λ v p q. go i m.linked (j.ways x v i p (m.group ∙ sym q)))
      (λ v p q. way_then (j.ways v x p i (q ∙ sym m.group)) (go k (linked_back u x k i m.linked) end))

  by_isolate : (s : MapState) (u h : ℕ) (change : Float) → u < length net.strength → Joined net s.partition → isolate net s u ≡ move h change → Joined net (apply_move net s u h).partition
  unfolding apply_move
  by_isolate s u h change k j e =
      let i = (isolate_move net s u h change e).0 in
      let never : (v : ℕ) → get_or s.partition v 0 ≡ h → ⊥ = λ v q. omega (arith, next_free_above s.partition v) in
      joined_set net s.partition j u h (λ v p q. absurd (never v q)) (λ v p q. absurd (never v q))

  start_joined : Joined net (from_partition net (upto (length net.strength))).partition
  unfolding from_partition
  start_joined = joined_upto net

  -- In every trial's partition two nodes of one group are joined by a way.
  pub trial_joined : (x : ℕ) → Joined net (optimize_partition net x).state.partition
  trial_joined = trial_keeps net (λ s. Joined net s.partition) by_scan by_isolate start_joined

  -- So they are in the best of three trials,
  pub best_joined : (x : ℕ) → Joined net (best_of_three net x).partition
  best_joined = best_keeps net (Joined net) trial_joined (joined_upto net)

  -- and in the kept grouping, by any seed.
  pub kept_joined : (seed : ℕ) → Joined net (kept_grouping net seed).partition
  kept_joined = kept_keeps net (Joined net) trial_joined (joined_upto net)
