-- (c) and (d) of demand 3 for places: what the mark 'rest' means, and that under it no single move of a node helps.
use mathlib.Core.Path.{◌≡◌, refl, sym, ap, ◌∙◌, subst}
use mathlib.Core.Logic.{◌≢◌, ◌↔◌, ◌⊎◌, inl, inr}
use mathlib.Core.Bool.{Bool, true, false}
use mathlib.Core.List.{List}
use Prim.Native.Nat.{ℕ, ◌<◌, ◌≤◌}
use native.Mathlib.Decide.{dec_lt}
use native.Mathlib.Omega.{arith}
use borrow.Author.Tests.{eqb-true, eq-eqb, ne_eqb}
use lib.ListN.{length, get_or}
use lib.Ieee.{Float, nan, lt, neg}
use Rattle.lists.specs.Lists.{upto}
use Rattle.lists.proofs.Upto.{length_upto}
use Rattle.lists.proofs.Tests.{clash}
use Rattle.float.specs.Binary64.{zero64}
use Rattle.rng.specs.Rng.{seeded}
use Rattle.map_state.specs.Network.{Network, row}
use Rattle.map_state.specs.MapState.{MapState, delta_move}
use Rattle.codelength.specs.Codelength.{from_partition}
use Rattle.scan.specs.Scan.{margin, isolate, move, next_free_module}
use Rattle.optimize.specs.Rounds.{optimize_partition}
use Rattle.infomap.specs.Infomap.{rest, kept_grouping, run_infomap, relabel_dense}
use Rattle.neighbors.specs.Places.{Place}
use Rattle.neighbors.specs.StepsPlaces.{stay_count}
use Rattle.distance.specs.Distance.{Metric}
use Rattle.neighbors.specs.Links.{link, nodes}
use Rattle.neighbors.proofs.Found.{Counted}
use Rattle.neighbors.proofs.NodeList.{node_lt, node_linked, node_at, linked_link}
use Rattle.exact_sums.proofs.Whole.{WholeWeights, Match, Alike}
use Rattle.exact_sums.proofs.Carried.{Carried, carried_afresh, carried_move, change_afresh}
use Rattle.exact_sums.proofs.Renumbered.{match_at, change_like}
use Rattle.run_laws.specs.KeptTrial.{KeptQuiet}
use Rattle.run_laws.proofs.Quiet.{trial_keeps, trial_no_moves}
use Rattle.run_laws.proofs.ScanAnswers.{scan_move, scan_none, isolate_move, isolate_none, next_free_above}
use Rattle.run_laws.proofs.Marks.{TrialAtRest, kept_rest, kept_at_rest}
use Rattle.cluster.specs.Cluster.{node_network, cluster}
use Rattle.cluster.proofs.NodeNetwork.{w, node_whole, node_links, d_none, d_some}
use Rattle.cluster.proofs.Relabelled.{relabel_alike}
use Rattle.cluster.proofs.Labelled.{part_long}

-- ---- any network of whole weights
module _ (net : Network) (w : ℕ → ℕ → ℕ) (ww : WholeWeights net w) where
  -- A trial's state carries the sums of its partition.
  trial_carried : (x : ℕ) → Carried net w (optimize_partition net x).state
  trial_carried = trial_keeps net (Carried net w)
      (λ s u h change k c e. carried_move net w ww s c u h (subst (λ (m : ℕ). u < m) (sym c.long) k) (scan_move net s u h change e).1)
      (λ s u h change k c e. carried_move net w ww s c u h (subst (λ (m : ℕ). u < m) (sym c.long) k) (fresh s u h change e))
      (carried_afresh net w ww (upto (length net.strength)) (length_upto (length net.strength)))
    where
      fresh : (s : MapState) (u h : ℕ) (change : Float) → isolate net s u ≡ move h change → h ≢ get_or s.partition u 0
      fresh s u h change e q = let a = next_free_above s.partition u in let b = (isolate_move net s u h change e).0 in omega arith

  -- After a last round that moved nothing, no move helps: by the run's numbers, or by any others for the same groups.
  module _ (x : ℕ) (still : (optimize_partition net x).moved ≡ false) (gs : List ℕ) (al : Alike (optimize_partition net x).state.partition gs) where
    abbrev s : MapState
    s = (optimize_partition net x).state

    abbrev part : List ℕ
    part = s.partition

    c : Carried net w s
    c = trial_carried x

    anew : (u h h' : ℕ) → u < length part → Match part gs h h' → lt (delta_move net s u h) (neg margin) ≡ false → lt (delta_move net (from_partition net gs) u h') (neg margin) ≡ false
    anew u h h' k m e = subst (λ (z : Float). lt z (neg margin) ≡ false) (change_afresh net w ww s c u h ∙ change_like net w ww part gs c.long al u h h' k m) e

    pub into_neighbour : (u v : ℕ) → u < length part → v < length part → lt zero64 (get_or (row net u) v nan) ≡ true → get_or gs v 0 ≢ get_or gs u 0
        → lt (delta_move net (from_partition net gs) u (get_or gs v 0)) (neg margin) ≡ false
    into_neighbour u v hu hv l d =
        let un : u < length net.strength = subst (λ (m : ℕ). u < m) c.long hu in
        anew u (get_or part v 0) (get_or gs v 0) hu (match_at part gs al v hv)
        (scan_none net s u ((trial_no_moves net x still).scanned u un) v hv l
        (λ e. d (eqb-true (get_or gs v 0) (get_or gs u 0) (sym (al.groups v u hv hu) ∙ eq-eqb (get_or part v 0) (get_or part u 0) e))))

    pub into_new : (u h : ℕ) → u < length part → ((v : ℕ) → v < length gs → get_or gs v 0 ≢ h) → lt (delta_move net (from_partition net gs) u h) (neg margin) ≡ false
    into_new u h hu no_one =
        let un : u < length net.strength = subst (λ (m : ℕ). u < m) c.long hu in
        anew u (next_free_module part) h hu
        (λ v p. ne_eqb (get_or part v 0) (next_free_module part) (λ e. let a = next_free_above part v in omega arith) ∙ sym
        (ne_eqb (get_or gs v 0) h (no_one v (subst (λ (m : ℕ). v < m) (sym al.long) p))))
        (isolate_none net s u ((trial_no_moves net x still).isolated u un))

-- ---- the nodes
module _ (dist : Metric) (r2 : Float) (single : Bool) (seed : ℕ) (ps : List Place) (ct : Counted ps) (few : length ps ≤ 512) (stays : stay_count ps ≤ 65536) where
  abbrev ns : List ℕ
  ns = nodes dist r2 ps

  abbrev pub net : Network
  net = node_network dist r2 ps

  -- No place has a link.
  abbrev pub NoLink : Type 0
  NoLink = (i j : ℕ) → i < length ps → j < length ps → link dist r2 ps i j ≡ false

  mark_is : (cluster dist r2 single seed ps).mark ≡ (kept_grouping net seed).mark
  unfolding cluster run_infomap
  mark_is = refl

  d_false : lt zero64 net.d ≡ false → NoLink
  d_false e i j h k = go (link dist r2 ps i j) refl
    where
      go : (b : Bool) → link dist r2 ps i j ≡ b → b ≡ false
      go true q = clash (lt zero64 net.d) (d_some dist r2 ps ct few stays i j h k q) e
      go false q = refl

  false_d : NoLink → lt zero64 net.d ≡ false
  false_d n = go (dec_lt 0 (length ns))
    where
      go : Dec (0 < length ns) → lt zero64 net.d ≡ false
      go (yes h) =
          let m = node_at dist r2 ps 0 h in
          let l = linked_link dist r2 ps (get_or ns 0 0) (node_linked dist r2 ps (get_or ns 0 0) m) in
          clash (link dist r2 ps (get_or ns 0 0) l.0) l.2 (n (get_or ns 0 0) l.0 (node_lt dist r2 ps (get_or ns 0 0) m) l.1)
      go (no h) = d_none dist r2 ps ct few stays (omega arith)

  -- (c) The mark is rest exactly when no place is linked, or a trial is kept and no node changed its group in its last round.
  pub rest_means : ((cluster dist r2 single seed ps).mark ≡ rest) ↔ (NoLink ⊎ KeptQuiet net (seeded seed))
  rest_means = ((λ e. to ((kept_rest net seed).0 (sym mark_is ∙ e))), (λ z. mark_is ∙ (kept_rest net seed).1 (back z (lt zero64 net.d) refl)))
    where
      to : (lt zero64 net.d ≡ false) ⊎ ((lt zero64 net.d ≡ true) × KeptQuiet net (seeded seed)) → NoLink ⊎ KeptQuiet net (seeded seed)
      to (inl q) = inl (d_false q)
      to (inr q) = inr q.1

      back : NoLink ⊎ KeptQuiet net (seeded seed) → (b : Bool) → lt zero64 net.d ≡ b → (lt zero64 net.d ≡ false) ⊎ ((lt zero64 net.d ≡ true) × KeptQuiet net (seeded seed))
      back (inl n) b q = inl (false_d n)
      back (inr k) true q = inr (q, k)
      back (inr k) false q = inl q

  -- ---- (d)

  -- The nodes' labels.
  abbrev pub gs : List ℕ
  gs = (run_infomap net seed).partition

  gs_is : gs ≡ relabel_dense (kept_grouping net seed).partition
  unfolding run_infomap
  gs_is = refl

  -- The same groups under other numbers.
  module _ (shown : List ℕ) where
    -- h is another group than u's, and a place linked to u's is in it.
    pub record Neighbouring (u h : ℕ) : Type 0 where
      pub node : ℕ
      pub inside : node < length ns
      pub link : link dist r2 ps (get_or ns u 0) (get_or ns node 0) ≡ true
      pub group : get_or shown node 0 ≡ h
      pub other : h ≢ get_or shown u 0

    -- h is no node's group.
    abbrev pub Unused : ℕ → Type 0
    Unused h = (v : ℕ) → v < length shown → get_or shown v 0 ≢ h

  some_d : (u : ℕ) → u < length ns → lt zero64 net.d ≡ true
  some_d u h =
      let m = node_at dist r2 ps u h in
      let l = linked_link dist r2 ps (get_or ns u 0) (node_linked dist r2 ps (get_or ns u 0) m) in
      d_some dist r2 ps ct few stays (get_or ns u 0) l.0 (node_lt dist r2 ps (get_or ns u 0) m) l.1 l.2

  module _ (shown : List ℕ) (like : Alike gs shown) (e : (cluster dist r2 single seed ps).mark ≡ rest) (u h : ℕ) (hu : u < length ns) where
    T : TrialAtRest net (kept_grouping net seed).partition (kept_grouping net seed).rounds
    T = kept_at_rest net seed (some_d u hu) (sym mark_is ∙ e)

    abbrev P : List ℕ
    P = (optimize_partition net T.rng).state.partition

    kept_alike : Alike P gs
    kept_alike = subst (λ (z : List ℕ). Alike P z) (sym (gs_is ∙ ap relabel_dense T.partition)) (relabel_alike P)

    alike : Alike P shown
    alike = record {
      long = like.long ∙ kept_alike.long;
      groups = λ v x hv hx.
          kept_alike.groups v x hv hx ∙ like.groups v x (subst (λ (m : ℕ). v < m) (sym kept_alike.long) hv) (subst (λ (m : ℕ). x < m) (sym kept_alike.long) hx);
    }

    long : length P ≡ length ns
    long = ap length (sym T.partition) ∙ part_long dist r2 single seed ps ct few stays

    in_p : (v : ℕ) → v < length ns → v < length P
    in_p v k = subst (λ (m : ℕ). v < m) (sym long) k

    -- Under rest no move of a node into a linked node's group, or into a group of its own, lowers the codelength by more than the margin.
    pub no_gain : Neighbouring shown u h ⊎ Unused shown h → lt (delta_move net (from_partition net shown) u h) (neg margin) ≡ false
    no_gain (inl q) =
        subst (λ (z : ℕ). lt (delta_move net (from_partition net shown) u z) (neg margin) ≡ false) q.group
        (into_neighbour net (w dist r2 ps ct few stays) (node_whole dist r2 ps ct few stays) T.rng T.still shown alike u q.node (in_p u hu) (in_p q.node q.inside)
        (node_links dist r2 ps ct few stays u q.node hu q.inside ∙ q.link) (λ z. q.other (sym q.group ∙ z)))
    no_gain (inr q) = into_new net (w dist r2 ps ct few stays) (node_whole dist r2 ps ct few stays) T.rng T.still shown alike u h (in_p u hu) q
