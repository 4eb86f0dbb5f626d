-- Demand 3 of the labels that follow from the tracks' medians.
use mathlib.Core.Path.{◌≡◌, refl, sym, ap, ◌∙◌, subst}
use mathlib.Core.Logic.{◌↔◌, ◌⊎◌, inl, inr}
use mathlib.Core.Option.{Option, none, some}
use mathlib.Core.Bool.{Bool, true, false, cond}
use mathlib.Core.List.{List, [], ◌∷◌, map}
use Prim.Native.Nat.{ℕ, zero, suc, ◌*◌, ◌<◌, ◌≤◌}
use native.Mathlib.Omega.{arith}
use borrow.Author.Tests.{eqb-true, eq-eqb}
use lib.Dec.{eqb}
use lib.IntN.{ℤ, pos, pos-ne-negsuc}
use lib.ListN.{length, get_or, length-map}
use lib.Ieee.{Float, lt, neg}
use Rattle.lists.proofs.Maps.{get_or_map}
use Rattle.lists.proofs.Tests.{clash, eqb_like}
use Rattle.distance.specs.declared.Point.{Point}
use Rattle.settings.specs.declared.config.Config.{Config}
use Rattle.trace.specs.Trace.{Fix, fix_count}
use Rattle.neighbors.specs.Places.{Place, place_of, places}
use Rattle.neighbors.specs.StepsPlaces.{stay_count}
use Rattle.distance.specs.Distance.{Metric}
use Rattle.neighbors.specs.Links.{link, linked, nodes}
use Rattle.neighbors.specs.Chains.{Chain}
use Rattle.neighbors.proofs.Found.{Counted, counted, placed, all_counted}
use Rattle.neighbors.proofs.NodeList.{link_linked, linked_link, linked_node, node_lt, node_at, node_position}
use Rattle.scan.specs.Scan.{margin}
use Rattle.infomap.specs.Infomap.{rest, run_infomap}
use Rattle.rng.specs.Rng.{seeded}
use Rattle.exact_sums.proofs.Whole.{Alike}
use Rattle.run_laws.specs.KeptTrial.{KeptQuiet}
use Rattle.cluster.specs.Cluster.{node_network, cluster}
use Rattle.cluster.proofs.Labelled.{label_none, label_chain, node_label, single_label, labels_long}
use Rattle.cluster.proofs.AtRest as at_rest
use Rattle.stay.specs.Stays.{all_medians, all_fix_medians}
use Rattle.cluster.specs.FixLabels.{label_for, fix_labels}
use Rattle.lists.specs.Lists.{minus_one}
use Rattle.infostop.specs.Demand.{Given, is_in, label_in, numbered, median_label, Outside, LiesIn, Alone, shown_groups, NeighbourGroup, NewGroup, change, Demand3}
use Rattle.stay.proofs.AllMedians.{lies_among, all_medians_few}
use Rattle.cluster.proofs.FixLabels.{fix_labels_length, label_at}
use Rattle.cluster.proofs.Lying.{some_inside}

-- Of fixes that have the labels of their places, the first that lies in place i has the label of i.
label_in_lem :
    (ps : List Place) (pl : List ℤ) (i k : ℕ) (m : Point) (ms : List (Option Point)) → get_or ms k none ≡ some m → place_of ps m ≡ i → label_in ps i ms
    (map (label_for ps pl) ms) ≡ get_or pl i minus_one
unfolding label_in label_for is_in
label_in_lem ps pl i k m [] e q = absurd (let z : ◌≡◌ {A = ℕ} 0 1 = cc in omega arith)
label_in_lem ps pl i zero m (none ∷ ms) e q = absurd (let z : ◌≡◌ {A = ℕ} 0 1 = cc in omega arith)
label_in_lem ps pl i (suc k) m (none ∷ ms) e q = label_in_lem ps pl i k m ms e q
label_in_lem ps pl i k m (some n ∷ ms) e q = go (eqb (place_of ps n) i) refl k e (λ j d. label_in_lem ps pl i j m ms d q)
  where
    go : (b : Bool) → eqb (place_of ps n) i ≡ b → (k : ℕ) → get_or (some n ∷ ms) k none ≡ some m
        → ((j : ℕ) → get_or ms j none ≡ some m → label_in ps i ms (map (label_for ps pl) ms) ≡ get_or pl i minus_one)
        → cond b (get_or pl (place_of ps n) minus_one) (label_in ps i ms (map (label_for ps pl) ms)) ≡ get_or pl i minus_one
    go true h k e ih = ap (λ (z : ℕ). get_or pl z minus_one) (eqb-true (place_of ps n) i h)
    go false h zero e ih = let same : n ≡ m = cc in clash (eqb (place_of ps n) i) (eq-eqb (place_of ps n) i (ap (place_of ps) same ∙ q)) h
    go false h (suc k) e ih = ih k e

module _ (dist : Metric) (c : Config) (ts : List (List Fix)) (fixes : fix_count ts ≤ 65536) (few : length (places (all_medians dist c ts)) ≤ 512) where
  abbrev s : Config
  s = c

  abbrev r2 : Float
  r2 = c.r2

  abbrev single : Bool
  single = c.label_singleton

  abbrev seed : ℕ
  seed = c.seed

  abbrev ps : List Place
  ps = places (all_medians dist s ts)

  abbrev pl : List ℤ
  pl = (cluster dist r2 single seed ps).labels

  -- What a fit gives for these settings and traces.
  abbrev pub given : Given
  given = record { dist = dist; config = c; traces = ts; labels = fix_labels dist s ps pl ts; mark = (cluster dist r2 single seed ps).mark }

  ct : Counted ps
  ct = counted (all_medians dist s ts)

  stays : stay_count ps ≤ 65536
  stays = let a = all_counted (all_medians dist s ts) in let b = all_medians_few dist s ts in omega arith

  -- ---- where a fix lies

  in_place : (k : ℕ) (m : Point) → get_or (all_fix_medians dist s ts) k none ≡ some m → place_of ps m < length ps
  in_place k m e = placed (all_medians dist s ts) m (lies_among dist s ts k m e)

  lies_in : (k : ℕ) (m : Point) → get_or (all_fix_medians dist s ts) k none ≡ some m → LiesIn given k (place_of ps m)
  lies_in k m e = record { median = m; lies = e; place = refl; inside = in_place k m e }

  label_some : (k : ℕ) (m : Point) → get_or (all_fix_medians dist s ts) k none ≡ some m → get_or (fix_labels dist s ps pl ts) k minus_one ≡ get_or pl (place_of ps m) minus_one
  unfolding label_for
  label_some k m e = label_at dist s ps pl ts k ∙ ap (label_for ps pl) e

  label_outside : (k : ℕ) → get_or (all_fix_medians dist s ts) k none ≡ none → get_or (fix_labels dist s ps pl ts) k minus_one ≡ minus_one
  unfolding label_for
  label_outside k e = label_at dist s ps pl ts k ∙ ap (label_for ps pl) e

  alone_unlinked : (i : ℕ) → Alone given i → linked dist r2 ps i ≡ false
  alone_unlinked i a = go (linked dist r2 ps i) refl
    where
      go : (b : Bool) → linked dist r2 ps i ≡ b → b ≡ false
      go true q = let l = linked_link dist r2 ps i q in clash (link dist r2 ps i l.0) l.2 (a l.0 l.1)
      go false q = refl

  unlinked_alone : (i : ℕ) → linked dist r2 ps i ≡ false → Alone given i
  unlinked_alone i e j h = go (link dist r2 ps i j) refl
    where
      go : (b : Bool) → link dist r2 ps i j ≡ b → b ≡ false
      go true q = clash (linked dist r2 ps i) (link_linked dist r2 ps i j h q) e
      go false q = refl

  -- ---- labels are -1 or a number from 0 up

  abbrev Kind : ℤ → Type 0
  Kind x = (x ≡ minus_one) ⊎ ((l : ℕ) × (x ≡ pos l))

  kind_if : (t : Bool) (n : ℕ) → Kind (cond t (pos n) minus_one)
  kind_if true n = inr (n, refl)
  kind_if false n = inl refl

  place_kind : (i : ℕ) → i < length ps → Kind (get_or pl i minus_one)
  place_kind i h = go (linked dist r2 ps i) refl
    where
      go : (b : Bool) → linked dist r2 ps i ≡ b → Kind (get_or pl i minus_one)
      go true q = inr (_, node_label dist r2 single seed ps i (linked_node dist r2 ps i h q))
      go false q = subst Kind (sym (single_label dist r2 single seed ps i h q)) (kind_if single _)

  fix_kind : (k : ℕ) → Kind (get_or (fix_labels dist s ps pl ts) k minus_one)
  fix_kind k = go (get_or (all_fix_medians dist s ts) k none) refl
    where
      go : (o : Option Point) → get_or (all_fix_medians dist s ts) k none ≡ o → Kind (get_or (fix_labels dist s ps pl ts) k minus_one)
      go none e = inl (label_outside k e)
      go (some m) e = subst Kind (sym (label_some k m e)) (place_kind (place_of ps m) (in_place k m e))

  -- ---- (a)

  rule : (k : ℕ) → (get_or (fix_labels dist s ps pl ts) k minus_one ≡ minus_one) ↔ (Outside given k ⊎ ((i : ℕ) × LiesIn given k i × Alone given i × (single ≡ false)))
  rule k = (to (get_or (all_fix_medians dist s ts) k none) refl, back)
    where
      Why : Type 0
      Why = Outside given k ⊎ ((i : ℕ) × LiesIn given k i × Alone given i × (single ≡ false))

      to : (o : Option Point) → get_or (all_fix_medians dist s ts) k none ≡ o → get_or (fix_labels dist s ps pl ts) k minus_one ≡ minus_one → Why
      to none q e = inl q
      to (some m) q e =
          let p = (label_none dist r2 single seed ps (place_of ps m) (in_place k m q)).0 (sym (label_some k m q) ∙ e) in
          inr (place_of ps m, lies_in k m q, unlinked_alone (place_of ps m) p.1, p.0)

      back : Why → get_or (fix_labels dist s ps pl ts) k minus_one ≡ minus_one
      back (inl q) = label_outside k q
      back (inr (i, l, a, n)) =
          label_some k l.median l.lies ∙ ap (λ (z : ℕ). get_or pl z minus_one) l.place ∙ (label_none dist r2 single seed ps i l.inside).1 (n, alone_unlinked i a)

  -- ---- (b)

  chains : (k k' l : ℕ) → get_or (fix_labels dist s ps pl ts) k minus_one ≡ pos l → get_or (fix_labels dist s ps pl ts) k' minus_one ≡ pos l
      → (i : ℕ) × (i' : ℕ) × LiesIn given k i × LiesIn given k' i' × Chain dist r2 ps i i'
  chains k k' l p q = go (get_or (all_fix_medians dist s ts) k none) (get_or (all_fix_medians dist s ts) k' none) refl refl
    where
      go : (o o' : Option Point) → get_or (all_fix_medians dist s ts) k none ≡ o → get_or (all_fix_medians dist s ts) k' none ≡ o' → (i : ℕ) × (i' : ℕ) × LiesIn given k i × LiesIn given k' i' × Chain dist r2 ps i i'
      go none o' x y = absurd (pos-ne-negsuc l 0 (sym p ∙ label_outside k x))
      go (some m) none x y = absurd (pos-ne-negsuc l 0 (sym q ∙ label_outside k' y))
      go (some m) (some m') x y = (
        place_of ps m,
        place_of ps m',
        lies_in k m x,
        lies_in k' m' y,
        label_chain dist r2 single seed ps ct few stays (place_of ps m) (place_of ps m') l (in_place k m x) (in_place k' m' y) (sym (label_some k m x) ∙ p) (sym (label_some k' m' y) ∙ q),
      )

  -- ---- (c)

  marks : ((cluster dist r2 single seed ps).mark ≡ rest) ↔ (((i : ℕ) → i < length ps → Alone given i) ⊎ KeptQuiet (node_network dist r2 ps) (seeded seed))
  marks = let r = at_rest.rest_means dist r2 single seed ps ct few stays in ((λ e. to (r.0 e)), (λ z. r.1 (back z)))
    where
      Kept : Type 0
      Kept = KeptQuiet (node_network dist r2 ps) (seeded seed)

      to : at_rest.NoLink dist r2 single seed ps ct few stays ⊎ Kept → ((i : ℕ) → i < length ps → Alone given i) ⊎ Kept
      to (inl n) = inl (λ i h j k. n i j h k)
      to (inr k) = inr k

      back : ((i : ℕ) → i < length ps → Alone given i) ⊎ Kept → at_rest.NoLink dist r2 single seed ps ct few stays ⊎ Kept
      back (inl n) = inl (λ i j h k. n i h j k)
      back (inr k) = inr k

  -- ---- (d): the groups that the labels show are those of the kept grouping

  abbrev ns : List ℕ
  ns = nodes dist r2 ps

  -- The groups of the kept grouping, in labels.
  abbrev gs : List ℕ
  gs = (run_infomap (node_network dist r2 ps) seed).partition

  median_label_lem : (i : ℕ) → i < length ps → median_label given i ≡ get_or pl i minus_one
  unfolding fix_labels
  median_label_lem i h = let x = some_inside dist s ts i h in label_in_lem ps pl i x.fix x.median (all_fix_medians dist s ts) x.lies x.place

  shows : (k i : ℕ) → LiesIn given k i → get_or (fix_labels dist s ps pl ts) k minus_one ≡ median_label given i
  shows k i l = label_some k l.median l.lies ∙ ap (λ (z : ℕ). get_or pl z minus_one) l.place ∙ sym (median_label_lem i l.inside)

  abbrev number : ℕ → ℕ
  number i = numbered (median_label given i)

  shown_at : (v : ℕ) → v < length ns → get_or (shown_groups given) v 0 ≡ 2 * get_or gs v 0
  unfolding numbered
  shown_at v h =
      let m = node_at dist r2 ps v h in
      get_or_map number ns v 0 0 h
      ∙ ap numbered (median_label_lem (get_or ns v 0) (node_lt dist r2 ps (get_or ns v 0) m) ∙ node_label dist r2 single seed ps (get_or ns v 0) m)
      ∙ ap (λ (z : ℕ). 2 * get_or gs z 0) (node_position dist r2 ps v h)

  shown_long : length (shown_groups given) ≡ length ns
  shown_long = length-map ns number

  gs_long : length gs ≡ length ns
  gs_long = labels_long dist r2 single seed ps ct few stays

  shown_alike : Alike gs (shown_groups given)
  shown_alike = record { long = shown_long ∙ sym gs_long; groups = λ v x hv hx. same v x (subst (λ (m : ℕ). v < m) gs_long hv) (subst (λ (m : ℕ). x < m) gs_long hx) }
    where
      same : (v x : ℕ) → v < length ns → x < length ns → eqb (get_or gs v 0) (get_or gs x 0) ≡ eqb (get_or (shown_groups given) v 0) (get_or (shown_groups given) x 0)
      same v x hv hx =
          let a = shown_at v hv in
          let b = shown_at x hx in
          eqb_like (get_or gs v 0) (get_or gs x 0) (get_or (shown_groups given) v 0) (get_or (shown_groups given) x 0) (λ e. a ∙ ap (λ (z : ℕ). 2 * z) e ∙ sym b) (λ e. omega (arith, a, b, e))

  settles : (cluster dist r2 single seed ps).mark ≡ rest → (u h : ℕ) → u < length ns → NeighbourGroup given u h ⊎ NewGroup given h → lt (change given u h) (neg margin) ≡ false
  settles e u h hu q = at_rest.no_gain dist r2 single seed ps ct few stays (shown_groups given) shown_alike e u h hu (way q)
    where
      way : NeighbourGroup given u h ⊎ NewGroup given h
          → at_rest.Neighbouring dist r2 single seed ps ct few stays (shown_groups given) u h ⊎ at_rest.Unused dist r2 single seed ps ct few stays (shown_groups given) h
      way (inl n) = inl (record { node = n.node; inside = n.inside; link = n.link; group = n.group; other = n.other })
      way (inr n) = inr (λ v p. n v (subst (λ (m : ℕ). v < m) shown_long p))

  -- Demand 3, whole.
  pub demand3 : Demand3 given
  demand3 =
      record {
        each = fix_labels_length dist s ps pl ts;
        numbers = λ k h. fix_kind k;
        unlabelled = λ k h. rule k;
        joined = λ k k' l h h' p q. chains k k' l p q;
        marked = marks;
        shown = shows;
        settled = settles;
      }
