-- The nodes' table as the grouping asks for it, and the labels of places from the grouping.
use mathlib.Core.Path.{◌≡◌, sym, ap, ◌∙◌, subst}
use mathlib.Core.Bool.{Bool}
use mathlib.Core.List.{List, map, ◌++◌}
use Prim.Native.Nat.{ℕ, ◌*◌, ◌<◌, ◌≤◌}
use native.Mathlib.Nat.{mul-le-mul}
use native.Mathlib.Omega.{arith}
use lib.IntN.{ℤ}
use lib.ListN.{length, get_or, take, replicate}
use lib.Seq.{length-take-le, take_at}
use lib.Ieee.{Float}
use Rattle.lists.specs.Lists.{upto}
use Rattle.neighbors.specs.Places.{Place}
use Rattle.distance.specs.Distance.{Metric}
use Rattle.neighbors.specs.Links.{weight, linked, nodes, singles}
use Rattle.neighbors.specs.StepsTables.{Tabled, RowNumbers, Compacted}
use Rattle.neighbors.specs.Tables.{table_of}
use Rattle.neighbors.proofs.NodeTable.{node_table}
use Rattle.map_state.specs.Network.{Network, network}
use Rattle.map_state.specs.MapState.{lowest}
use Rattle.map_state.proofs.Leaders.{lowest_of}
use Rattle.infomap.specs.Infomap.{Grouping, kept_grouping, run_infomap, relabel_dense}
use Rattle.infomap.specs.Steps.{grouping_of}
use Rattle.infomap.specs.declared.Kept.{Kept}
use Rattle.infomap.proofs.Labels.{rank_le}
use Rattle.cluster.specs.Cluster.{node_network, label_count, place_label, labels_from, Clustering, cluster}
use Rattle.cluster.specs.StepsSlices.{clustering_of}
use Rattle.cluster.proofs.Relabelled.{relabel_at, relabel_long}
use Rattle.cluster.proofs.LabelCount.{count_le}
use Rattle.cluster.proofs.Walk.{labels_in_order}

-- ---- the cells of k of n rows and columns

pub cells_in : (k n : ℕ) → k ≤ n → k * k ≤ n * n
cells_in k n h = mul-le-mul h h

-- ---- the labels that the grouping gives

-- Dense labels are at most as many as the nodes.
pub dense_few : (part : List ℕ) → label_count (relabel_dense part) ≤ length (relabel_dense part)
dense_few part =
    count_le (relabel_dense part) (length (relabel_dense part))
    (λ u h. let k : u < length part = subst (λ (z : ℕ). u < z) (relabel_long part) h in
    let a = relabel_at part u k in
    let b = rank_le part (lowest (get_or part u 0) part) in
    let d = lowest_of part u k in
    omega arith)

labels_few : {ls : List ℕ} (r : Kept) (net : Network) (seed : ℕ) → grouping_of ls r ≡ run_infomap net seed → label_count ls ≤ length ls
unfolding run_infomap
labels_few r net seed e = subst (λ (l : List ℕ). label_count l ≤ length l) (sym (ap (λ (g : Grouping). g.partition) e)) (dense_few (kept_grouping net seed).partition)

-- k labels in front of 512 numbers
pub front_few : (k seed : ℕ) (r : Kept) (net : Network) (ls end : List ℕ) → grouping_of ls r ≡ run_infomap net seed → length ls ≡ length {A = ℕ} (take k (replicate 512 0)) → k ≤ 512
    → label_count (take k (ls ++ end)) ≤ 512
front_few k seed r net ls end e l h =
    let room = length-take-le k (replicate 512 0) h in
    let o : take k (ls ++ end) ≡ ls = take_at ls end k (l ∙ room) in
    rw o (omega (arith, labels_few r net seed e, l, room, h))

module _ (dist : Metric) (r2 : Float) (ps : List Place) where
  -- The compacted table is that of the nodes' network.
  network_front : (n : ℕ) (ns : List ℕ) (t s : List Float) → ns ≡ nodes dist r2 ps → RowNumbers n ns → Tabled (weight dist r2 ps) n t (n * n) → Compacted n ns t s (length ns * length ns)
      → length s ≡ n * n → network (take (length ns * length ns) s) (length ns) (length ns) ≡ node_network dist r2 ps
  unfolding node_network
  network_front n ns t s e r w c l =
      ap (λ (a : List Float). network a (length ns) (length ns))
      (node_table (weight dist r2 ps) n ns t s r w c (let a = cells_in (length ns) n r.few in omega arith))
      ∙ ap (λ (x : List ℕ). network (table_of (weight dist r2 ps) x) (length x) (length x)) e

  cluster_is : (single : Bool) (seed : ℕ) {ns gs : List ℕ} {labels : List ℤ} {m : ℕ} (r : Kept) → ns ≡ nodes dist r2 ps → m ≡ length ps → grouping_of gs r ≡ run_infomap (node_network dist r2 ps) seed
      → labels ≡ labels_from single ns gs 0 0 m → clustering_of labels r ≡ cluster dist r2 single seed ps
  unfolding cluster nodes singles
  cluster_is single seed {ns} {gs} {labels} r e q g l =
      ap (λ (z : List ℤ). clustering_of z r) written ∙ ap answer g
    where
      written : labels ≡ map (place_label single (nodes dist r2 ps) (singles dist r2 ps) gs) (upto (length ps))
      written = unfold nodes singles in l ∙ rw (e, q) (labels_in_order (linked dist r2 ps) single gs (length ps))

      answer : Grouping → Clustering
      answer k = record {
        labels = map (place_label single (nodes dist r2 ps) (singles dist r2 ps) k.partition) (upto (length ps));
        mark = k.mark;
        rounds = k.rounds;
        codelength = k.codelength;
      }

  -- From the compacted table, and from the grouping of the nodes in front of 512 numbers.
  pub grouped : (single : Bool) (seed n : ℕ) (ns : List ℕ) (r : Kept) (labels : List ℤ) (t s : List Float) (ls end : List ℕ) (m : ℕ)
      → labels ≡ labels_from single ns (take (length ns) (ls ++ end)) 0 0 m
      → grouping_of ls r ≡ run_infomap (network (take (length ns * length ns) s) (length ns) (length ns)) seed
      → Compacted n ns t s (length ns * length ns) → RowNumbers n ns
      → length ls ≡ length {A = ℕ} (take (length ns) (replicate 512 0)) → length ns ≤ 512 → m ≡ n → length s ≡ n * n
      → length ps ≡ n → Tabled (weight dist r2 ps) n t (n * n) → ns ≡ nodes dist r2 ps → clustering_of labels r ≡ cluster dist r2 single seed ps
  grouped single seed n ns r labels t s ls end m d g c rise l k q long e w i =
      let o : take (length ns) (ls ++ end) ≡ ls = take_at ls end (length ns) (l ∙ length-take-le (length ns) (replicate 512 0) k) in
      cluster_is single seed r i (q ∙ sym e) (g ∙ ap (λ (x : Network). run_infomap x seed) (network_front n ns t s i rise w c long)) (rw o at d)
