-- The nodes' network: its weights are whole, its links are those of the places, and its D is above 0 exactly where there is a node.
use mathlib.Core.Path.{◌≡◌, refl, sym, ap, ap₂, ◌∙◌, subst}
use mathlib.Core.Bool.{true, false, true≢false}
use mathlib.Core.List.{List, [], ◌∷◌, map}
use Prim.Native.Nat.{ℕ, zero, suc, ◌*◌, ◌^◌, ◌<◌, ◌≤◌}
use native.Mathlib.Nat.{le_trans}
use native.Mathlib.Decide.{dec_lt}
use native.Mathlib.Omega.{arith}
use borrow.Author.Tests.{lt-ltb}
use lib.Dec.{ltb, lit≤}
use lib.ListN.{length, get_or, drop, length-map, length-drop}
use lib.Seq.{ext_get_or, get_or-take, get_or-drop, length-take-le}
use lib.Ieee.{Float, nan, lt}
use Rattle.lists.proofs.Maps.{get_or_map}
use Rattle.lists.specs.Lists.{Has, position}
use Rattle.lists.proofs.Sums.{sum}
use Rattle.lists.proofs.Members.{get_or_position, position_lt}
use Rattle.float.specs.Binary64.{zero64}
use Rattle.float.proofs.Exact.{most}
use Rattle.neighbors.specs.Places.{Place}
use Rattle.neighbors.specs.StepsPlaces.{stay_count}
use Rattle.distance.specs.Distance.{Metric}
use Rattle.neighbors.specs.Links.{link, weight, nodes}
use Rattle.neighbors.proofs.LinkWeights.{whole_weight, weight_whole, whole_sym, whole_self, weight_above, linked_above, weights_few}
use Rattle.neighbors.specs.Tables.{table_of}
use Rattle.neighbors.specs.Chains.{Chain, alone, step}
use Rattle.neighbors.proofs.Cells.{row_before}
use Rattle.neighbors.proofs.Found.{Counted}
use Rattle.neighbors.proofs.Linked.{link_self, link_sym}
use Rattle.neighbors.proofs.NodeList.{node_lt, linked_node, link_linked, node_at, nodes_few}
use Rattle.neighbors.proofs.NodeTable.{length_table, cell_table}
use Rattle.map_state.specs.Network.{Network, row_at, row}
use Rattle.exact_sums.proofs.Whole.{wholes, WholeWeights}
use Rattle.exact_sums.proofs.WholeNetwork.{whole_network, whole_size, d_above, link_above, above, same}
use Rattle.run_laws.proofs.Ways.{BothWays, Way, end, go}
use Rattle.cluster.specs.Cluster.{node_network}

map_wholes : (dist : Metric) (r2 : Float) (ps : List Place) (i : ℕ) (l : List ℕ) → map (weight dist r2 ps i) l ≡ wholes (length l) (λ v. whole_weight dist r2 ps i (get_or l v 0))
unfolding wholes
map_wholes dist r2 ps i [] = refl
map_wholes dist r2 ps i (j ∷ js) = ap₂ {C = List Float} (λ x xs. x ∷ xs) (weight_whole dist r2 ps i j) (map_wholes dist r2 ps i js)

-- A row of the table.
row_of_table : (f : ℕ → ℕ → Float) (ns : List ℕ) (u : ℕ) → u < length ns → row_at (table_of f ns) (length ns) (length ns) u ≡ map (f (get_or ns u 0)) ns
row_of_table f ns u h =
    ext_get_or nan (row_at (table_of f ns) k k u) (map (f (get_or ns u 0)) ns) (long ∙ sym (length-map ns (f (get_or ns u 0))))
    (λ v p. let q : v < k = subst (λ (m : ℕ). v < m) long p in
    get_or-take k (drop (u * k) (table_of f ns)) v nan q ∙ get_or-drop (u * k) (table_of f ns) v nan ∙ cell_table f ns u v h q ∙ sym (at ns v q))
  where
    k : ℕ
    k = length ns

    long : length (row_at (table_of f ns) (length ns) (length ns) u) ≡ length ns
    long = length-take-le (length ns) (drop (u * length ns) (table_of f ns))
        (let a = length-drop (u * length ns) (table_of f ns) in let b = length_table f ns in let c = row_before (length ns) u (length ns) h in omega arith)

    at : (l : List ℕ) (v : ℕ) → v < length l → get_or (map (f (get_or ns u 0)) l) v nan ≡ f (get_or ns u 0) (get_or l v 0)
    at [] v q = absurd (omega arith)
    at (x ∷ xs) zero q = refl
    at (x ∷ xs) (suc v) q = at xs v (omega arith)

module _ (dist : Metric) (r2 : Float) (ps : List Place) (c : Counted ps) (few : length ps ≤ 512) (stays : stay_count ps ≤ 65536) where
  abbrev ns : List ℕ
  ns = nodes dist r2 ps

  abbrev pub net : Network
  net = node_network dist r2 ps

  abbrev t : List Float
  t = table_of (weight dist r2 ps) ns

  -- The whole weight of two nodes.
  abbrev pub w : ℕ → ℕ → ℕ
  w u v = whole_weight dist r2 ps (get_or ns u 0) (get_or ns v 0)

  exact : stay_count ps ≤ most
  exact = omega arith

  rows : (u : ℕ) → u < length ns → row_at t (length ns) (length ns) u ≡ wholes (length ns) (w u)
  rows u h = row_of_table (weight dist r2 ps) ns u h ∙ map_wholes dist r2 ps (get_or ns u 0) ns

  small : sum (length ns) (λ u. sum (length ns) (w u)) ≤ 2 ^ 52
  small = le_trans (weights_few dist r2 ps (λ u. get_or ns u 0) (length ns) (le_trans (nodes_few dist r2 ps) few) stays) (lit≤ tt)

  -- The weights are whole.
  pub node_whole : WholeWeights net w
  unfolding node_network
  node_whole = whole_network t (length ns) w rows small (λ u v h k. whole_sym dist r2 ps (get_or ns u 0) (get_or ns v 0)) (λ u h. whole_self dist r2 ps (get_or ns u 0))

  pub node_size : length net.strength ≡ length ns
  unfolding node_network
  node_size = whole_size t (length ns) w rows small

  in_places : (u : ℕ) → u < length ns → get_or ns u 0 < length ps
  in_places u h = node_lt dist r2 ps (get_or ns u 0) (node_at dist r2 ps u h)

  row_is : (u : ℕ) → u < length ns → row net u ≡ map (weight dist r2 ps (get_or ns u 0)) ns
  unfolding node_network
  row_is u h = same t (length ns) w rows small u ∙ row_of_table (weight dist r2 ps) ns u h

  -- Nodes link where their places do.
  pub node_links : (u v : ℕ) → u < length ns → v < length ns → lt zero64 (get_or (row net u) v nan) ≡ link dist r2 ps (get_or ns u 0) (get_or ns v 0)
  node_links u v h k =
      ap (λ (r : List Float). lt zero64 (get_or r v nan)) (row_is u h) ∙ ap (lt zero64) (get_or_map (weight dist r2 ps (get_or ns u 0)) ns v 0 nan k)
      ∙ weight_above dist r2 ps (get_or ns u 0) (get_or ns v 0) c exact (in_places u h)

  pub node_both : BothWays net
  node_both u v h k =
      let p : u < length ns = subst (λ (m : ℕ). u < m) node_size h in
      let q : v < length ns = subst (λ (m : ℕ). v < m) node_size k in
      node_links u v p q ∙ link_sym dist r2 ps (get_or ns u 0) (get_or ns v 0) ∙ sym (node_links v u q p)

  -- A way along links of nodes is a chain of places.
  pub way_chain : {u v : ℕ} → Way net u v → u < length ns → Chain dist r2 ps (get_or ns u 0) (get_or ns v 0)
  way_chain {u} end h = alone (in_places u h)
  way_chain {u} (go {v = x} p l q) h =
      let k : x < length ns = subst (λ (m : ℕ). x < m) node_size p in
      step (in_places u h) (sym (node_links u x h k) ∙ l) (way_chain q k)

  -- ---- D

  pub d_none : length ns ≡ 0 → lt zero64 net.d ≡ false
  unfolding node_network sum
  d_none e = d_above t (length ns) w rows small ∙ subst (λ (m : ℕ). ltb 0 (sum m (above m w)) ≡ false) (sym e) refl

  some_link : (i j : ℕ) → i < length ps → j < length ps → link dist r2 ps i j ≡ true → (u : ℕ) × (v : ℕ) × (u < v) × (v < length ns) × (0 < w u v)
  some_link i j h k e = pick (dec_lt u v) (dec_lt v u)
    where
      mi : Has ns i
      mi = linked_node dist r2 ps i h (link_linked dist r2 ps i j k e)

      e' : link dist r2 ps j i ≡ true
      e' = link_sym dist r2 ps j i ∙ e

      mj : Has ns j
      mj = linked_node dist r2 ps j k (link_linked dist r2 ps j i h e')

      u : ℕ
      u = position i ns

      v : ℕ
      v = position j ns

      at_u : get_or ns u 0 ≡ i
      at_u = get_or_position i ns mi

      at_v : get_or ns v 0 ≡ j
      at_v = get_or_position j ns mj

      pick : Dec (u < v) → Dec (v < u) → (u : ℕ) × (v : ℕ) × (u < v) × (v < length ns) × (0 < w u v)
      pick (yes p) q = (
        u,
        v,
        p,
        position_lt j ns mj,
        subst (λ (z : ℕ). 0 < whole_weight dist r2 ps z (get_or ns v 0)) (sym at_u)
            (subst (λ (z : ℕ). 0 < whole_weight dist r2 ps i z) (sym at_v) (linked_above dist r2 ps i j c h e)),
      )
      pick (no p) (yes q) = (
        v,
        u,
        q,
        position_lt i ns mi,
        subst (λ (z : ℕ). 0 < whole_weight dist r2 ps z (get_or ns u 0)) (sym at_v)
            (subst (λ (z : ℕ). 0 < whole_weight dist r2 ps j z) (sym at_u) (linked_above dist r2 ps j i c k e')),
      )
      pick (no p) (no q) =
          absurd (let s : u ≡ v = omega arith in
          true≢false (sym e ∙ subst (λ (z : ℕ). link dist r2 ps i z ≡ false) (sym at_u ∙ ap (λ (z : ℕ). get_or ns z 0) s ∙ at_v) (link_self dist r2 ps i)))

  -- Where two places link, D is above 0.
  pub d_some : (i j : ℕ) → i < length ps → j < length ps → link dist r2 ps i j ≡ true → lt zero64 net.d ≡ true
  unfolding node_network
  d_some i j h k e =
      let s = some_link i j h k e in
      d_above t (length ns) w rows small ∙ lt-ltb 0 (sum (length ns) (above (length ns) w)) (link_above t (length ns) w rows small s.0 s.1 s.2 s.3 s.4)
