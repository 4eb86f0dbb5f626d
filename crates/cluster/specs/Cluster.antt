-- Labels of places (docs/RULES.md, "Labels"; cluster.rs of the Rust). Definitions only.
use Rattle.std.specs.Prelude.{◌≡◌, ℕ, zero, suc, ◌+◌, ◌-◌, ◌<◌, ◌≤◌, max, Bool, true, false, ◌&&◌, cond, List, [], ◌∷◌, map, eqb, ltb, ℤ, pos, negsuc, length, get_or, Float}
use Rattle.lists.specs.Lists.{upto, member, position}
use Rattle.neighbors.specs.Places.{Place}
use Rattle.distance.specs.Distance.{Metric}
use Rattle.neighbors.specs.Links.{weight, nodes, singles}
use Rattle.neighbors.specs.Tables.{table_of}
use Rattle.map_state.specs.Network.{Network, network}
use Rattle.infomap.specs.Infomap.{RunMark, run_infomap}

-- The network of the nodes: linked places in place order, with the weights of their links.
unfoldable pub node_network : Metric → Float → List Place → Network
node_network dist r2 ps = network (table_of (weight dist r2 ps) (nodes dist r2 ps)) (length (nodes dist r2 ps)) (length (nodes dist r2 ps))

-- How many labels the nodes have: one above the highest.
unfoldable pub label_count : List ℕ → ℕ
label_count [] = 0
label_count (l ∷ ls) = max (suc l) (label_count ls)

-- The label of place i: the nodes ns have the labels ls, 0 up by first member; the singles ss follow upward in place order, or have -1.
unfoldable pub place_label : Bool → List ℕ → List ℕ → List ℕ → ℕ → ℤ
place_label single ns ss ls i =
    let a = pos (get_or ls (position i ns) 0) in
    let b = pos (label_count ls + position i ss) in
    cond (member i ns) a (cond single b (negsuc 0))

-- The same labels in one walk over the places, for any nodes and labels of theirs: k places from i on, u nodes being before them. A place that is the next node
-- has that node's label, or 0 where ls ends before it; any other place is a single, with i - u singles before it.
-- For nodes in place order this is `place_label` of each place (`labels_in_order` in cluster/proofs/Walk.antt).
unfoldable pub labels_from : Bool → List ℕ → List ℕ → ℕ → ℕ → ℕ → List ℤ
labels_from single ns ls u i zero = []
labels_from single ns ls u i (suc k) =
    let node = ltb u (length ns) && eqb (get_or ns u 0) i in
    cond node (pos (get_or ls u 0)) (cond single (pos (label_count ls + (i - u))) (negsuc 0)) ∷ labels_from single ns ls (cond node (u + 1) u) (suc i) k

-- The labels of the places, and mark, rounds and codelength of the kept trial.
pub record Clustering : Type 0 where
  pub labels : List ℤ
  pub mark : RunMark
  pub rounds : ℕ
  pub codelength : Float

unfoldable pub cluster : Metric → Float → Bool → ℕ → List Place → Clustering
cluster dist r2 single seed ps =
    let k = run_infomap (node_network dist r2 ps) seed in
    record {
      labels = map (place_label single (nodes dist r2 ps) (singles dist r2 ps) k.partition) (upto (length ps));
      mark = k.mark;
      rounds = k.rounds;
      codelength = k.codelength;
    }

-- Below a label that a place has, each number is the label of a place.
abbrev pub NoGap : List ℤ → Type 0
NoGap ls = (i l l' : ℕ) → i < length ls → get_or ls i (negsuc 0) ≡ pos l → l' ≤ l → (j : ℕ) × (j < length ls) × (get_or ls j (negsuc 0) ≡ pos l')

-- All labels are -1.
unfoldable pub none_labelled : List ℤ → Bool
none_labelled [] = true
none_labelled (pos l ∷ ls) = false
none_labelled (negsuc l ∷ ls) = none_labelled ls
