-- (d) of demand 3, run on two places.
use Rattle.std.specs.Prelude.{◌≡◌, refl, ℕ, suc, Bool, true, false, not, ◌&&◌, List, [], ◌∷◌, map, eqb, ℤ, pos, negsuc, length, get_or}
use Rattle.std.specs.Float.Ieee.{neg, lt, le}
use Rattle.lists.specs.Lists.{upto, member, position, any_of, select}
use Rattle.float.specs.Binary64.{whole64, zero64}
use Rattle.float.specs.Root.{root}
use Rattle.distance.specs.Distance.{euclidean}
use Rattle.neighbors.specs.Places.{Place}
use Rattle.neighbors.specs.Links.{apart, link, weight, linked, nodes, singles}
use Rattle.neighbors.specs.Tables.{rows_of, table_of}
use Rattle.map_state.specs.Network.{Network}
use Rattle.map_state.specs.MapState.{delta_move}
use Rattle.codelength.specs.Codelength.{from_partition}
use Rattle.scan.specs.Scan.{margin}
use Rattle.infomap.specs.Facts.{run_computed}
use Rattle.infomap.specs.Infomap.{rest}
use Rattle.cluster.specs.Cluster.{Clustering, node_network, label_count, place_label, cluster}

-- What is computed here and above: to unfold this is to unfold all that it names.
unfoldable pub cluster_computed : Unit {0}
unfolding run_computed le member position any_of select root euclidean apart link weight linked nodes singles rows_of table_of node_network label_count
    place_label cluster
cluster_computed = tt

-- (0,0) and (10,0), with one stay each. With r2 10 they are linked.
abbrev pub pair : List Place
pair = map (λ x. record { at = record { x = whole64 x; y = zero64 }; count = 1 }) (0 ∷ 10 ∷ [])

abbrev pub clustered : Clustering
clustered = cluster euclidean (whole64 10) true 42 pair

-- The group that a label shows.
abbrev pub group_of : ℤ → ℕ
group_of (pos l) = l
group_of (negsuc l) = 0

-- Whether a move of a node into another group changes the codelength by less than -1e-15. With n nodes in groups 0 up, the numbers to n are every group and a new one.
abbrev pub helps : Network → List ℕ → Bool
helps net gs = any_of (λ u. any_of (λ h. not (eqb h (get_or gs u 0)) && lt (delta_move net (from_partition net gs) u h) (neg margin)) (upto (suc (length gs)))) (upto (length gs))

-- The mark of the two places is rest, and no single move from the groups that their labels show helps.
pub settled : (clustered.mark ≡ rest) × (helps (node_network euclidean (whole64 10) pair) (map group_of clustered.labels) ≡ false)
unfolding cluster_computed
settled = (refl, refl)
