-- The definition, run on a small network.
use Rattle.std.specs.Prelude.{◌≡◌, refl, ℕ, List, [], ◌∷◌, Float}
use Rattle.std.specs.Float.Ieee.{mul, lt, of_bits}
use Rattle.lists.specs.Lists.{from, upto}
use Rattle.float.specs.Binary64.{zero64, one64}
use Rattle.float.specs.Ln.{ln2}
use Rattle.map_state.specs.Network.{Network, strengths_from, total_from, network}
use Rattle.codelength.specs.Codelength.{add_module, terms_from, node_plogp_from, codelength_of, codelength}
use Rattle.optimize.specs.Examples.{trial_computed}
use Rattle.infomap.specs.Infomap.{rest, trial_mark, keep, trials, best_of_three, kept_grouping, rank, relabel_dense, run_infomap}

-- What a run computes, beside its trials.
unfoldable pub run_computed : Unit {0}
unfolding trial_computed add_module terms_from node_plogp_from codelength_of codelength trial_mark keep trials best_of_three kept_grouping rank relabel_dense run_infomap
run_computed = tt

-- With no nodes: rest, rounds 0.
pub no_nodes : (table : List Float) (stride seed : ℕ) → run_infomap (network table stride 0) seed ≡ record { partition = []; mark = rest; rounds = 0; codelength = zero64 }
unfolding run_infomap kept_grouping relabel_dense network strengths_from total_from from upto mul lt of_bits
no_nodes table stride seed = refl

-- Seeds 42 and 43 give the same grouping.
pub same_seeds : (net : Network) → run_infomap net 42 ≡ run_infomap net 43
unfolding run_infomap kept_grouping
same_seeds net = refl

-- Two linked nodes are one group after two rounds, with codelength ln 2.
abbrev pub linked_pair : Network
linked_pair = network (zero64 ∷ one64 ∷ one64 ∷ zero64 ∷ []) 2 2

pub linked_pair_lem : run_infomap linked_pair 42 ≡ record { partition = 0 ∷ 0 ∷ []; mark = rest; rounds = 2; codelength = ln2 }
unfolding run_computed
linked_pair_lem = refl
