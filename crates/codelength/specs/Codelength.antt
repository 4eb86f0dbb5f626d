-- The state of a partition afresh (`from_partition`) and its codelength (`recompute_l`, `map_equation`). Definitions only.
-- D is above 0 here: `run_infomap` answers before where it is not, so the Rust's tests of `two_m` have no place.
use Rattle.std.specs.Prelude.{ℕ, zero, suc, cond, List, [], ◌∷◌, eqb, length, get_or, set, replicate, Float}
use Rattle.std.specs.Float.{nan}
use Rattle.std.specs.Float.Ieee.{lt}
use Rattle.float.specs.Binary64.{add64, sub64, div64, zero64}
use Rattle.float.specs.Ln.{plogp}
use Rattle.map_state.specs.Network.{Network, row}
use Rattle.map_state.specs.MapState.{MapState, lowest, leads, sum_q}
use Rattle.codelength.specs.declared.Terms.{Terms}

-- The weight w to a node of group p, added to the exit weight of g if p is another group.
unfoldable pub add_exit : ℕ → Float → ℕ → Float → Float
add_exit g a p w = cond (lt zero64 w) (cond (eqb p g) a (add64 a w)) a

unfoldable pub exit_from : ℕ → Float → List ℕ → List Float → Float
exit_from g a [] ws = a
exit_from g a (p ∷ ps) [] = a
exit_from g a (p ∷ ps) (w ∷ ws) = exit_from g (add_exit g a p w) ps ws

-- Exit weights and strengths of the groups, each at the group's lowest member.
pub record Sums : Type 0 where
  pub exits : List Float
  pub strengths : List Float

abbrev pub sums_of : List Float → List Float → Sums
sums_of exits strengths = record { exits = exits; strengths = strengths }

-- Node v added to its group's sums.
unfoldable pub add_node : Network → List ℕ → Sums → ℕ → Sums
add_node net part s v =
    let g = get_or part v 0 in
    let f = lowest g part in
    record {
      exits = set s.exits f (exit_from g (get_or s.exits f nan) part (row net v));
      strengths = set s.strengths f (add64 (get_or s.strengths f nan) (get_or net.strength v nan));
    }

-- The k nodes from v on.
unfoldable pub add_nodes_from : Network → List ℕ → Sums → ℕ → ℕ → Sums
add_nodes_from net part s v zero = s
add_nodes_from net part s v (suc k) = add_nodes_from net part (add_node net part s v) (suc v) k

abbrev pub no_sums : ℕ → Sums
no_sums k = sums_of (replicate k zero64) (replicate k zero64)

unfoldable pub module_sums : Network → List ℕ → Sums
module_sums net part = add_nodes_from net part (no_sums (length part)) 0 (length part)

-- `from_partition`: the state with every sum made afresh.
unfoldable pub from_partition : Network → List ℕ → MapState
from_partition net part = let s = module_sums net part in record { partition = part; exits = s.exits; strengths = s.strengths; q_sum = sum_q net.d part s.exits }

-- ---- the codelength, as `recompute_l` adds it up

-- One group of exit weight e and strength s: q to Q, plogp(q) to its sum, plogp(p + q) - plogp(q) to term 2.
unfoldable pub add_module : Float → Terms → Float → Float → Terms
add_module d t e s =
    let q = div64 e d in
    let p = div64 s d in
    record { q_exit = add64 t.q_exit q; sum_plogp_q = add64 t.sum_plogp_q (plogp q); term2 = add64 t.term2 (sub64 (plogp (add64 p q)) (plogp q)) }

-- The groups by lowest member. Over k nodes from v on.
unfoldable pub terms_from : Float → List ℕ → List Float → List Float → Terms → ℕ → ℕ → Terms
terms_from d part exits strengths t v zero = t
terms_from d part exits strengths t v (suc k) = terms_from d part exits strengths (cond (leads part v) (add_module d t (get_or exits v nan) (get_or strengths v nan)) t) (suc v) k

abbrev pub terms : Float → List ℕ → List Float → List Float → Terms
terms d part exits strengths = terms_from d part exits strengths (record { q_exit = zero64; sum_plogp_q = zero64; term2 = zero64 }) 0 (length part)

-- The sum of plogp(strength / D) over the nodes, added to a.
unfoldable pub node_plogp_from : Float → Float → List Float → Float
node_plogp_from d a [] = a
node_plogp_from d a (s ∷ ss) = node_plogp_from d (add64 a (plogp (div64 s d))) ss

-- term 1 + term 2, less the nodes' sum.
unfoldable pub codelength_of : Terms → Float → Float
codelength_of t nodes = add64 (sub64 (plogp t.q_exit) t.sum_plogp_q) (sub64 t.term2 nodes)

-- `map_equation`: the codelength of a partition, afresh.
unfoldable pub codelength : Network → List ℕ → Float
codelength net part = let s = module_sums net part in codelength_of (terms net.d part s.exits s.strengths) (node_plogp_from net.d zero64 net.strength)
