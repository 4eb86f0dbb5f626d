-- What the run carries (`MapState` of the Rust), the change of codelength by a move, and the move. Definitions only.
-- A partition gives each node the internal number of its group. A group's exit weight and strength stand at its lowest member.
use Rattle.std.specs.Prelude.{ℕ, zero, suc, ◌+◌, ◌-◌, Bool, cond, List, [], ◌∷◌, eqb, length, get_or, set, Float}
use Rattle.std.specs.Float.{nan}
use Rattle.std.specs.Float.Ieee.{neg, lt}
use Rattle.float.specs.Binary64.{add64, sub64, mul64, div64, zero64, two64}
use Rattle.float.specs.Ln.{plogp}
use Rattle.map_state.specs.Network.{Network, row}
use Rattle.map_state.specs.declared.Links.{Links}
use Rattle.map_state.specs.declared.ModuleStats.{ModuleStats}
use Rattle.map_state.specs.declared.Moved.{Moved}

-- q_sum is the rules' Q.
pub record MapState : Type 0 where
  pub partition : List ℕ
  pub exits : List Float
  pub strengths : List Float
  pub q_sum : Float

-- ---- groups by lowest member

-- The lowest member of group g; past the end where g is empty.
unfoldable pub lowest : ℕ → List ℕ → ℕ
lowest g [] = 0
lowest g (h ∷ hs) = let r = lowest g hs in cond (eqb h g) 0 (suc r)

-- The number of g's members (`n_nodes`).
unfoldable pub count : ℕ → List ℕ → ℕ
count g [] = 0
count g (h ∷ hs) = let r = count g hs in cond (eqb h g) (suc r) r

-- v is the lowest member of its group.
unfoldable pub leads : List ℕ → ℕ → Bool
leads part v = eqb (lowest (get_or part v 0) part) v

-- A group's exit weight, strength and number of nodes; an empty group's are 0. Sums are read at the nodes that lead a group and at no
-- other (map_state/proofs/Groups.antt): here by `stats_read`, in Q by `sum_q_ext`.
unfoldable pub stats_at : List ℕ → List Float → List Float → ℕ → ModuleStats
stats_at part exits strengths g = record { exit = get_or exits (lowest g part) zero64; strength = get_or strengths (lowest g part) zero64; n_nodes = count g part }

abbrev pub stats_of : MapState → ℕ → ModuleStats
stats_of s g = stats_at s.partition s.exits s.strengths g

-- Q, the sum of q = exit / D over the groups by lowest member. Over k nodes from v on, added to a.
unfoldable pub sum_q_from : Float → List ℕ → List Float → Float → ℕ → ℕ → Float
sum_q_from d part exits a v zero = a
sum_q_from d part exits a v (suc k) = sum_q_from d part exits (cond (leads part v) (add64 a (div64 (get_or exits v nan) d)) a) (suc v) k

unfoldable pub sum_q : Float → List ℕ → List Float → Float
sum_q d part exits = sum_q_from d part exits zero64 0 (length part)

-- ---- the change of codelength

-- The weight w to a node of group p, added to the weights into g, into h or elsewhere.
unfoldable pub add_link : ℕ → ℕ → Links → ℕ → Float → Links
add_link g h l p w =
    cond (lt zero64 w)
    (cond (eqb p g) (record { src = add64 l.src w; dest = l.dest; other = l.other })
    (cond (eqb p h) (record { src = l.src; dest = add64 l.dest w; other = l.other })
    (record { src = l.src; dest = l.dest; other = add64 l.other w })))
    l

unfoldable pub link_weights_from : ℕ → ℕ → Links → List ℕ → List Float → Links
link_weights_from g h l [] ws = l
link_weights_from g h l (p ∷ ps) [] = l
link_weights_from g h l (p ∷ ps) (w ∷ ws) = link_weights_from g h (add_link g h l p w) ps ws

-- `link_weights`: from a node with this row into g, into h and elsewhere.
abbrev pub link_weights : ℕ → ℕ → List ℕ → List Float → Links
link_weights g h part ws = link_weights_from g h (record { src = zero64; dest = zero64; other = zero64 }) part ws

-- The two groups after a node of strength s has moved, and the sum of the two exit changes, source first.
unfoldable pub after_move : Links → Float → ModuleStats → ModuleStats → Moved
after_move l s src dest =
    let x = add64 (sub64 (neg l.dest) l.other) l.src in
    let y = sub64 (add64 l.src l.other) l.dest in
    record {
      src = record { exit = add64 src.exit x; strength = sub64 src.strength s; n_nodes = src.n_nodes - 1 };
      dest = record { exit = add64 dest.exit y; strength = add64 dest.strength s; n_nodes = dest.n_nodes + 1 };
      delta_exit = add64 x y;
    }

-- `module_terms`: -2 plogp(q) + plogp(p + q), 0 for an empty group.
unfoldable pub module_terms : Float → ModuleStats → Float
module_terms d m =
    let q = div64 m.exit d in
    let p = div64 m.strength d in
    cond (eqb m.n_nodes 0) zero64 (add64 (mul64 (neg two64) (plogp q)) (plogp (add64 p q)))

-- `module_pair_delta_l`: the terms after the move less the terms before it, each sum from left to right.
unfoldable pub module_pair_delta : Float → Float → ModuleStats → ModuleStats → Moved → Float
module_pair_delta d q src dest m =
    sub64
    (add64 (add64 (plogp (add64 q (div64 m.delta_exit d))) (module_terms d m.src)) (module_terms d m.dest))
    (add64 (add64 (plogp q) (module_terms d src)) (module_terms d dest))

-- What a move of u to h makes of the two groups, `src` and `dest` before it.
unfoldable pub moved_from : Network → List ℕ → ℕ → ℕ → ModuleStats → ModuleStats → Moved
moved_from net part u h src dest = after_move (link_weights (get_or part u 0) h part (row net u)) (get_or net.strength u nan) src dest

abbrev pub moved_by : Network → MapState → ℕ → ℕ → Moved
moved_by net s u h = moved_from net s.partition u h (stats_of s (get_or s.partition u 0)) (stats_of s h)

unfoldable pub delta_from : Network → List ℕ → Float → ℕ → ℕ → ModuleStats → ModuleStats → Float
delta_from net part q u h src dest = module_pair_delta net.d q src dest (moved_from net part u h src dest)

-- `delta_move`: the change of codelength if u moves to h, a group other than its own.
unfoldable pub delta_move : Network → MapState → ℕ → ℕ → Float
delta_move net s u h = delta_from net s.partition s.q_sum u h (stats_of s (get_or s.partition u 0)) (stats_of s h)

-- ---- a move

-- A group's value stored at its lowest member; nowhere where the group is empty.
abbrev pub store_at : List ℕ → List Float → ℕ → Float → List Float
store_at part xs g x = set xs (lowest g part) x

-- `apply_move`: u moves to h, a group other than its own. The sums of a group that is emptied are forgotten; Q is summed anew.
-- Where a group has got another lowest member, its old sums stay at a node that no longer leads: they are never read (see `stats_at`),
-- and of every group with a member the sums are those of a table by group number (`exit_to`, `exit_from`, `exit_other` and the
-- same of `strength` in map_state/proofs/Groups.antt).
unfoldable pub apply_move : Network → MapState → ℕ → ℕ → MapState
apply_move net s u h =
    let g = get_or s.partition u 0 in
    let m = moved_by net s u h in
    let part = set s.partition u h in
    let exits = store_at part (store_at part s.exits g m.src.exit) h m.dest.exit in
    record {
      partition = part;
      exits = exits;
      strengths = store_at part (store_at part s.strengths g m.src.strength) h m.dest.strength;
      q_sum = sum_q net.d part exits;
    }
