-- A trial, run on two small networks.
use Rattle.std.specs.Prelude.{◌≡◌, refl, true, [], ◌∷◌}
use Rattle.std.specs.Float.Ieee.{size, add, sub, mul, div, neg, lt, of_int, of_bits}
use Rattle.lists.specs.Lists.{from, upto}
use Rattle.float.specs.Binary64.{zero64, one64, two64}
use Rattle.float.specs.Ln.{series, ln_of, shift, ln, plogp}
use Rattle.rng.specs.Rng.{next_u64, swap, shuffle_from, shuffle}
use Rattle.map_state.specs.Network.{Network, row, add_weights, strengths_from, total_from, network}
use Rattle.map_state.specs.MapState.{lowest, count, leads, stats_at, sum_q_from, sum_q, add_link, link_weights_from, after_move, module_terms, module_pair_delta, moved_from, delta_from, delta_move, apply_move}
use Rattle.codelength.specs.Codelength.{add_exit, exit_from, add_node, add_nodes_from, module_sums, from_partition}
use Rattle.scan.specs.Scan.{insert_group, candidates, best_delta, better, consider, scan_from, scan, highest_from, isolate}
use Rattle.optimize.specs.Rounds.{act, pass, round, run_rounds, optimize_partition}

-- What is computed below: to unfold this is to unfold all that it names.
unfoldable pub trial_computed : Unit {0}
unfolding series ln_of shift ln plogp size add sub mul div neg lt of_int of_bits from upto next_u64 swap shuffle_from shuffle row add_weights strengths_from
    total_from network lowest count leads stats_at sum_q_from sum_q add_link link_weights_from after_move module_terms module_pair_delta moved_from delta_from
    delta_move apply_move add_exit exit_from add_node add_nodes_from module_sums from_partition insert_group candidates best_delta better consider scan_from scan
    highest_from isolate act pass round run_rounds optimize_partition
trial_computed = tt

-- Three nodes in a row: the link of 0 and 1 has weight 2, the link of 1 and 2 has weight 1.
abbrev pub three_in_row : Network
three_in_row = network (zero64 ∷ two64 ∷ zero64 ∷ two64 ∷ zero64 ∷ one64 ∷ zero64 ∷ one64 ∷ zero64 ∷ []) 3 3

-- After the first round of a trial node 2 is in a group of its own.
pub first_round : (round three_in_row (record { state = from_partition three_in_row (upto 3); rng = 1; rounds = 0; moved = true })).state.partition ≡ 0 ∷ 0 ∷ 1 ∷ []
unfolding trial_computed
first_round = refl

-- At the end of the trial all three nodes are one group, so a later round moved node 2.
pub later_round : (optimize_partition three_in_row 1).state.partition ≡ 0 ∷ 0 ∷ 0 ∷ []
unfolding trial_computed
later_round = refl

-- Four nodes in a row: each is linked to the next with weight 1.
abbrev pub four_in_row : Network
four_in_row = network (zero64 ∷ one64 ∷ zero64 ∷ zero64 ∷ one64 ∷ zero64 ∷ one64 ∷ zero64 ∷ zero64 ∷ one64 ∷ zero64 ∷ one64 ∷ zero64 ∷ zero64 ∷ one64 ∷ zero64 ∷ []) 4 4

-- They are one connected part, and a trial ends with two groups.
pub two_groups : (optimize_partition four_in_row 43).state.partition ≡ 1 ∷ 1 ∷ 3 ∷ 3 ∷ []
unfolding trial_computed
two_groups = refl
