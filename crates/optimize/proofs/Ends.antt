-- What is known at the end of a trial: its rounds, and how high its internal numbers are.
use mathlib.Core.Path.{◌≡◌, refl, ◌∙◌}
use mathlib.Core.Bool.{Bool, true, false}
use Prim.Native.Nat.{ℕ, zero, suc, ◌+◌, ◌*◌, ◌<◌, ◌≤◌}
use native.Mathlib.Omega.{arith}
use lib.ListN.{length}
use Rattle.lists.proofs.Tests.{clash}
use Rattle.map_state.specs.Network.{Network}
use Rattle.codelength.specs.Codelength.{from_partition}
use Rattle.optimize.specs.Rounds.{Run, round, run_rounds, started, optimize_partition}
use Rattle.optimize.specs.Steps.{AtMost}
use Rattle.optimize.proofs.Numbers.{at_most_more}
use Rattle.optimize.proofs.Rounds.{round_counts, round_at_most, round_length}
use Rattle.lists.proofs.Upto.{length_upto}
use Rattle.optimize.proofs.Start.{at_most_upto}

module _ (net : Network) where
  rounds_if_moved : (k : ℕ) (b : Bool) (r : Run) → r.moved ≡ b → (run_rounds net k b r).moved ≡ true → (run_rounds net k b r).rounds ≡ r.rounds + k
  unfolding run_rounds
  rounds_if_moved zero b r e h = omega arith
  rounds_if_moved (suc k) false r e h = clash r.moved h e
  rounds_if_moved (suc k) true r e h = rounds_if_moved k (round net r).moved (round net r) refl h ∙ (omega (arith, round_counts net r))

  -- A trial that still moved something in its last round has had 100 rounds.
  pub spent_after_100 : (x : ℕ) → (optimize_partition net x).moved ≡ true → (optimize_partition net x).rounds ≡ 100
  unfolding optimize_partition
  spent_after_100 x h = rounds_if_moved 100 true (started net x) refl h

  run_length : (k : ℕ) (b : Bool) (r : Run) → length (run_rounds net k b r).state.partition ≡ length r.state.partition
  unfolding run_rounds
  run_length zero b r = refl
  run_length (suc k) false r = refl
  run_length (suc k) true r = run_length k (round net r).moved (round net r) ∙ round_length net r

  -- A trial groups the network's nodes.
  pub trial_length : (x : ℕ) → length (optimize_partition net x).state.partition ≡ length net.strength
  unfolding optimize_partition from_partition
  trial_length x = run_length 100 true (started net x) ∙ length_upto (length net.strength)

  rounds_between : (k : ℕ) (b : Bool) (r : Run) → (r.rounds ≤ (run_rounds net k b r).rounds) × ((run_rounds net k b r).rounds ≤ r.rounds + k)
  unfolding run_rounds
  rounds_between zero b r = (omega arith, omega arith)
  rounds_between (suc k) false r = (omega arith, omega arith)
  rounds_between (suc k) true r =
      let i = rounds_between k (round net r).moved (round net r) in
      let c = round_counts net r in
      (omega arith, omega arith)

  -- A trial has at least one round and at most 100.
  pub rounds_counted : (x : ℕ) → (0 < (optimize_partition net x).rounds) × ((optimize_partition net x).rounds ≤ 100)
  unfolding optimize_partition run_rounds
  rounds_counted x =
      let s = round net (started net x) in
      let i = rounds_between 99 s.moved s in
      let c = round_counts net (started net x) in
      (omega arith, omega arith)

  runs_at_most : (k b : ℕ) (m : Bool) (r : Run) → AtMost b r.state.partition → AtMost (b + k * length net.strength) (run_rounds net k m r).state.partition
  unfolding run_rounds
  runs_at_most zero b m r f = at_most_more b (b + 0 * length net.strength) r.state.partition (omega arith) f
  runs_at_most (suc k) b false r f = at_most_more b (b + suc k * length net.strength) r.state.partition (omega arith) f
  runs_at_most (suc k) b true r f =
      at_most_more (b + length net.strength + k * length net.strength) (b + suc k * length net.strength) (run_rounds net k (round net r).moved (round net r)).state.partition (omega arith)
      (runs_at_most k (b + length net.strength) (round net r).moved (round net r) (round_at_most b net r f))

  -- The internal numbers of a trial of n nodes go up to 101 n at most: 51,712 for 512 nodes.
  pub numbers_at_most : (x : ℕ) → AtMost (101 * length net.strength) (optimize_partition net x).state.partition
  unfolding optimize_partition from_partition
  numbers_at_most x =
      let n = length net.strength in
      at_most_more (n + 100 * n) (101 * n) (optimize_partition net x).state.partition (omega arith)
      (runs_at_most 100 n true (started net x) (at_most_upto n))
