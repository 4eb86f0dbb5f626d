-- What holds of a trial by induction over its moves, and a last round that moved nothing.
use mathlib.Core.Path.{◌≡◌, refl, sym, ◌∙◌, subst}
use mathlib.Core.Logic.{inl, inr}
use Prim.Native.Nat.{ℕ, zero, suc, ◌<◌}
use mathlib.Core.Bool.{Bool, true, false, cond, true≢false}
use mathlib.Core.List.{List, [], ◌∷◌}
use lib.ListN.{length}
use lib.Ieee.{Float, lt}
use Rattle.lists.specs.Lists.{upto, Has}
use Rattle.lists.proofs.Upto.{length_upto}
use Rattle.float.specs.Binary64.{zero64, infinity64}
use Rattle.rng.specs.Rng.{seeded, order}
use Rattle.lists.proofs.Items.{All, all_at}
use Rattle.rng.proofs.Visits.{below_at, order_below}
use Rattle.rng.proofs.Permutation.{order_has}
use Rattle.map_state.specs.Network.{Network}
use Rattle.map_state.specs.MapState.{MapState, apply_move}
use Rattle.codelength.specs.Codelength.{from_partition, codelength}
use Rattle.scan.specs.Scan.{Answer, no_move, move, scan, isolate}
use Rattle.optimize.specs.Rounds.{Pass, act, pass, Run, round, run_rounds, started, optimize_partition}
use Rattle.optimize.proofs.Ends.{trial_length}
use Rattle.infomap.specs.Infomap.{Grouping, rest, none_kept, trial_mark, keep, trials, best_of_three, kept_grouping}

-- A scan or an isolation test.
abbrev Test : Type 0
Test = Network → MapState → ℕ → Answer

-- ---- what every answered move keeps

-- Every move that f answers, of a node below the number of nodes, keeps P.
abbrev pub MovesKeep : Network → (MapState → Type 0) → Test → Type 0
MovesKeep net P f = (s : MapState) (u h : ℕ) (change : Float) → u < length net.strength → P s → f net s u ≡ move h change → P (apply_move net s u h)

module _ (net : Network) (P : MapState → Type 0) (f : Test) (by : MovesKeep net P f) where
  act_keeps : (w : Pass) (u : ℕ) (a : Answer) → u < length net.strength → f net w.state u ≡ a → P w.state → P (act net w u a).state
  unfolding act
  act_keeps w u no_move h e p = p
  act_keeps w u (move g change) h e p = by w.state u g change h p e

  pass_keeps : (w : Pass) (us : List ℕ) → All (λ u. u < length net.strength) us → P w.state → P (pass f net w us).state
  unfolding pass
  pass_keeps w [] a p = p
  pass_keeps w (u ∷ us) a p = pass_keeps (act net w u (f net w.state u)) us a.1 (act_keeps w u (f net w.state u) a.0 refl p)

-- An order of visiting holds nodes only.
order_nodes : (r n : ℕ) → All (λ u. u < n) (order r n).list
order_nodes r n = all_at (λ u. u < n) (order r n).list 0 (below_at n (order r n).list (order_below r n))

module _ (net : Network) (P : MapState → Type 0) (by_scan : MovesKeep net P scan) (by_isolate : MovesKeep net P isolate) where
  -- A round keeps what its moves keep.
  pub round_keeps : (r : Run) → P r.state → P (round net r).state
  unfolding round
  round_keeps r p =
      let o = (order r.rng (length net.strength)).list in
      let a = order_nodes r.rng (length net.strength) in
      let w : Pass = record { state = r.state; moved = false } in
      pass_keeps net P isolate by_isolate (pass scan net w o) o a (pass_keeps net P scan by_scan w o a p)

  rounds_keep : (k : ℕ) (b : Bool) (r : Run) → P r.state → P (run_rounds net k b r).state
  unfolding run_rounds
  rounds_keep zero b r p = p
  rounds_keep (suc k) false r p = p
  rounds_keep (suc k) true r p = rounds_keep k (round net r).moved (round net r) (round_keeps r p)

  -- What holds at the start and what every move keeps holds at a trial's end.
  pub trial_keeps : P (from_partition net (upto (length net.strength))) → (x : ℕ) → P (optimize_partition net x).state
  unfolding optimize_partition
  trial_keeps p x = rounds_keep 100 true (started net x) p

-- ---- what every trial's partition has
module _ (net : Network) (Q : List ℕ → Type 0) (each : (x : ℕ) → Q (optimize_partition net x).state.partition) (start : Q (upto (length net.strength))) where
  keep_keeps : (k : Grouping) (r : Run) → Q k.partition → Q r.state.partition → Q (keep net k r).partition
  unfolding keep
  keep_keeps k r p q = pick (lt (codelength net r.state.partition) k.codelength)
    where
      pick : (b : Bool) → Q (cond b (record { partition = r.state.partition; mark = trial_mark r.moved; rounds = r.rounds; codelength = codelength net r.state.partition }) k).partition
      pick true = q
      pick false = p

  trials_keep : (t x : ℕ) (k : Grouping) → Q k.partition → Q (trials net t x k).partition
  unfolding trials
  trials_keep zero x k p = p
  trials_keep (suc t) x k p = trials_keep t (optimize_partition net x).rng (keep net k (optimize_partition net x)) (keep_keeps k (optimize_partition net x) p (each x))

  -- What every trial's partition and the start have, the best of three has.
  pub best_keeps : (x : ℕ) → Q (best_of_three net x).partition
  unfolding best_of_three
  best_keeps x = trials_keep 3 x (record { partition = upto (length net.strength); mark = none_kept; rounds = 0; codelength = infinity64 }) start

  -- And so has the kept grouping.
  pub kept_keeps : (seed : ℕ) → Q (kept_grouping net seed).partition
  unfolding kept_grouping
  kept_keeps seed = pick (lt zero64 net.d)
    where
      pick : (b : Bool) → Q (cond b (best_of_three net (seeded seed)) (record { partition = upto (length net.strength); mark = rest; rounds = 0; codelength = zero64 })).partition
      pick true = best_keeps (seeded seed)
      pick false = start

-- ---- a partition gives each node a number
module _ (net : Network) where
  -- The kept grouping's partition is as long as there are nodes, as every trial's is.
  pub kept_length : (seed : ℕ) → length (kept_grouping net seed).partition ≡ length net.strength
  kept_length = kept_keeps net (λ part. length part ≡ length net.strength) (trial_length net) (length_upto (length net.strength))

-- ---- a pass that moved nothing

-- The pass ends as it began, and each node of it was answered no move in that state.
record Still (net : Network) (f : Test) (w : Pass) (us : List ℕ) (end : Pass) : Type 0 where
  pub same : end ≡ w
  pub before : w.moved ≡ false
  pub answered : (u : ℕ) → Has us u → f net w.state u ≡ no_move

module _ (net : Network) (f : Test) where
  still_step : (w : Pass) (u : ℕ) (us : List ℕ) (a : Answer) → f net w.state u ≡ a → Still net f (act net w u a) us (pass f net (act net w u a) us) → Still net f w (u ∷ us) (pass f net (act net w u a) us)
  unfolding act
  still_step w u us no_move e s = record {
    same = s.same;
    before = s.before;
    answered = λ v. elim [ inl q ↦ subst (λ (z : ℕ). f net w.state z ≡ no_move) (sym q) e | inr m ↦ s.answered v m ];
  }
  still_step w u us (move h change) e s = absurd (true≢false s.before)

  pass_still : (w : Pass) (us : List ℕ) → (pass f net w us).moved ≡ false → Still net f w us (pass f net w us)
  unfolding pass
  pass_still w [] h = record { same = refl; before = h; answered = λ u m. absurd m }
  pass_still w (u ∷ us) h = still_step w u us (f net w.state u) refl (pass_still (act net w u (f net w.state u)) us h)

-- ---- a trial that came to rest

-- In state s every node's scan and isolation test answers no move.
pub record NoMoves (net : Network) (s : MapState) : Type 0 where
  pub scanned : (u : ℕ) → u < length net.strength → scan net s u ≡ no_move
  pub isolated : (u : ℕ) → u < length net.strength → isolate net s u ≡ no_move

-- A round that moved nothing ends in a state in which no node moves.
pub round_no_moves : (net : Network) (r : Run) → (round net r).moved ≡ false → NoMoves net (round net r).state
unfolding round
round_no_moves net r h =
    let n = length net.strength in
    let o = (order r.rng n).list in
    let w : Pass = record { state = r.state; moved = false } in
    let b = pass_still net isolate (pass scan net w o) o h in
    let a = pass_still net scan w o b.before in
    let whole = b.same ∙ a.same in
    record {
      scanned = λ u k. subst (λ (z : Pass). scan net z.state u ≡ no_move) (sym whole) (a.answered u (order_has r.rng n u k));
      isolated = λ u k. subst (λ (z : Pass). isolate net z.state u ≡ no_move) (sym b.same) (b.answered u (order_has r.rng n u k));
    }

-- A run of rounds that ends with nothing moved, after a round that may have.
rounds_no_moves : (net : Network) (k : ℕ) (b : Bool) (r : Run) → r.moved ≡ b → (b ≡ false → NoMoves net r.state) → (run_rounds net k b r).moved ≡ false → NoMoves net (run_rounds net k b r).state
unfolding run_rounds
rounds_no_moves net zero b r e q h = q (sym e ∙ h)
rounds_no_moves net (suc k) false r e q h = q refl
rounds_no_moves net (suc k) true r e q h = rounds_no_moves net k (round net r).moved (round net r) refl (round_no_moves net r) h

-- If a trial's last round moved nothing, no node moves in its end state.
pub trial_no_moves : (net : Network) (x : ℕ) → (optimize_partition net x).moved ≡ false → NoMoves net (optimize_partition net x).state
unfolding optimize_partition
trial_no_moves net x h = rounds_no_moves net 100 true (started net x) refl (λ q. absurd (true≢false q)) h
