-- A trial's last round: what the run tells of it is whether a node changed its group.
use mathlib.Core.Path.{◌≡◌, refl, sym, ap, ◌∙◌}
use mathlib.Core.Logic.{◌↔◌}
use Prim.Native.Nat.{ℕ, zero, suc, ◌-◌, ◌<◌}
use native.Mathlib.Omega.{arith}
use mathlib.Core.Bool.{Bool, true, false, not, ◌&&◌}
use mathlib.Core.List.{List, [], ◌∷◌}
use Rattle.map_state.specs.Network.{Network}
use Rattle.map_state.specs.MapState.{MapState}
use Rattle.scan.specs.Scan.{Answer, no_move, move, scan, isolate}
use Rattle.optimize.specs.Rounds.{Pass, act, pass, Run, round, run_rounds, optimize_partition, visits}
use Rattle.optimize.proofs.Rounds.{round_counts}
use Rattle.optimize.proofs.Ends.{rounds_counted}
use Rattle.run_laws.specs.KeptTrial.{remains, all_remain, quiet_round, after_rounds, quiet_end, generator_at, trial_at, KeptQuiet}
use Rattle.run_laws.proofs.KeptTrial.{KeptWith}

-- ---- a pass
module _ (net : Network) (f : Network → MapState → ℕ → Answer) where
  moved_act : (w : Pass) (u : ℕ) (a : Answer) → w.moved ≡ true → (act net w u a).moved ≡ true
  unfolding act
  moved_act w u no_move e = e
  moved_act w u (move h change) e = refl

  -- Once a node has moved, the pass has.
  moved_on : (w : Pass) (us : List ℕ) → w.moved ≡ true → (pass f net w us).moved ≡ true
  unfolding pass
  moved_on w [] e = e
  moved_on w (u ∷ us) e = moved_on (act net w u (f net w.state u)) us (moved_act w u (f net w.state u) e)

  -- A pass tells whether a node has moved in it.
  told : (w : Pass) (us : List ℕ) → w.moved ≡ false → (pass f net w us).moved ≡ not (all_remain f net w us)
  unfolding pass all_remain act remains
  told w [] e = e
  told w (u ∷ us) e = go (f net w.state u) (told w us e)
    where
      go : (a : Answer) → (pass f net w us).moved ≡ not (all_remain f net w us) → (pass f net (act net w u a) us).moved ≡ not (remains a && all_remain f net (act net w u a) us)
      go no_move ih = ih
      go (move h change) ih = moved_on (act net w u (move h change)) us refl

-- ---- a round
module _ (net : Network) where
  -- A round tells whether a node changed its group in it or in the isolation pass that belongs to it.
  pub round_told : (r : Run) → (round net r).moved ≡ not (quiet_round net r)
  unfolding round quiet_round
  round_told r = go (all_remain scan net w us) refl
    where
      us : List ℕ
      us = visits net r

      w : Pass
      w = record { state = r.state; moved = false }

      go : (b : Bool) → all_remain scan net w us ≡ b → (pass isolate net (pass scan net w us) us).moved ≡ not (b && all_remain isolate net (pass scan net w us) us)
      go true e = told net isolate (pass scan net w us) us (told net scan w us refl ∙ ap not e)
      go false e = moved_on net isolate (pass scan net w us) us (told net scan w us refl ∙ ap not e)

  -- ---- a trial

  rounds_after : (x k : ℕ) → (after_rounds net x k).rounds ≡ k
  unfolding after_rounds
  rounds_after x zero = refl
  rounds_after x (suc k) = let a = round_counts net (after_rounds net x k) in let b = rounds_after x k in omega arith

  -- Rounds that are run one after the other stop after so many as they count.
  run_after : (x k : ℕ) (b : Bool) (j : ℕ) → run_rounds net k b (after_rounds net x j) ≡ after_rounds net x (run_rounds net k b (after_rounds net x j)).rounds
  unfolding run_rounds after_rounds
  run_after x zero b j = ap (after_rounds net x) (sym (rounds_after x j))
  run_after x (suc k) false j = ap (after_rounds net x) (sym (rounds_after x j))
  run_after x (suc k) true j = run_after x k (round net (after_rounds net x j)).moved (suc j)

  trial_after : (x : ℕ) → optimize_partition net x ≡ after_rounds net x (optimize_partition net x).rounds
  unfolding optimize_partition after_rounds
  trial_after x = run_after x 100 true 0

  last_after : (x n : ℕ) → 0 < n → after_rounds net x n ≡ round net (after_rounds net x (n - 1))
  unfolding after_rounds
  last_after x zero h = absurd (omega arith)
  last_after x (suc n) h = let e : suc n - 1 ≡ n = omega arith in ap (λ (z : ℕ). round net (after_rounds net x z)) (sym e)

  -- A trial tells of its last round whether a node changed its group in it.
  pub end_told : (x : ℕ) → (optimize_partition net x).moved ≡ not (quiet_end net x)
  unfolding quiet_end
  end_told x =
      ap (λ (r : Run). r.moved) (trial_after x ∙ last_after x (optimize_partition net x).rounds (rounds_counted net x).0)
      ∙ round_told (after_rounds net x ((optimize_partition net x).rounds - 1))

  -- ---- the kept trial

  still_quiet : (b c : Bool) → c ≡ not b → c ≡ false → b ≡ true
  still_quiet true c e h = refl
  still_quiet false c e h = sym (sym e ∙ h)

  -- It moved nothing in its last round exactly when no node changed its group there.
  pub kept_quiet : (x : ℕ) → KeptWith net x false ↔ KeptQuiet net x
  unfolding trial_at
  kept_quiet x = (
    (λ k. record { trial = k.trial; is = k.is; quiet = still_quiet (quiet_end net (generator_at net x k.trial)) (optimize_partition net (generator_at net x k.trial)).moved (end_told (generator_at net x k.trial)) k.last }),
    (λ k. record { trial = k.trial; is = k.is; last = end_told (generator_at net x k.trial) ∙ ap not k.quiet }),
  )
