-- The rules' kept trial: the first of the three whose codelength is below infinity and above no other's; and whether a node changed its group in
-- the last round of it. Definitions only.
use Rattle.std.specs.Prelude.{◌≡◌, ℕ, zero, suc, ◌-◌, ◌<◌, Bool, true, false, ◌&&◌, List, [], ◌∷◌, Float}
use Rattle.std.specs.Float.Ieee.{lt}
use Rattle.float.specs.Binary64.{infinity64}
use Rattle.map_state.specs.Network.{Network}
use Rattle.map_state.specs.MapState.{MapState}
use Rattle.codelength.specs.Codelength.{codelength}
use Rattle.scan.specs.Scan.{Answer, no_move, move, scan, isolate}
use Rattle.optimize.specs.Rounds.{Pass, act, pass, Run, round, started, optimize_partition, visits}

-- ---- the last round of a trial

-- Whether an answer leaves a node in its group.
unfoldable pub remains : Answer → Bool
remains no_move = true
remains (move h change) = false

-- Whether each node of an order of visiting remains in its group, asked in the state that the nodes before it have left.
unfoldable pub all_remain : (Network → MapState → ℕ → Answer) → Network → Pass → List ℕ → Bool
all_remain f net w [] = true
all_remain f net w (u ∷ us) = let a = f net w.state u in remains a && all_remain f net (act net w u a) us

-- Whether no node changes its group in the round that follows r: neither by its scan nor by its isolation test, which visit the nodes in one order.
unfoldable pub quiet_round : Network → Run → Bool
quiet_round net r =
    let us = visits net r in
    let w : Pass = record { state = r.state; moved = false } in
    all_remain scan net w us && all_remain isolate net (pass scan net w us) us

-- A trial from the generator's state x, after so many rounds.
unfoldable pub after_rounds : Network → ℕ → ℕ → Run
after_rounds net x zero = started net x
after_rounds net x (suc k) = round net (after_rounds net x k)

-- Whether no node changed its group in the trial's last round.
unfoldable pub quiet_end : Network → ℕ → Bool
quiet_end net x = quiet_round net (after_rounds net x ((optimize_partition net x).rounds - 1))

-- ---- the kept trial

-- Three trials go on one generator, from its state x: its state before trial t, counted from 0.
unfoldable pub generator_at : Network → ℕ → ℕ → ℕ
generator_at net x zero = x
generator_at net x (suc t) = generator_at net (optimize_partition net x).rng t

-- Trial t.
unfoldable pub trial_at : Network → ℕ → ℕ → Run
trial_at net x t = optimize_partition net (generator_at net x t)

-- The codelength of trial t, computed afresh from its partition.
unfoldable pub trial_codelength : Network → ℕ → ℕ → Float
trial_codelength net x t = codelength net (trial_at net x t).state.partition

-- Trial t's codelength is below infinity and above none of the three.
pub record Lowest (net : Network) (x t : ℕ) : Type 0 where
  pub below_infinity : lt (trial_codelength net x t) infinity64 ≡ true
  pub least : (s : ℕ) → s < 3 → lt (trial_codelength net x s) (trial_codelength net x t) ≡ false

-- Trial t is the kept one: the first of the three that is such.
pub record IsKept (net : Network) (x t : ℕ) : Type 0 where
  pub one : t < 3
  pub lowest : Lowest net x t
  pub first : (s : ℕ) → s < t → Lowest net x s → ⊥

-- There is a kept trial, and no node changed its group in its last round.
pub record KeptQuiet (net : Network) (x : ℕ) : Type 0 where
  pub trial : ℕ
  pub is : IsKept net x trial
  pub quiet : quiet_end net (generator_at net x trial) ≡ true
