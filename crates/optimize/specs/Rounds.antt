-- Passes over an order of visiting, rounds, and a trial (`optimize_partition`). Definitions only.
use Rattle.std.specs.Prelude.{ℕ, zero, suc, ◌+◌, Bool, true, false, List, [], ◌∷◌, length}
use Rattle.rng.specs.Rng.{order}
use Rattle.lists.specs.Lists.{upto}
use Rattle.map_state.specs.Network.{Network}
use Rattle.map_state.specs.MapState.{MapState, apply_move}
use Rattle.codelength.specs.Codelength.{from_partition}
use Rattle.scan.specs.Scan.{Answer, no_move, move, scan, isolate}

-- A state, and whether a node has changed its group.
pub record Pass : Type 0 where
  pub state : MapState
  pub moved : Bool

-- Node u does as it is answered.
unfoldable pub act : Network → Pass → ℕ → Answer → Pass
act net w u no_move = w
act net w u (move h change) = record { state = apply_move net w.state u h; moved = true }

-- The nodes in an order, each as `f` answers in the state that it finds.
unfoldable pub pass : (Network → MapState → ℕ → Answer) → Network → Pass → List ℕ → Pass
pass f net w [] = w
pass f net w (u ∷ us) = pass f net (act net w u (f net w.state u)) us

abbrev pub move_pass : Network → Pass → List ℕ → Pass
move_pass = pass scan

abbrev pub isolation_pass : Network → Pass → List ℕ → Pass
isolation_pass = pass isolate

-- A trial so far: its state, the generator's, the rounds, and whether the last round moved something.
pub record Run : Type 0 where
  pub state : MapState
  pub rng : ℕ
  pub rounds : ℕ
  pub moved : Bool

-- The order in which a round visits the nodes.
abbrev pub visits : Network → Run → List ℕ
visits net r = (order r.rng (length net.strength)).list

-- A round: the nodes in an order of visiting are scanned, then the isolation pass visits them in the same order.
-- It moved something if a node changed its group in either.
unfoldable pub round : Network → Run → Run
round net r =
    let o = order r.rng (length net.strength) in
    let w = isolation_pass net (move_pass net (record { state = r.state; moved = false }) o.list) o.list in
    record { state = w.state; rng = o.rng; rounds = r.rounds + 1; moved = w.moved }

-- At most so many rounds; none where the Bool, whether the round before moved something, is false.
unfoldable pub run_rounds : Network → ℕ → Bool → Run → Run
run_rounds net zero b r = r
run_rounds net (suc k) false r = r
run_rounds net (suc k) true r = let s = round net r in run_rounds net k s.moved s

-- A trial before its first round: each node in a group of its own.
abbrev pub started : Network → ℕ → Run
started net x = record { state = from_partition net (upto (length net.strength)); rng = x; rounds = 0; moved = true }

-- `optimize_partition`: a trial from the generator's state x; at most 100 rounds.
unfoldable pub optimize_partition : Network → ℕ → Run
optimize_partition net x = run_rounds net 100 true (started net x)
