-- Serves the contracts of this crate's own functions; no public contract reaches it.
-- What the code's structs stand for, and how a trial leaves them.
use Rattle.std.specs.Prelude.{◌≡◌, ℕ, zero, suc, ◌+◌, ◌<◌, ◌≤◌, Bool, true, false, List, [], length, get_or}
use Rattle.rng.specs.Steps.{Below}
use Rattle.map_state.specs.Network.{Network}
use Rattle.map_state.specs.MapState.{MapState}
use Rattle.map_state.specs.Steps.{Fits}
use Rattle.scan.specs.Scan.{Answer, no_move, move}
use Rattle.optimize.specs.Rounds.{Pass, Run, round, visits, started, optimize_partition}
use Rattle.optimize.specs.declared.RunState.{RunState}

-- The pass and the trial that the code's state, with a flag or a struct beside it, stands for.
abbrev pub pass_of : MapState → Bool → Pass
pass_of s moved = record { state = s; moved = moved }

abbrev pub run_of : MapState → RunState → Run
run_of s t = record { state = s; rng = t.rng; rounds = t.rounds; moved = t.moved }

-- The order of visiting in the last of so many rounds; o where there is none.
unfoldable pub last_visits_from : Network → ℕ → Bool → Run → List ℕ → List ℕ
last_visits_from net zero b r o = o
last_visits_from net (suc k) false r o = o
last_visits_from net (suc k) true r o = let s = round net r in last_visits_from net k s.moved s (visits net r)

-- The order of visiting in a trial's last round.
unfoldable pub last_visits : Network → ℕ → List ℕ
last_visits net x = last_visits_from net 100 true (started net x) []

-- How a trial from the generator's state x ends, in the state s and with its answer t: it is the run, and `order` is the last round's.
pub record TrialEnds (net : Network) (x : ℕ) (s : MapState) (order : List ℕ) (t : RunState) : Type 0 where
  pub run : run_of s t ≡ optimize_partition net x
  pub visited : order ≡ last_visits net x

-- No group's internal number is above b.
unfoldable pub AtMost : ℕ → List ℕ → Type 0
AtMost b part = (v : ℕ) → v < length part → get_or part v 0 ≤ b

-- P holds of the group to which an answer moves.
abbrev pub To : (ℕ → Type 0) → Answer → Type 0
To P no_move = Unit {0}
To P (move h d) = P h

-- An answer moves to an internal number in use, or to the next one.
abbrev pub Rises : (Network → MapState → ℕ → Answer) → Type 0
Rises f = (b : ℕ) (net : Network) (s : MapState) (u : ℕ) → AtMost b s.partition → To (λ h. h ≤ b + 1) (f net s u)

-- What a pass asks for: a state of the network, an order of at most 512 visits, each to a node, and internal numbers that leave room for one more a visit.
abbrev pub PassFrom : Network → MapState → List ℕ → Type 0
PassFrom net s order = (Fits net s) × (Below (length s.partition) order) × (length order ≤ 512) × (AtMost 900000 s.partition)

-- What a round asks for: a state of the network, one place of the order for each node, at most 512, and internal numbers at most `most`.
abbrev pub RoundFrom : ℕ → Network → MapState → List ℕ → Type 0
RoundFrom most net s order = (Fits net s) × (length order ≡ length s.partition) × (length order ≤ 512) × (AtMost most s.partition)

-- s and r are the run `after`, and the order is the one given.
abbrev pub RoundEnds : Run → List ℕ → MapState → RunState → List ℕ → Type 0
RoundEnds after given s r order = (run_of s r ≡ after) × (order ≡ given)
