-- Serves the contracts of this crate's own functions; no public contract reaches it.
use Rattle.map_state.specs.MapState.{MapState}
use Rattle.codelength.specs.Codelength.{Sums, sums_of}

-- The groups' sums of a state, and the state with other sums.
abbrev pub sums_in : MapState → Sums
sums_in s = sums_of s.exits s.strengths

abbrev pub with_sums : MapState → Sums → MapState
with_sums s t = record { partition = s.partition; exits = t.exits; strengths = t.strengths; q_sum = s.q_sum }
