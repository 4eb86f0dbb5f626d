-- The rules' facts on the generator, computed from the definition.
use Rattle.std.specs.Prelude.{◌≡◌, refl}
use Rattle.rng.specs.Rng.{next_u64, seeded}

-- From state 1 the generator gives 1082269761.
pub from_state_1 : next_u64 1 ≡ 1082269761
unfolding next_u64
from_state_1 = refl

-- Seeds 42 and 43 agree: the lowest bit is set.
pub seeds_42_43 : seeded 42 ≡ seeded 43
seeds_42_43 = refl
