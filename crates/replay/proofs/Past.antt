-- Laws of a reader that has passed some numbers.
use Rattle.std.proofs.Common.{◌≡◌, ℕ, ◌+◌, refl, sym, ap, ◌∙◌, add-one}
use Rattle.replay.specs.declared.Numbers.{Numbers}
use Rattle.replay.specs.Numbers.{skip, past, number_at, value_at}

pub past_none : (s : Numbers) → s ≡ past s 0
unfolding skip
past_none s = refl

-- one number more
pub past_more : (s : Numbers) (n : ℕ) → past s (n + 1) ≡ past (past s n) 1
unfolding skip
past_more s n = rw (add-one n)
