-- A list of traces with the empty ones taken out, and the number of a trace in it. Definitions only; their laws are proofs/WithoutEmpty.antt.
use Rattle.std.specs.Prelude.{ℕ, not, List, eqb, length, take}
use Rattle.lists.specs.Lists.{select}

-- The lengths of the traces that have a fix. The fixes are the same: an empty trace has none of them.
unfoldable pub without_empty : List ℕ → List ℕ
unfolding select
without_empty lens = select (λ (n : ℕ). not (eqb n 0)) lens

-- The number of trace k counted anew: how many of the traces before it have a fix.
unfoldable pub counted_anew : List ℕ → ℕ → ℕ
unfolding without_empty
counted_anew lens k = length (without_empty (take k lens))
