-- `neighbors::nodes::compact_row` meets its contract.
-- Kept: the check does not find what stands here, also with the lemmas named on the function.
use native.Mathlib.Omega.{arith}
use Rattle.neighbors.proofs.Compact.{compact_on}
use Rattle.neighbors.proofs.nodes.compact_row.Goals as goal

pub loop-v-preserved : goal.loop-v-preserved
loop-v-preserved c = λ t h. compact_on _ _ c.args.nodes.rise _ _ c.requires.1 c.loop-v-test.true t _ (c.loop-v.invariant t h) (omega arith)
