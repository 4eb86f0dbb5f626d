-- `codelength::add_node` meets its contract.
-- Kept: the check does not find what stands here, also with the lemmas named on the function.
use native.Mathlib.Omega.{arith}
use Rattle.codelength.proofs.Sums.{node_added}
use Rattle.codelength.proofs.add_node.Goals as goal

pub returns : goal.returns
returns c =
    node_added c.args.net.now c.args.s.now c.s.inside.n _ c.first.result.now _ _ _ _ _ c.args.v c.s.view_is (omega arith)
    c.first.ensures.1 c.requires.1 c.exits.ensures.0 c.strength.ensures.0 c.exit_of.ensures
