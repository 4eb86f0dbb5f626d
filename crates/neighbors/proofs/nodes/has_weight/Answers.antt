-- `neighbors::nodes::has_weight` meets its contract.
-- Kept: the check does not find what stands here, also with the lemmas named on the function.
use Rattle.std.proofs.Common.{◌∙◌, rules, tests, arith}
use Rattle.std.proofs.lemmas.Iterator.{YieldsList-from_slice}
use Rattle.std.proofs.lemmas.Iterator.Search.{any_from_yields_List}
use lib.Ieee.{lt}
use Rattle.float.specs.Binary64.{zero64}
use Rattle.neighbors.proofs.Selected.{weight_in_row}
use Rattle.neighbors.proofs.nodes.has_weight.Goals as goal

pub returns : goal.returns
returns c =
    any_from_yields_List (lt zero64) _ _ c.any.result c.any.ensures.ran (YieldsList-from_slice _ c.iter.ensures.rest) (λ x b q k. search (rules, tests))
    ∙ weight_in_row c.args.table.now c.args.n c.args.i (omega arith) (omega arith)
