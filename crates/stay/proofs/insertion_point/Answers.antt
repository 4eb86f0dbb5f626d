-- `stay::insertion_point` meets its contract.
-- Kept: the check does not find what stands here, also with the lemmas named on the function.
use Rattle.std.proofs.Common.{rules}
use Rattle.std.proofs.lemmas.List.Sorted.{IsPartitionPoint-from_clause}
use Rattle.stay.specs.Ordered.{at_most}
use Rattle.stay.proofs.Ordered.{in_order_parts, position_parts}
use Rattle.stay.proofs.insertion_point.Goals as goal

pub returns : goal.returns
unfolding at_most
returns c =
    let e = c.args.elem in
    let s = c.args.s.now in
    position_parts e s _ c.partition_point.ensures.bound
    (IsPartitionPoint-from_clause (λ x. at_most x e) s _ c.partition_point.ensures.partitioned (in_order_parts e s c.requires) (λ a r f k. search rules))
