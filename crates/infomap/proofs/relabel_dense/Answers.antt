-- `infomap::relabel_dense` meets its contract. The loop has labelled the nodes below v, and `next` counts the groups whose first member is below v.
-- Kept: the check does not find what stands here, also with the lemmas named on the function.
use native.Mathlib.Omega.{arith}
use Rattle.infomap.proofs.Labels.{labelled_seen, labelled_new, first_if_none, first_if_above}
use Rattle.infomap.proofs.relabel_dense.Goals as goal
use Rattle.infomap.proofs.relabel_dense.Goals.{in-Some, in_default, in_default-via-in-Some+else-f-v, in_default-via-in_default}

pub loop-v-preserved : goal.loop-v-preserved
loop-v-preserved c =
    let h = c.loop-v-test.true in
    let i = c.loop-v.invariant in
    let e = c.lowest.ensures in
    elim c.match-lowest.branch [
      | in-Some w ↦ rw (w.labels-is, w.next-is) (labelled_seen _ _ _ _ h i.2 (omega arith) i.0 i.1 e w.in-Some.is w.if-f-v.true)
      | in_default w ↦
          rw (w.labels-is, w.next-is)
          (labelled_new _ _ _ _ h i.2 (omega arith) i.0 i.1
          (elim w.in_default.branch [
            | in_default-via-in-Some+else-f-v s ↦ first_if_above _ _ h e s.in-Some.is s.if-f-v.false
            | in_default-via-in_default s ↦ first_if_none _ _ h e s.in_default.is
          ]))
    ]
