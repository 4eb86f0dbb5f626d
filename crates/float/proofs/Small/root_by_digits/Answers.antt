-- `float::Small::root_by_digits` meets its contract: the loop's invariant is `Partial`, and its measure the place.
-- Kept: the check does not find what stands here, also with the lemmas named on the function.
use mathlib.Core.Path.{refl}
use native.Mathlib.Omega.{arith}
use Rattle.float.proofs.Restoring.{stays, grows}
use Rattle.float.proofs.Small.root_by_digits.Goals as goal

pub loop-p-init : goal.loop-p-init
loop-p-init c = record { place = (54, refl); whole = omega arith; near = omega arith; room = omega arith }

pub loop-p-preserved-then-t-rest : goal.loop-p-preserved-then-t-rest
loop-p-preserved-then-t-rest c =
    grows _ _ c.loop-p.root c.loop-p.rest c.loop-p.p c.loop-p.invariant c.loop-p-test.true c.if-t-rest.true

pub loop-p-preserved : goal.loop-p-preserved
loop-p-preserved c =
    stays _ _ c.loop-p.root c.loop-p.rest c.loop-p.p c.loop-p.invariant c.loop-p-test.true c.if-t-rest.false
