-- `stay::all::all_stays` meets its contract.
-- Kept: the check does not find what stands here, also with the lemmas named on the function.
use mathlib.Core.Path.{◌≡◌, ap, ◌∙◌}
use mathlib.Core.List.{[]}
use Prim.Native.Nat.{◌+◌}
use native.Mathlib.Omega.{arith}
use borrow.Author.Rules.{rules}
use lib.ListN.{length}
use Rattle.lists.proofs.Parts.{lent_length}
use Rattle.trace.specs.Given.{fixes_in}
use Rattle.trace.specs.StepsTraces.{placed, left}
use Rattle.trace.proofs.Fixes.{fixes_length}
use Rattle.trace.proofs.Placed.{placed_traces}
use Rattle.stay.proofs.AllStays.{traces_in, follow_placed, reached_first, lies, goes_on, all_found}
use Rattle.stay.proofs.all.all_stays.Goals as goal

pub loop-at-init : goal.loop-at-init
loop-at-init c =
    let a = c.args in
    let t = a.t.tracks in
    let fs = fixes_in t in
    let long = fixes_length t.xs.now t.ys.now t.times.now t.marks.now a.t.ys_length a.t.times_length a.t.marks_length in
    let all : left c.into_iter-at-iterator.result ≡ placed 0 t.lens.now fs = rw c.into_iter-at-iterator.ensures.into_iter_gives c.traces-at-items.ensures in (
      0,
      reached_first a.s _ _ _ _ _ (rw all (follow_placed 0 _ t.lens.now fs (omega (arith, a.t.sum)) (omega arith))) (ap traces_in all ∙ placed_traces 0 t.lens.now fs),
    )

pub overflow_add-end : goal.overflow_add-end
overflow_add-end c =
    let h = lies _ _ _ _ _ _ _ c.in-Some.trace _ _ c.in-Some.ensures.steps c.loop-at.invariant in
    omega (arith, h.0, c.requires.few)

pub offset_bounds-events-at : goal.offset_bounds-events-at
offset_bounds-events-at c =
    let h = lies _ _ _ _ _ _ _ c.in-Some.trace _ _ c.in-Some.ensures.steps c.loop-at.invariant in
    omega (arith, h.0, c.requires.few)

pub slice_bounds-stays-end : goal.slice_bounds-stays-end
slice_bounds-stays-end c =
    let h = lies _ _ _ _ _ _ _ c.in-Some.trace _ _ c.in-Some.ensures.steps c.loop-at.invariant in
    search (rules, h)

pub stays-found-requires : goal.stays-found-requires
stays-found-requires c =
    let h = lies _ _ _ _ _ _ _ c.in-Some.trace _ _ c.in-Some.ensures.steps c.loop-at.invariant in
    record {
      events_length = omega (arith, lent_length c.in-Some.at (c.in-Some.at + length c.in-Some.trace.xs.now) c.loop-at.events (omega arith) (omega (arith, h.0, c.requires.events_length)));
      room = omega (arith, h.0, h.1, c.requires.work_length);
      numbers = omega (arith, h.0, h.1, c.requires.few);
    }

pub overflow_add-found : goal.overflow_add-found
overflow_add-found c =
    let h = goes_on _ _ _ _ _ _ _ c.in-Some.trace _ _ c.in-Some.ensures.steps c.loop-at.invariant (omega (arith, c.requires.work_length)) (omega (arith, c.requires.events_length)) _ _ [] _ c.stays-found.ensures in
    omega (arith, h.1, c.requires.few)

pub loop-at-preserved : goal.loop-at-preserved
loop-at-preserved c =
    let h = goes_on _ _ _ _ _ _ _ c.in-Some.trace _ _ c.in-Some.ensures.steps c.loop-at.invariant (omega (arith, c.requires.work_length)) (omega (arith, c.requires.events_length)) _ _ _ _ c.stays-found.ensures in
    h.0

pub returns : goal.returns
returns c = all_found _ _ _ _ _ _ _ c.in-None.ensures.steps.0 c.loop-at.invariant (omega (arith, c.requires.work_length)) (omega (arith, c.requires.events_length))
