-- `stay::stays` meets its contract: the loop goes on with the run of `proofs/Run.antt`, whose end `proofs/Whole.antt` reads.
-- Kept: the check does not find what stands here, also with the lemmas named on the function.
use mathlib.Core.Path.{refl, sym, ap, ◌∙◌, subst}
use Prim.Native.Nat.{◌+◌, ◌*◌, ◌/◌, ◌≤◌, ◌<◌}
use native.Mathlib.Omega.{arith}
use lib.ListN.{length}
use Rattle.distance.specs.declared.Point.{Point}
use Rattle.distance.specs.Distance.{euclidean}
use Rattle.trace.specs.Given.{fixes_of}
use Rattle.trace.specs.Steps.{all_marked}
use Rattle.stay.specs.StepsRegions.{insert_both}
use Rattle.stay.specs.Steps.{state_of, step}
use Rattle.stay.proofs.States.{if_handed, step_seen, closed_seen}
use Rattle.stay.proofs.Whole.{Sound, sound_step, sound_first, run_on, read_is, point_is, last_state, enough, whole, nothing}
use Rattle.stay.proofs.stays.Goals as goal

pub returns-then-n-eq0 : goal.returns-then-n-eq0
returns-then-n-eq0 c =
    let a = c.args in
    nothing a.s a.t.xs.now a.t.ys.now a.t.times.now a.t.marks.now a.found a.work.now a.events.now c.if-n-eq0.true
    (omega (arith, c.requires.events_length, c.if-n-eq0.true))

pub loop-i-init : goal.loop-i-init
loop-i-init c =
    let a = c.args in
    let p = c.requires in
    let first = c.at.ensures ∙ read_is a.s a.t.xs.now a.t.ys.now a.t.times.now a.t.marks.now a.t.ys_length a.t.times_length a.t.marks_length a.found 0 (omega arith) _ c.points-points.ensures in (
      refl,
      rw (c.insert_both.ensures, first)
          (sound_first a.s a.t.xs.now a.t.ys.now a.t.times.now a.t.marks.now a.t.ys_length a.t.times_length a.t.marks_length
          a.found (omega arith) (length a.work.now / 4) a.work.now a.events.now (omega arith) (omega arith)),
    )

pub next-o-requires : goal.next-o-requires
unfolding state_of
next-o-requires c =
    let l = c.loop-i in
    let h = l.invariant.1 in (
      if_handed _ (λ ts. l.i < length ts.now) c.then_some.ensures (omega (arith, c.args.t.times_length)),
      record {
        room = record {
          before = h.before;
          group = omega (arith, c.insert_both.auto.work, c.requires.room);
          places = omega (arith, c.requires.events_length);
          parts = omega (arith, c.insert_both.auto.work);
          median = omega (arith, c.insert_both.auto.work, c.requires.room, h.before, h.few);
          number = omega (arith, c.requires.numbers, h.before, h.few);
        };
        more = omega (arith, c.insert_both.auto.work, c.requires.room);
        x_order = h.x_order;
        y_order = h.y_order;
      },
    )

pub loop-i-preserved : goal.loop-i-preserved
loop-i-preserved c =
    let a = c.args in
    let p = c.requires in
    let l = c.loop-i in
    let q = length a.work.now / 4 in
    let st = state_of q l.i l.work l.events l.o in
    let tm = all_marked a.t.marks.now in
    let read = c.at-in-loop-i.ensures ∙ read_is a.s a.t.xs.now a.t.ys.now a.t.times.now a.t.marks.now a.t.ys_length a.t.times_length a.t.marks_length a.found l.i c.loop-i-test.true _ c.points-points.ensures in
    let e = c.next-o.ensures ∙ step_seen a.t.times c.all_marked.ensures c.then_some.ensures euclidean a.s _ l.i st in (
      run_on euclidean a.s tm a.t.times.now (fixes_of a.t) l.i (length a.t.xs.now) st
          _ c.loop-i-test.true
          (e ∙ ap (λ (z : Point). step euclidean a.s tm a.t.times.now z l.i st)
          (read ∙ point_is a.s a.t.xs.now a.t.ys.now a.t.times.now a.t.marks.now a.t.ys_length a.t.times_length a.t.marks_length
          a.found l.i c.loop-i-test.true))
          ∙ l.invariant.0,
      subst (Sound a.found (l.i + 1)) (sym e)
          (sound_step euclidean a.s tm a.t.times.now c.at-in-loop-i.result a.found l.i st l.invariant.1),
    )

pub close-last-requires : goal.close-last-requires
unfolding state_of
close-last-requires c =
    let l = c.loop-i in
    let h = l.invariant.1 in (
      if_handed _ (λ ts. length c.args.t.xs.now ≤ length ts.now) c.then_some.ensures (omega (arith, c.args.t.times_length)),
      record {
        before = omega (arith, h.before);
        group = omega (arith, c.insert_both.auto.work, c.requires.room);
        places = omega (arith, c.requires.events_length);
        parts = omega (arith, c.insert_both.auto.work);
        median = omega (arith, c.insert_both.auto.work, c.requires.room, h.before, h.few);
        number = omega (arith, c.requires.numbers, h.before, h.few);
      },
    )

pub overflow_sub-result : goal.overflow_sub-result
overflow_sub-result c =
    let a = c.args in
    let p = c.requires in
    let l = c.loop-i in
    let some_fix : 0 < length a.t.xs.now = omega (arith, c.if-n-eq0.false) in
    let first = c.at.ensures ∙ read_is a.s a.t.xs.now a.t.ys.now a.t.times.now a.t.marks.now a.t.ys_length a.t.times_length a.t.marks_length a.found 0 some_fix _ c.points-points.ensures in
    let inserted = c.insert_both.ensures ∙ ap (λ (z : Point). insert_both (length a.work.now / 4) 0 z.x z.y a.work.now) first in
    let some_room : 0 < length a.work.now / 4 = omega (arith, p.room, some_fix) in
    let fits : 4 * (length a.work.now / 4) ≤ length a.work.now = omega arith in
    enough a.s a.t.xs.now a.t.ys.now a.t.times.now a.t.marks.now a.t.ys_length a.t.times_length a.t.marks_length a.found
    some_fix (length a.work.now / 4) a.work.now a.events.now some_room fits c.close-last.new.work
    c.close-last.new.events c.close-last.result (last_state a.s a.t.xs.now a.t.ys.now a.t.times.now a.t.marks.now a.t.ys_length a.t.times_length a.t.marks_length a.found
    some_fix (length a.work.now / 4) a.work.now a.events.now some_room fits (all_marked a.t.marks.now)
    c.insert_both.new.work l.work _ l.events _ l.o c.close-last.result l.i
    refl inserted c.loop-i-test.false (omega arith) l.invariant.0
    (c.close-last.ensures ∙ closed_seen a.t.times c.all_marked.ensures c.then_some.ensures a.s _ _))

pub returns : goal.returns
returns c =
    let a = c.args in
    let p = c.requires in
    let l = c.loop-i in
    let some_fix : 0 < length a.t.xs.now = omega (arith, c.if-n-eq0.false) in
    let first = c.at.ensures ∙ read_is a.s a.t.xs.now a.t.ys.now a.t.times.now a.t.marks.now a.t.ys_length a.t.times_length a.t.marks_length a.found 0 some_fix _ c.points-points.ensures in
    let inserted = c.insert_both.ensures ∙ ap (λ (z : Point). insert_both (length a.work.now / 4) 0 z.x z.y a.work.now) first in
    let some_room : 0 < length a.work.now / 4 = omega (arith, p.room, some_fix) in
    let fits : 4 * (length a.work.now / 4) ≤ length a.work.now = omega arith in
    whole a.s a.t.xs.now a.t.ys.now a.t.times.now a.t.marks.now a.t.ys_length a.t.times_length a.t.marks_length a.found
    some_fix (length a.work.now / 4) a.work.now a.events.now some_room fits c.close-last.new.work
    c.close-last.new.events c.close-last.result refl
    (omega (arith, c.close-last.auto.work, c.loop-i.auto.work, c.insert_both.auto.work))
    (omega (arith, c.close-last.auto.events, p.events_length)) (last_state a.s a.t.xs.now a.t.ys.now a.t.times.now a.t.marks.now a.t.ys_length a.t.times_length a.t.marks_length a.found
    some_fix (length a.work.now / 4) a.work.now a.events.now some_room fits (all_marked a.t.marks.now)
    c.insert_both.new.work l.work _ l.events _ l.o c.close-last.result l.i
    refl inserted c.loop-i-test.false (omega arith) l.invariant.0
    (c.close-last.ensures ∙ closed_seen a.t.times c.all_marked.ensures c.then_some.ensures a.s _ _))
