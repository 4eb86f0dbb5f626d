-- `cluster::labels::label_places` meets its contract.
-- Kept: the check does not find what stands here, also with the lemmas named on the function.
use mathlib.Core.Path.{◌≡◌, sym, ap, ◌∙◌}
use mir.Syntax.{w32}
use mir.Facts.{to_z-of_z}
use borrow.Author.Rules.{sfits_of}
use mathlib.Core.Bool.{false≢true}
use Prim.Native.Nat.{◌+◌, ◌-◌, ◌<◌}
use lib.IntN.{pos}
use native.Mathlib.Omega.{arith}
use Rattle.std.proofs.Common.{rules, tests}
use Rattle.cluster.proofs.Walk.{looked, other_by, Other, taken, walk_node, walk_past}
use Rattle.cluster.proofs.labels.label_places.Goals.{in-Some, in-None, in-None-2}
use Rattle.cluster.proofs.labels.label_places.Goals as goal

pub loop-i-preserved : goal.loop-i-preserved
loop-i-preserved c =
    let l = c.loop-i in
    let u = l.invariant.2.0 in
    let at = l.invariant.2.1 in
    let singles = l.invariant.2.2 in
    let left = l.invariant.2.3 in
    let walked = l.invariant.2.4 in
    elim c.match-next_if.branch [
      | in-Some w ↦
          let f = w.in-Some.ensures.cases in
          let look = looked _ u _ f.0 _ _ left f.1 in
          let ahead = rw f.2.0 at look.0 in
          let here : w.in-Some.field-0-1.now ≡ l.i-counter = search (rules, tests) in
          let label = w.label-is ∙ to_z-of_z {w = w32} (sfits_of {w = w32} w.node_label.type_inv) ∙ w.node_label.ensures in (
            rw w.singles-is l.invariant.0,
            omega (arith, look.1, l.invariant.1),
            (
              u + 1,
              omega (arith, at),
              (λ e. rw w.singles-is (omega (arith, singles e))),
              rw f.2.1 (taken _ u _ (w.in-Some.u, w.in-Some.field-0-1) _ ahead),
              walk_node _ _ _ _ _ u _ (w.in-Some.u, w.in-Some.field-0-1) _ _ walked c.loop-i-test.true l.auto.labels ahead here label,
            ),
          )
      | in-None w ↦
          let f = w.in-None.ensures.cases in
          let look = looked _ u _ f.0 _ _ left f.1 in
          let other : Other l.i-counter f.0 = other_by _ f.0 (rw f.2 at w.in-None.ensures.refused) (λ x p e. search (rules, tests)) in
          let fresh : l.singles.start < l.singles.end = omega (arith, l.invariant.0, singles w.if-single.true, at, c.loop-i-test.true) in
          let given : w.map_or.result ≡ pos l.singles.start = search (rules, tests) in
          let on : w.next.new.self.start ≡ l.singles.start + 1 = search (rules, tests) in
          let end : w.next.new.self.end ≡ l.singles.end = search (rules, tests) in
          let place : l.singles.start ≡ c.label_count-count.result + (l.i-counter - u) = omega (arith, singles w.if-single.true, at) in
          let label = w.label-is ∙ to_z-of_z {w = w32} (sfits_of {w = w32} w.map_or.type_inv) ∙ given ∙ ap pos (place ∙ ap (λ z. z + (l.i-counter - u)) c.label_count-count.ensures) in (
            rw (w.singles-is, end) l.invariant.0,
            omega (arith, look.1, l.invariant.1),
            (
              u,
              omega (arith, at),
              (λ e. rw (w.singles-is, on) (omega (arith, singles e))),
              rw f.2 look.0,
              walk_past _ _ _ _ _ u _ f.0 _ _ walked c.loop-i-test.true l.auto.labels look.0 other (rw w.if-single.true label),
            ),
          )
      | in-None-2 w ↦
          let f = w.in-None.ensures.cases in
          let look = looked _ u _ f.0 _ _ left f.1 in
          let other : Other l.i-counter f.0 = other_by _ f.0 (rw f.2 at w.in-None.ensures.refused) (λ x p e. search (rules, tests)) in (
            rw w.singles-is l.invariant.0,
            omega (arith, look.1, l.invariant.1),
            (
              u,
              omega (arith, at),
              (λ e. absurd (false≢true (sym w.if-single.false ∙ e))),
              rw f.2 look.0,
              walk_past _ _ _ _ _ u _ f.0 _ _ walked c.loop-i-test.true l.auto.labels look.0 other (rw w.if-single.false w.label-is),
            ),
          )
    ]
