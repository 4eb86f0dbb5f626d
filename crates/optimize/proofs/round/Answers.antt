-- `optimize::round` meets its contract.
-- Kept: the check does not find what stands here, also with the lemmas named on the function.
use mathlib.Core.Path.{◌≡◌, sym, ◌∙◌, ap, subst}
use mathlib.Core.Bool.{false}
use native.Mathlib.Omega.{arith}
use Prim.Native.Nat.{ℕ}
use lib.ListN.{length}
use Rattle.rng.specs.Steps.{Below}
use Rattle.scan.specs.Scan.{scan}
use Rattle.optimize.specs.Rounds.{Pass}
use Rattle.optimize.specs.Steps.{pass_of, run_of}
use Rattle.rng.proofs.Visits.{drawn_below}
use Rattle.optimize.proofs.Passes.{pass_length}
use Rattle.optimize.proofs.Numbers.{at_most_more, scan_rises, isolate_rises}
use Rattle.optimize.proofs.Rounds.{round_is, moved_at_most, visits_is}
use Rattle.optimize.proofs.round.Goals as goal

pub pass-moved-requires : goal.pass-moved-requires
pass-moved-requires c =
    let r = c.args.r.now in
    let o = c.draw_order-r in (
      (
        c.requires.0.0,
        rw c.requires.0.1 at (drawn_below r.rng (length c.args.order.now) o.new.s o.result o.ensures),
        omega (arith, o.auto.s, c.requires.0.2),
        at_most_more 800000 900000 _ (omega arith) c.requires.0.3,
      ),
      scan_rises,
    )

pub pass-r-requires : goal.pass-r-requires
pass-r-requires c =
    let r = c.args.r.now in
    let net = c.args.net.now in
    let o = c.draw_order-r in
    let s = c.args.s.now in
    let w = pass_of s false in
    let e : length c.pass-moved.new.s.partition ≡ length s.partition = ap (λ (x : Pass). length x.state.partition) c.pass-moved.ensures ∙ pass_length scan net w _ in (
      (
        c.requires.0.0 ∙ sym e,
        subst (λ (k : ℕ). Below k o.new.s) (c.requires.0.1 ∙ sym e) (drawn_below r.rng (length c.args.order.now) o.new.s o.result o.ensures),
        omega (arith, o.auto.s, c.requires.0.2),
        at_most_more 800000 900000 _ (omega arith) (moved_at_most 800000 net w _ c.pass-moved.ensures c.requires.0.3),
      ),
      isolate_rises,
    )

pub returns : goal.returns
returns c =
    let r = run_of c.args.s.now c.args.r.now in
    let net = c.args.net.now in
    let k : length c.args.order.now ≡ length net.strength = c.requires.0.1 ∙ sym c.requires.0.0 in
    (round_is net r k c.draw_order-r.ensures c.pass-moved.ensures c.pass-r.ensures, visits_is net r k c.draw_order-r.ensures)
