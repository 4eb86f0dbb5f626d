-- `optimize::pass` meets its contract. The loop: the pass over the nodes that are left, from the state so far, is the whole pass. Numbers grow by one a node at most.
-- Kept: the check does not find what stands here, also with the lemmas named on the function.
use mathlib.Core.Path.{refl, ◌∙◌, ap}
use lib.ListN.{length}
use Rattle.optimize.specs.Rounds.{Pass}
use Rattle.optimize.specs.Steps.{pass_of}
use Rattle.optimize.proofs.Passes.{pass_on, act_length}
use Rattle.optimize.proofs.Numbers.{act_asked_at_most}
use Rattle.optimize.proofs.pass.Goals as goal

pub loop-u-preserved : goal.loop-u-preserved
loop-u-preserved g c =
    let a = c.args in
    let l = c.loop-u in
    let w = pass_of l.s l.moved in record {
      left = pass_on g.A.Ask.answer a.net.now w a.order.now l.u-index c.loop-u-test.true refl c.ask-a.ensures c.act-moved.ensures ∙ l.invariant.left;
      long = ap (λ (x : Pass). length x.state.partition) c.act-moved.ensures ∙ act_length a.net.now w _ _ ∙ l.invariant.long;
      most = act_asked_at_most l.u-index g.A.Ask.answer a.net.now w _ c.requires.1 l.invariant.most c.ask-a.ensures c.act-moved.ensures;
    }
