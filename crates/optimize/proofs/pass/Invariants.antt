-- `optimize::pass` meets its contract. The loop: the pass over the nodes that are left, from the state so far, is the whole pass. Numbers grow by one a node at most.
use mathlib.Core.Path.{◌≡◌}
use Prim.Native.Nat.{◌+◌}
use lib.ListN.{length, drop}
use Rattle.optimize.specs.Rounds.{pass}
use Rattle.optimize.specs.Steps.{pass_of, AtMost}
use Rattle.optimize.proofs.pass.Given as goal

abbrev pub invariant-loop-u : goal.invariant-loop-u
invariant-loop-u g l = record {
  left : pass g.A.Ask.answer l.net (pass_of l.s l.moved) (drop l.u-index l.order) ≡ pass g.A.Ask.answer l.net (pass_of l.fn.s l.fn.start) l.order;
  long : length l.s.partition ≡ length l.fn.s.partition;
  most : AtMost (900000 + l.u-index) l.s.partition;
}
