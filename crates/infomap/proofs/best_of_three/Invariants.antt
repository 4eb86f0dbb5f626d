-- `infomap::best_of_three` meets its contract. The loop: the trials that are left, from what is kept so far, give the kept grouping.
use mathlib.Core.Path.{◌≡◌}
use Prim.Native.Nat.{◌-◌}
use lib.ListN.{length}
use Rattle.infomap.specs.Infomap.{trials, best_of_three}
use Rattle.infomap.specs.Steps.{grouping_of}
use Rattle.infomap.proofs.best_of_three.Given as goal

abbrev pub invariant-loop : goal.invariant-loop
invariant-loop l = record {
  left : trials l.net (2 - l.counter) l.x (grouping_of l.best l.k) ≡ best_of_three l.net l.fn.rng;
  long : length l.best ≡ length l.fn.best;
}
