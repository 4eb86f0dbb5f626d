-- `codelength::sum_terms` meets its contract. The loop: the groups whose lowest member is v or higher, added to the terms so far, give all terms.
use mathlib.Core.Path.{◌≡◌}
use Prim.Native.Nat.{◌-◌}
use lib.ListN.{length}
use Rattle.codelength.specs.Codelength.{terms_from, terms}
use Rattle.codelength.proofs.sum_terms.Given as goal

abbrev pub invariant-loop-v : goal.invariant-loop-v
invariant-loop-v l = terms_from l.d l.s.partition l.s.exits l.s.strengths l.t l.v (length l.s.partition - l.v) ≡ terms l.d l.s.partition l.s.exits l.s.strengths
