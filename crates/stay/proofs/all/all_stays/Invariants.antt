-- `stay::all::all_stays` meets its contract. The invariant is `Reached` of `proofs/AllStays.antt`, at the place where the traces that are left begin.
use lib.ListN.{length}
use Rattle.trace.specs.Given.{traces_of}
use Rattle.trace.specs.StepsTraces.{left}
use Rattle.stay.proofs.AllStays.{Somewhere}
use Rattle.stay.proofs.all.all_stays.Given as goal

abbrev pub invariant-loop-at : goal.invariant-loop-at
invariant-loop-at l = Somewhere l.s (traces_of l.t.tracks) (length l.t.tracks.xs.now) l.found l.work l.events (left l.at-iterator)
