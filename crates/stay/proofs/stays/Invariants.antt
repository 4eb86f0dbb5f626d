-- `stay::stays` meets its contract: the loop goes on with the run of `proofs/Run.antt`, whose end `proofs/Whole.antt` reads.
use mathlib.Core.Path.{◌≡◌}
use Prim.Native.Nat.{◌-◌}
use Rattle.distance.specs.Distance.{euclidean}
use Rattle.trace.specs.Given.{fixes_of}
use Rattle.trace.specs.Steps.{all_marked}
use Rattle.stay.specs.Steps.{state_of}
use Rattle.stay.proofs.Run.{run}
use Rattle.stay.proofs.Whole.{Sound}
use Rattle.stay.proofs.stays.Given as goal

abbrev pub invariant-loop-i : goal.invariant-loop-i
invariant-loop-i l =
    (run euclidean l.fn.s (all_marked l.t.marks.now) l.t.times.now (fixes_of l.t) l.i (l.n - l.i) (state_of l.q l.i l.work l.events l.o) ≡ run euclidean l.fn.s (all_marked l.t.marks.now) l.t.times.now
    (fixes_of l.t) 1 (l.n - 1) (state_of l.q 1 l.initial.work l.initial.events l.initial.o))
    × Sound l.found l.i (state_of l.q l.i l.work l.events l.o)
