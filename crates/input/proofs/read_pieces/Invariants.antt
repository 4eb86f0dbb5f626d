-- `input::read_pieces` meets its contract. The invariant: some calls told that there may be more, and all that they gave was read.
use mathlib.Core.List.{List}
use Rattle.text.specs.Values.{columns}
use Rattle.input.specs.Calls.{Call}
use Rattle.input.proofs.Joined.{SoFar}
use Rattle.input.proofs.read_pieces.Given as goal

abbrev pub invariant-loop : goal.invariant-loop
invariant-loop g l =
    (gs : List Call) × SoFar (columns l.initial.xs l.initial.ys l.initial.times l.initial.marks l.initial.lens) gs l.r (columns l.xs l.ys l.times l.marks l.lens)
