-- `text::feed` meets its contract.
use Rattle.std.proofs.Common.{◌≡◌, drop}
use Rattle.text.specs.Values.{columns}
use Rattle.text.specs.Machine.{run, holding}
use Rattle.text.proofs.feed.Given as goal

abbrev pub invariant-loop-b : goal.invariant-loop-b
invariant-loop-b l =
    run (holding l.r (columns l.xs l.ys l.times l.marks l.lens)) (drop l.b-index l.text) ≡ run (holding l.initial.r (columns l.initial.xs l.initial.ys l.initial.times l.initial.marks l.initial.lens)) l.text
