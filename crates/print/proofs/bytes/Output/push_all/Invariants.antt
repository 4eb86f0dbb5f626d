-- `print::bytes::Output::push_all` meets its contract.
use lib.ListN.{take}
use Rattle.print.specs.Steps.{Wrote}
use Rattle.print.proofs.bytes.Output.push_all.Given as goal

abbrev pub invariant-loop-b : goal.invariant-loop-b
invariant-loop-b l = Wrote l.initial.self l.self (take l.b-index l.text)
