-- `replay::numeral_in` meets its contract: the digits so far and those that are left make the whole.
use Rattle.std.proofs.Common.{◌≡◌, ◌+◌, drop}
use Rattle.replay.specs.Numbers.{digits, value}
use Rattle.replay.proofs.numeral_in.Given as goal

abbrev pub invariant-loop-digits : goal.invariant-loop-digits
invariant-loop-digits l = record {
  value : value l.value (drop l.digits l.s) ≡ value 0 l.s;
  digits : l.digits + digits (drop l.digits l.s) ≡ digits l.s;
}
