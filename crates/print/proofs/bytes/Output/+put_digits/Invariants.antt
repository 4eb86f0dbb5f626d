-- The digits still to be written fall.
use Rattle.print.proofs.bytes.Output.+put_digits.Given as goal

abbrev pub decreases-put_digits : goal.decreases-put_digits
decreases-put_digits l = l.f
