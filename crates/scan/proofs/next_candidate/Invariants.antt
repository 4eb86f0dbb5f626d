-- `scan::next_candidate` meets its contract. The loop has found the lowest candidate among the nodes below `member`.
use Rattle.scan.specs.Steps.{Next}
use Rattle.scan.proofs.Candidates.{Bounds}
use Rattle.scan.proofs.next_candidate.Given as goal

abbrev pub invariant-loop-member : goal.invariant-loop-member
invariant-loop-member l = Next l.row.partition.now l.row.weights.now l.floor l.member l.best × Bounds l.lowest l.best
