-- `reports::medians::gather` meets its contract.
use Rattle.reports.proofs.Gathered.{Gathered}
use Rattle.reports.proofs.medians.gather.Given as goal

abbrev pub invariant-loop-k : goal.invariant-loop-k
invariant-loop-k l = Gathered l.l l.labels l.vs l.group l.n l.k-iterator.a.rest.now l.k-iterator.b.rest.now
