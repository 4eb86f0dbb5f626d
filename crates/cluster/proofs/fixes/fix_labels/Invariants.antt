-- `cluster::fixes::fix_labels` meets its contract.
use Rattle.cluster.proofs.FixLabels.{FixesLabelled}
use Rattle.cluster.proofs.fixes.fix_labels.Given as goal

abbrev pub invariant-loop-i : goal.invariant-loop-i
invariant-loop-i l = FixesLabelled l.events l.stay_labels l.labels l.i
