-- `infomap::run_infomap` meets its contract.
-- Kept: the check does not find what stands here, also with the lemmas named on the function.
use native.Mathlib.Omega.{arith}
use Rattle.infomap.proofs.Trials.{run_is}
use Rattle.infomap.proofs.run_infomap.Goals as goal

pub returns : goal.returns
returns c =
    let k = c.kept_grouping-k in
    let r = c.args.table.rows in
    run_is _ c.args.seed c.args.table.n k.result k.new.best _ c.new-net.ensures k.ensures c.relabel_dense.ensures k.auto.best (omega (arith, r.wide, r.narrow))
