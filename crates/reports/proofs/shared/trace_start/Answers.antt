-- `reports::shared::trace_start` meets its contract.
-- Kept: the check does not find what stands here, also with the lemmas named on the function.
use Rattle.reports.proofs.Starts.{start_summed, start_fits}
use Rattle.reports.proofs.shared.trace_start.Goals as goal
use borrow.Author.Rules.{rules}

pub sum-requires-clause-fits : goal.sum-requires-clause-fits
sum-requires-clause-fits c =
    let h = start_fits c.args.lens.now c.args.trace c.requires.1 in
    search rules

pub returns : goal.returns
returns c = let e = start_summed c.args.lens.now c.args.trace in search (rules, e)
