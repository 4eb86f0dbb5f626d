-- `codelength::exit_weights` meets its contract. The loop: what is left to add, added to the sum so far, is the whole sum.
use mathlib.Core.Path.{◌≡◌}
use lib.ListN.{length}
use Rattle.codelength.specs.Codelength.{exit_from}
use Rattle.codelength.proofs.exit_weights.Given as goal

abbrev pub invariant-loop-p : goal.invariant-loop-p
invariant-loop-p l =
    let ps = l.p-iterator.a.rest.now in
    let ws = l.p-iterator.b.rest.now in
    (exit_from l.g l.a ps ws ≡ exit_from l.g l.fn.start l.row.partition.now l.row.weights.now) × (length ps ≡ length ws)
