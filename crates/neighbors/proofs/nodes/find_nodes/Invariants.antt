-- `neighbors::nodes::find_nodes` meets its contract.
use Rattle.neighbors.specs.StepsTables.{has_weight}
use Rattle.neighbors.proofs.Selected.{Selected}
use Rattle.neighbors.proofs.nodes.find_nodes.Given as goal

abbrev pub invariant-loop-i : goal.invariant-loop-i
invariant-loop-i l = Selected (has_weight l.n l.table) l.n l.initial.nodes l.nodes l.k l.i
