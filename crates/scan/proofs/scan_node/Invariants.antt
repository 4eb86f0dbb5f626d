-- `scan::scan_node` meets its contract. The loop: the candidates at or above `floor`, scanned from the answer so far, give the scan. `floor` rises.
use mathlib.Core.Path.{◌≡◌}
use Prim.Native.Nat.{◌-◌, ◌^◌, ◌≤◌}
use Rattle.map_state.specs.Network.{row}
use Rattle.scan.specs.Scan.{scan}
use Rattle.scan.specs.Steps.{answer_of}
use Rattle.scan.proofs.Candidates.{scan_up_from}
use Rattle.scan.proofs.scan_node.Given as goal

abbrev pub invariant-loop-c : goal.invariant-loop-c
invariant-loop-c l = record {
  left : scan_up_from l.net l.s l.u l.s.partition (row l.net l.u) (answer_of l.a) l.floor ≡ scan l.net l.s l.u;
  low : l.floor ≤ 2 ^ 32;
}

abbrev pub decreases-loop-c : goal.decreases-loop-c
decreases-loop-c l = 2 ^ 32 - l.floor
