-- The nodes that the search in the table of weights finds.
use mathlib.Core.Path.{◌≡◌, ◌∙◌}
use mathlib.Core.List.{List}
use Prim.Native.Nat.{ℕ, ◌*◌}
use native.Mathlib.Omega.{arith}
use lib.ListN.{length, take}
use lib.Ieee.{Float}
use Rattle.lists.specs.Lists.{overlay}
use Rattle.lists.proofs.Overlay.{take_front}
use Rattle.neighbors.specs.Places.{Place}
use Rattle.distance.specs.Distance.{Metric}
use Rattle.neighbors.specs.Links.{weight, nodes}
use Rattle.neighbors.specs.StepsTables.{Tabled, rows_with_weight}
use Rattle.neighbors.proofs.NodeList.{rows_nodes}
use Rattle.cluster.specs.StepsSlices.{Countable}

-- s is the filled table of n places; in l the k rows with a weight stand in front of what l₀ holds.
pub found_nodes : (ps : List Place) (t : List Float) → Countable ps t → (n : ℕ) → n ≡ length ps
    → (dist : Metric) (r2 : Float) (s : List Float) → Tabled (weight dist r2 ps) (length ps) s (length ps * length ps)
    → (k : ℕ) (l₀ l : List ℕ) → (k ≡ length (rows_with_weight n s)) × (l ≡ overlay (rows_with_weight n s) l₀) → take k l ≡ nodes dist r2 ps
found_nodes ps t p n e dist r2 s w k l₀ l f =
    take_front (rows_with_weight n s) l₀ l k f.0 f.1 ∙ rw e (rows_nodes dist r2 ps s w p.counted (let a = p.stays in omega arith))
