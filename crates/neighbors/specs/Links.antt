-- Links between places, nodes and singles (docs/RULES.md, "Links"). The distance is a parameter. Definitions only.
use Rattle.std.specs.Prelude.{ℕ, max, Bool, not, ◌&&◌, cond, List, leb, eqb, length, Float}
use Rattle.std.specs.Float.Ieee.{le}
use Rattle.lists.specs.Lists.{upto, any_of, select}
use Rattle.float.specs.Binary64.{whole64, zero64}
use Rattle.distance.specs.Distance.{Metric}
use Rattle.neighbors.specs.Places.{Place, place_at}

-- The distance of two places, lower number first.
unfoldable pub apart : Metric → List Place → ℕ → ℕ → Float
apart dist ps i j = cond (leb i j) (dist (place_at ps i).at (place_at ps j).at) (dist (place_at ps j).at (place_at ps i).at)

-- Two places link if their distance is <= r2.
unfoldable pub link : Metric → Float → List Place → ℕ → ℕ → Bool
link dist r2 ps i j = not (eqb i j) && le (apart dist ps i j) r2

-- The weight of a link is the larger count; 0 for no link.
unfoldable pub weight : Metric → Float → List Place → ℕ → ℕ → Float
weight dist r2 ps i j = cond (link dist r2 ps i j) (whole64 (max (place_at ps i).count (place_at ps j).count)) zero64

-- Whether a place has a link; one without is a single.
unfoldable pub linked : Metric → Float → List Place → ℕ → Bool
linked dist r2 ps i = any_of (link dist r2 ps i) (upto (length ps))

-- The linked places are the nodes, in place order.
unfoldable pub nodes : Metric → Float → List Place → List ℕ
nodes dist r2 ps = select (linked dist r2 ps) (upto (length ps))

-- The singles, in place order.
unfoldable pub singles : Metric → Float → List Place → List ℕ
singles dist r2 ps = select (λ i. not (linked dist r2 ps i)) (upto (length ps))
