-- The nodes, their links and strengths (`Network` of the Rust). Definitions only.
-- The table holds the weights, row after row at a stride, with 0 for no link. Two nodes link where their weight is above 0.
-- A fit's table is symmetric, with 0 on the diagonal; the definitions take any table.
use Rattle.std.specs.Prelude.{ℕ, zero, suc, ◌*◌, cond, List, [], ◌∷◌, length, take, drop, Float}
use Rattle.std.specs.Float.Ieee.{lt}
use Rattle.float.specs.Binary64.{add64, mul64, zero64, two64}

-- Beside the table: each node's strength, and the rules' D, twice the total weight (`two_m`).
pub record Network : Type 0 where
  pub table : List Float
  pub stride : ℕ
  pub strength : List Float
  pub d : Float

-- The row of node u, of n nodes.
abbrev pub row_at : List Float → ℕ → ℕ → ℕ → List Float
row_at table stride n u = take n (drop (u * stride) table)

unfoldable pub row : Network → ℕ → List Float
row net u = row_at net.table net.stride (length net.strength) u

-- The weights of the links, added to a one by one.
unfoldable pub add_weights : Float → List Float → Float
add_weights a [] = a
add_weights a (w ∷ ws) = add_weights (cond (lt zero64 w) (add64 a w) a) ws

-- A node's strength is the sum of its links' weights, in rising number of the neighbour. Of k nodes from u on.
-- (`add_edge`, called with rising pairs of nodes, comes to each node in this order.)
unfoldable pub strengths_from : List Float → ℕ → ℕ → ℕ → ℕ → List Float
strengths_from table stride n u zero = []
strengths_from table stride n u (suc k) = add_weights zero64 (row_at table stride n u) ∷ strengths_from table stride n (suc u) k

abbrev pub strengths_of : List Float → ℕ → ℕ → List Float
strengths_of table stride n = strengths_from table stride n 0 n

-- The total weight counts a link once, at its lower node. Of k nodes from u on, added to a.
unfoldable pub total_from : List Float → ℕ → ℕ → Float → ℕ → ℕ → Float
total_from table stride n a u zero = a
total_from table stride n a u (suc k) = total_from table stride n (add_weights a (drop (suc u) (row_at table stride n u))) (suc u) k

abbrev pub total_weight : List Float → ℕ → ℕ → Float
total_weight table stride n = total_from table stride n zero64 0 n

-- The network of n nodes with this table.
unfoldable pub network : List Float → ℕ → ℕ → Network
network table stride n = record {
  table = table;
  stride = stride;
  strength = strengths_of table stride n;
  d = mul64 two64 (total_weight table stride n);
}
