-- The nodes: each has a link, no single has one, and the table of weights shows them.
use mathlib.Core.Path.{◌≡◌, refl, ap, ◌∙◌}
use mathlib.Core.Bool.{Bool, true, false, not}
use mathlib.Core.List.{List}
use Prim.Native.Nat.{ℕ, ◌+◌, ◌*◌, ◌<◌, ◌≤◌}
use borrow.Author.Tests.{not-true}
use lib.ListN.{length, get_or}
use lib.Ieee.{Float, nan, lt}
use Rattle.lists.specs.Lists.{upto, Has, position}
use Rattle.lists.proofs.Tests.{clash}
use Rattle.lists.proofs.Upto.{upto_has, has_upto}
use Rattle.lists.proofs.Members.{has_at, any_has, has_any, any_like, select_like, select_has, select_true, select_in, select_position}
use Rattle.float.specs.Binary64.{zero64}
use Rattle.float.proofs.Exact.{most}
use Rattle.neighbors.specs.Places.{Place}
use Rattle.neighbors.specs.StepsPlaces.{stay_count}
use Rattle.distance.specs.Distance.{Metric}
use Rattle.neighbors.specs.Links.{link, weight, linked, nodes, singles}
use Rattle.neighbors.specs.StepsTables.{Tabled, has_weight, rows_with_weight, RowNumbers}
use Rattle.neighbors.proofs.Cells.{in_table, tabled_at}
use Rattle.neighbors.proofs.Found.{Counted}
use Rattle.neighbors.proofs.FoundRows.{selected_rise}
use Rattle.neighbors.proofs.LinkWeights.{weight_above}

module _ (dist : Metric) (r2 : Float) (ps : List Place) where
  pub link_linked : (i j : ℕ) → j < length ps → link dist r2 ps i j ≡ true → linked dist r2 ps i ≡ true
  unfolding linked
  link_linked i j h e = any_has (link dist r2 ps i) (upto (length ps)) j (upto_has (length ps) j h) e

  -- A linked place has a link.
  pub linked_link : (i : ℕ) → linked dist r2 ps i ≡ true → (j : ℕ) × (j < length ps) × (link dist r2 ps i j ≡ true)
  unfolding linked
  linked_link i e = let k = has_any (link dist r2 ps i) (upto (length ps)) e in (k.0, has_upto (length ps) k.0 k.1, k.2)

  abbrev pub ns : List ℕ
  ns = nodes dist r2 ps

  pub node_lt : (i : ℕ) → Has ns i → i < length ps
  unfolding nodes
  node_lt i m = has_upto (length ps) i (select_in (linked dist r2 ps) (upto (length ps)) i m)

  -- Every node has a link.
  pub node_linked : (i : ℕ) → Has ns i → linked dist r2 ps i ≡ true
  unfolding nodes
  node_linked i m = select_true (linked dist r2 ps) (upto (length ps)) i m

  pub linked_node : (i : ℕ) → i < length ps → linked dist r2 ps i ≡ true → Has ns i
  unfolding nodes
  linked_node i h e = select_has (linked dist r2 ps) (upto (length ps)) i (upto_has (length ps) i h) e

  -- No single has a link.
  pub single_alone : (i : ℕ) → Has (singles dist r2 ps) i → (j : ℕ) → j < length ps → link dist r2 ps i j ≡ false
  unfolding singles
  single_alone i m j h = go (link dist r2 ps i j) refl
    where
      un : linked dist r2 ps i ≡ false
      un = not-true (linked dist r2 ps i) (select_true (λ i. not (linked dist r2 ps i)) (upto (length ps)) i m)

      go : (b : Bool) → link dist r2 ps i j ≡ b → b ≡ false
      go true e = clash (linked dist r2 ps i) (link_linked i j h e) un
      go false e = refl

  pub single_lt : (i : ℕ) → Has (singles dist r2 ps) i → i < length ps
  unfolding singles
  single_lt i m = has_upto (length ps) i (select_in (λ i. not (linked dist r2 ps i)) (upto (length ps)) i m)

  pub unlinked_single : (i : ℕ) → i < length ps → linked dist r2 ps i ≡ false → Has (singles dist r2 ps) i
  unfolding singles
  unlinked_single i h e = select_has (λ i. not (linked dist r2 ps i)) (upto (length ps)) i (upto_has (length ps) i h) (ap not e)

  pub node_at : (u : ℕ) → u < length ns → Has ns (get_or ns u 0)
  node_at u h = has_at ns u h

  pub node_position : (u : ℕ) → u < length ns → position (get_or ns u 0) ns ≡ u
  unfolding nodes
  node_position u h = select_position (linked dist r2 ps) (length ps) u h

  pub nodes_rise : RowNumbers (length ps) ns
  unfolding nodes
  nodes_rise = selected_rise (linked dist r2 ps) (length ps)

  pub nodes_few : length ns ≤ length ps
  nodes_few = nodes_rise.few

  -- The rows with a weight above 0 are the nodes.
  pub rows_nodes : (t : List Float) → Tabled (weight dist r2 ps) (length ps) t (length ps * length ps) → Counted ps → stay_count ps ≤ most
      → rows_with_weight (length ps) t ≡ ns
  unfolding rows_with_weight nodes
  rows_nodes t w c k = select_like (has_weight (length ps) t) (linked dist r2 ps) (upto (length ps)) (λ i m. one i (has_upto (length ps) i m))
    where
      one : (i : ℕ) → i < length ps → has_weight (length ps) t i ≡ linked dist r2 ps i
      one i h = unfold has_weight linked in any_like (λ j. lt zero64 (get_or t (i * length ps + j) nan)) (link dist r2 ps i) (upto (length ps))
          (λ j m. let l = has_upto (length ps) j m in
          ap (lt zero64) (tabled_at (weight dist r2 ps) (length ps) t (length ps * length ps) i j w h l (in_table (length ps) i j h l))
          ∙ weight_above dist r2 ps i j c k h)
