-- How the loop of the link weights goes on and ends.
use mathlib.Core.Path.{◌≡◌, refl}
use mathlib.Core.List.{List}
use Prim.Native.Nat.{ℕ, ◌+◌, ◌<◌, ◌≤◌}
use native.Mathlib.Numerals.{add-one}
use native.Mathlib.Omega.{arith}
use lib.ListN.{length, drop, get_or, drop_of_length-le}
use lib.Seq.{drop-cons}
use lib.Ieee.{Float, nan}
use Rattle.map_state.specs.declared.Links.{Links}
use Rattle.map_state.specs.MapState.{add_link, link_weights_from}

-- What is left to add from node v on: its link first, and nothing past the last.
pub link_on : (g h : ℕ) (l : Links) (part : List ℕ) (row : List Float) (v : ℕ) → length row ≡ length part → v < length part
    → link_weights_from g h l (drop v part) (drop v row) ≡ link_weights_from g h (add_link g h l (get_or part v 0) (get_or row v nan)) (drop (v + 1) part) (drop (v + 1) row)
unfolding link_weights_from
link_on g h l part row v e p = rw (add-one v, drop-cons part v 0 p, drop-cons row v nan (omega arith)) refl

pub link_end : (g h : ℕ) (l : Links) (part : List ℕ) (ws : List Float) (v : ℕ) → length part ≤ v → link_weights_from g h l (drop v part) ws ≡ l
unfolding link_weights_from
link_end g h l part ws v p = rw (drop_of_length-le part {i = v} p)
