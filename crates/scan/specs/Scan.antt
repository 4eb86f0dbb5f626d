-- The scan of a node over its neighbours' groups, and the isolation test. Definitions only.
use Rattle.std.specs.Prelude.{ℕ, ◌+◌, cond, List, [], ◌∷◌, ltb, eqb, get_or, Float}
use Rattle.std.specs.Float.{binary64}
use Rattle.std.specs.Float.Ieee.{neg, lt, of_bits}
use Rattle.float.specs.Binary64.{sub64, zero64}
use Rattle.map_state.specs.Network.{Network, row}
use Rattle.map_state.specs.MapState.{MapState, delta_move}

-- docs/RULES.md: a scan answers either no move, or the group and its change.
pub data Answer : Type 0 where
  no_move : Answer
  move : ℕ → Float → Answer

-- The margin, 1e-15.
abbrev pub margin : Float
margin = of_bits binary64 0x3CD2_03AF_9EE7_5616

-- ---- the scan

-- Group g inserted into a rising list without repeats.
unfoldable pub insert_group : ℕ → List ℕ → List ℕ
insert_group g [] = g ∷ []
insert_group g (h ∷ hs) = let r = h ∷ insert_group g hs in cond (ltb g h) (g ∷ h ∷ hs) (cond (eqb g h) (h ∷ hs) r)

-- The groups of a node's neighbours, in rising internal number.
unfoldable pub candidates : List ℕ → List Float → List ℕ
candidates [] ws = []
candidates (p ∷ ps) [] = []
candidates (p ∷ ps) (w ∷ ws) = let r = candidates ps ws in cond (lt zero64 w) (insert_group p r) r

-- The change to beat (`best_delta`).
unfoldable pub best_delta : Answer → Float
best_delta no_move = zero64
best_delta (move g change) = change

-- Group h, whose change is below the change to beat by more than the margin, takes its place.
unfoldable pub better : Answer → ℕ → Float → Answer
better a h change = cond (lt change (sub64 (best_delta a) margin)) (move h change) a

-- One candidate more; a node's own group is none.
unfoldable pub consider : Network → MapState → ℕ → Answer → ℕ → Answer
consider net s u a h = let b = better a h (delta_move net s u h) in cond (eqb h (get_or s.partition u 0)) a b

unfoldable pub scan_from : Network → MapState → ℕ → Answer → List ℕ → Answer
scan_from net s u a [] = a
scan_from net s u a (h ∷ hs) = scan_from net s u (consider net s u a h) hs

-- The scan of node u.
unfoldable pub scan : Network → MapState → ℕ → Answer
scan net s u = scan_from net s u no_move (candidates s.partition (row net u))

-- ---- the isolation test

-- The highest of m and the numbers in a list.
unfoldable pub highest_from : ℕ → List ℕ → ℕ
highest_from m [] = m
highest_from m (g ∷ gs) = highest_from (cond (ltb m g) g m) gs

-- `next_free_module`: one above the highest internal number in use.
abbrev pub next_free_module : List ℕ → ℕ
next_free_module part = highest_from 0 part + 1

-- Node u, alone already or not, moves to a new group if the change is below minus the margin.
unfoldable pub isolate : Network → MapState → ℕ → Answer
isolate net s u =
    let h = next_free_module s.partition in
    let change = delta_move net s u h in
    cond (lt change (neg margin)) (move h change) no_move
