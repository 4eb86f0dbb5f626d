-- The traces with their places: the next one, and the traces without them.
use mathlib.Core.Path.{◌≡◌, refl, ap}
use mathlib.Core.List.{List, [], ◌∷◌, map}
use Prim.Native.Nat.{ℕ, suc, ◌+◌}
use native.Mathlib.Omega.{arith}
use lib.ListN.{length, take, drop}
use lib.Seq.{drop-drop}
use Rattle.trace.specs.Trace.{Fix, traces}
use Rattle.trace.specs.StepsTraces.{placed}

pub placed_next : (at n : ℕ) (ns : List ℕ) (fs : List Fix) → placed at (n ∷ ns) (drop at fs) ≡ (at, take n (drop at fs)) ∷ placed (at + n) ns (drop (at + n) fs)
unfolding placed
placed_next at n ns fs = rw (← drop-drop n at fs) refl

pub placed_none : (at : ℕ) (ns : List ℕ) (fs : List Fix) → length ns ≡ 0 → placed at ns fs ≡ []
unfolding placed
placed_none at [] fs h = refl
placed_none at (n ∷ ns) fs h = absurd (omega arith)

pub placed_traces : (at : ℕ) (ns : List ℕ) (fs : List Fix) → map (λ (p : ℕ × List Fix). p.1) (placed at ns fs) ≡ traces ns fs
unfolding placed traces
placed_traces at [] fs = refl
placed_traces at (n ∷ ns) fs = ap (λ (ts : List (List Fix)). take n fs ∷ ts) (placed_traces (at + n) ns (drop n fs))

-- There are as many as there are lengths.
pub placed_length : (at : ℕ) (ns : List ℕ) (fs : List Fix) → length (placed at ns fs) ≡ length ns
unfolding placed
placed_length at [] fs = refl
placed_length at (n ∷ ns) fs = ap suc (placed_length (at + n) ns (drop n fs))
