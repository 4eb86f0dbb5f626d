-- No trace of a text is empty: each line of a fix makes the length of its trace, the next one or one that is there, greater by one.
use mathlib.Core.List.{List, [], ◌∷◌}
use Prim.Native.Nat.{ℕ, zero, suc, ◌<◌}
use native.Mathlib.Omega.{arith}
use lib.ListN.{length, get_or}
use Rattle.text.specs.Values.{FixLine, with_fix, lengths_from, lengths_of}

-- Each of the traces has a fix.
abbrev Walked : List ℕ → Type 0
Walked ns = (k : ℕ) → k < length ns → 0 < get_or ns k 0

one_more : (ns : List ℕ) (t : ℕ) → Walked ns → Walked (with_fix ns t)
unfolding with_fix
one_more [] t h zero b = omega arith
one_more [] t h (suc k) b = absurd (omega arith)
one_more (n ∷ ns) zero h zero b = omega arith
one_more (n ∷ ns) zero h (suc k) b = h (suc k) (omega arith)
one_more (n ∷ ns) (suc t) h zero b = h zero (omega arith)
one_more (n ∷ ns) (suc t) h (suc k) b = one_more ns t (λ j q. h (suc j) (omega arith)) k (omega arith)

all_more : (ls : List FixLine) (ns : List ℕ) → Walked ns → Walked (lengths_from ns ls)
unfolding lengths_from
all_more [] ns h = h
all_more (l ∷ ls) ns h = all_more ls (with_fix ns l.trace) (one_more ns l.trace h)

pub none_empty : (ls : List FixLine) (k : ℕ) → k < length (lengths_of ls) → 0 < get_or (lengths_of ls) k 0
unfolding lengths_of
none_empty ls = all_more ls [] (λ k b. absurd (omega arith))
