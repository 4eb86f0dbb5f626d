-- Where the traces start.
use mathlib.Core.Path.{◌≡◌, ◌∙◌}
use mathlib.Core.List.{List, [], ◌∷◌}
use Prim.Native.Nat.{ℕ, zero, suc, ◌+◌, ◌-◌, ◌^◌, ◌<◌, ◌≤◌}
use native.Mathlib.Nat.{sub-zero}
use native.Mathlib.Omega.{arith}
use lib.ListN.{length, take, get_or}
use Rattle.std.specs.List.{fold, sum_by}
use Rattle.trace.specs.Trace.{total}
use Rattle.trace.proofs.Parts.{offset_within}
use Rattle.reports.specs.View.{trace_start}

-- The total, as a sum of the library.
summed_from : (a : ℕ) (ns : List ℕ) → fold (λ a n. a + n) a ns ≡ a + total ns
unfolding total
summed_from a [] = omega arith
summed_from a (n ∷ ns) = omega (arith, summed_from (a + n) ns)

total_before : (ns : List ℕ) (k : ℕ) → total (take k ns) ≤ total ns
unfolding total
total_before [] zero = omega arith
total_before [] (suc k) = omega arith
total_before (n ∷ ns) zero = omega arith
total_before (n ∷ ns) (suc k) = omega (arith, total_before ns k)

pub start_summed : (ns : List ℕ) (k : ℕ) → sum_by (λ n. n) (take (k - 0) ns) ≡ trace_start ns k
unfolding trace_start
start_summed ns k = rw (sub-zero k) (summed_from 0 (take k ns) ∙ (omega arith))

pub start_fits : (ns : List ℕ) (k : ℕ) → total ns < 2 ^ 64 → sum_by (λ n. n) (take (k - 0) ns) < 2 ^ 64
unfolding trace_start
start_fits ns k h = omega (arith, start_summed ns k, total_before ns k)

pub start_within : (ns : List ℕ) (k : ℕ) → k < length ns → trace_start ns k + get_or ns k 0 ≤ total ns
unfolding trace_start
start_within ns k h = offset_within ns k h
