-- Traces cut from the fixes by their lengths, and the loops over them.
use mathlib.Core.Path.{◌≡◌, refl, ap, ◌∙◌}
use mathlib.Core.List.{List, [], ◌∷◌}
use Prim.Native.Nat.{ℕ, zero, suc, ◌+◌, ◌-◌, ◌<◌, ◌≤◌}
use native.Mathlib.Numerals.{add-one}
use native.Mathlib.Nat.{add-sub_cancel_left}
use native.Mathlib.Omega.{arith}
use lib.ListN.{length, take, drop, get_or}
use lib.Seq.{drop-cons, drop-drop}
use lib.Ieee.{Float}
use Rattle.lists.proofs.Parts.{lent}
-- Named so that the examples are checked before these lemmas.
use Rattle.trace.specs.Examples
use Rattle.trace.specs.Trace.{Fix, time_of, fixes, total, traces}

pub total_drop : (ns : List ℕ) (k : ℕ) → k < length ns → total (drop k ns) ≡ get_or ns k 0 + total (drop (k + 1) ns)
unfolding total
total_drop ns k h = rw (add-one k, drop-cons ns k 0 h)

pub total_some : (ns : List ℕ) → 0 < total ns → 0 < length ns
unfolding total
total_some [] h = absurd (omega arith)
total_some (n ∷ ns) h = omega arith

-- ---- where a trace lies

pub offset_within : (ns : List ℕ) (k : ℕ) → k < length ns → total (take k ns) + get_or ns k 0 ≤ total ns
unfolding total
offset_within [] k h = absurd (omega arith)
offset_within (n ∷ ns) zero h = omega arith
offset_within (n ∷ ns) (suc k) h = omega (arith, offset_within ns k (omega arith))

pub trace_at : (ns : List ℕ) (fs : List Fix) (k : ℕ) → k < length ns → get_or (traces ns fs) k [] ≡ take (get_or ns k 0) (drop (total (take k ns)) fs)
unfolding total traces
trace_at [] fs k h = absurd (omega arith)
trace_at (n ∷ ns) fs zero h = refl
trace_at (n ∷ ns) fs (suc k) h = trace_at ns (drop n fs) k (omega arith) ∙ ap (take (get_or ns k 0)) (drop-drop (total (take k ns)) n fs)

-- ---- parts of the columns

fixes_take : (n : ℕ) (xs ys ts : List Float) (ms : List ℕ) → fixes (take n xs) (take n ys) (take n ts) (take n ms) ≡ take n (fixes xs ys ts ms)
unfolding fixes
fixes_take zero xs ys ts ms = refl
fixes_take (suc n) [] ys ts ms = refl
fixes_take (suc n) (x ∷ xs) [] ts ms = refl
fixes_take (suc n) (x ∷ xs) (y ∷ ys) [] ms = refl
fixes_take (suc n) (x ∷ xs) (y ∷ ys) (t ∷ ts) [] = refl
fixes_take (suc n) (x ∷ xs) (y ∷ ys) (t ∷ ts) (m ∷ ms) = ap (λ (fs : List Fix). record { at = record { x = x; y = y }; time = time_of m t } ∷ fs) (fixes_take n xs ys ts ms)

none_second : (xs ts : List Float) (ms : List ℕ) → fixes xs [] ts ms ≡ []
unfolding fixes
none_second [] ts ms = refl
none_second (x ∷ xs) ts ms = refl

none_third : (xs ys : List Float) (ms : List ℕ) → fixes xs ys [] ms ≡ []
unfolding fixes
none_third [] ys ms = refl
none_third (x ∷ xs) [] ms = refl
none_third (x ∷ xs) (y ∷ ys) ms = refl

none_fourth : (xs ys ts : List Float) → fixes xs ys ts [] ≡ []
unfolding fixes
none_fourth [] ys ts = refl
none_fourth (x ∷ xs) [] ts = refl
none_fourth (x ∷ xs) (y ∷ ys) [] = refl
none_fourth (x ∷ xs) (y ∷ ys) (t ∷ ts) = refl

fixes_drop : (n : ℕ) (xs ys ts : List Float) (ms : List ℕ) → fixes (drop n xs) (drop n ys) (drop n ts) (drop n ms) ≡ drop n (fixes xs ys ts ms)
unfolding fixes
fixes_drop zero xs ys ts ms = refl
fixes_drop (suc n) [] ys ts ms = refl
fixes_drop (suc n) (x ∷ xs) [] ts ms = none_second (drop n xs) (drop (suc n) ts) (drop (suc n) ms)
fixes_drop (suc n) (x ∷ xs) (y ∷ ys) [] ms = none_third (drop n xs) (drop n ys) (drop (suc n) ms)
fixes_drop (suc n) (x ∷ xs) (y ∷ ys) (t ∷ ts) [] = none_fourth (drop n xs) (drop n ys) (drop n ts)
fixes_drop (suc n) (x ∷ xs) (y ∷ ys) (t ∷ ts) (m ∷ ms) = fixes_drop n xs ys ts ms

pub fixes_lent : (a n : ℕ) (xs ys ts : List Float) (ms : List ℕ) → fixes (lent a (a + n) xs) (lent a (a + n) ys) (lent a (a + n) ts) (lent a (a + n) ms) ≡ take n (drop a (fixes xs ys ts ms))
fixes_lent a n xs ys ts ms =
    fixes_take (a + n - a) (drop a xs) (drop a ys) (drop a ts) (drop a ms) ∙ ap (take (a + n - a)) (fixes_drop a xs ys ts ms)
    ∙ ap (λ (k : ℕ). take k (drop a (fixes xs ys ts ms))) (add-sub_cancel_left a n)
