-- The checks of tracks, run at a few values: the order of the refusals, the edges of each, and empty traces.
use Rattle.std.specs.Prelude.{◌≡◌, refl, List, [], ◌∷◌, ℕ, ◌<◌, length, replicate, Float, Ok, Err}
use native.Mathlib.Omega.{arith}
use Rattle.std.specs.Float.{nan}
use Rattle.std.specs.Float.Ieee.{of_int, of_bits, lt}
use Rattle.float.specs.Binary64.{whole64, zero64, infinity64, finite}
use Rattle.distance.specs.Limit.{in_limit, within}
use Rattle.trace.specs.Trace.{fixes, timed, total, traces}
use Rattle.settings.specs.declared.refusal.Refusal.TheVariants.{NoTrace, Lengths, Counts, Coordinate, Timestamp, PartlyTimed, TimeOrder, CoordinateSize, TimeMark}
use Rattle.settings.specs.Checks.{Checked, refuse_if, first_of, in_turn, each_of, each_from}
use Rattle.checks.specs.Traces.{finite_point, finite_time, check_fix, untimed, partly_timed, above, above_first, in_time_order, check_times, check_trace, check_fix_size, check_size}
use Rattle.trace.specs.WithoutEmpty.{without_empty, counted_anew}
use Rattle.checks.specs.Recounted.{Recounted}
use Rattle.checks.specs.Tracks.{same_lengths, check_lengths, check_counts, check_work, check_mark, check_contents, check_tracks}

-- The answer to x, times, marks and trace lengths; every y is 0.
check : List Float → List Float → List ℕ → List ℕ → Checked
unfolding check_tracks check_lengths same_lengths total check_counts check_work check_contents check_mark traces fixes check_trace check_fix finite_point
    finite_time finite check_times partly_timed timed untimed in_time_order above_first above lt check_size check_fix_size in_limit within in_turn first_of
    refuse_if each_of each_from of_int of_bits
check xs ts ms lens = check_tracks xs (replicate (length xs) zero64) ts ms lens (length xs) 4 100 100

abbrev w : ℕ → Float
w = whole64

-- (0,0) twice at times 10 and 9; at equal times; one timed; none timed, with values that are not read
falling : check (w 0 ∷ w 0 ∷ []) (w 10 ∷ w 9 ∷ []) (1 ∷ 1 ∷ []) (2 ∷ []) ≡ Err (TimeOrder 0)
unfolding check
falling = refl

level : check (w 0 ∷ w 0 ∷ []) (w 9 ∷ w 9 ∷ []) (1 ∷ 1 ∷ []) (2 ∷ []) ≡ Ok tt
unfolding check
level = refl

one_timed : check (w 0 ∷ w 0 ∷ []) (w 9 ∷ w 10 ∷ []) (0 ∷ 1 ∷ []) (2 ∷ []) ≡ Err (PartlyTimed 0)
unfolding check
one_timed = refl

unread : check (w 0 ∷ w 0 ∷ []) (nan ∷ infinity64 ∷ []) (0 ∷ 0 ∷ []) (2 ∷ []) ≡ Ok tt
unfolding check
unread = refl

-- 12 comes before 13 at one fix, and 13 before a later fix's 12
point_first : check (nan ∷ []) (nan ∷ []) (1 ∷ []) (1 ∷ []) ≡ Err (Coordinate 0)
unfolding check
point_first = refl

fix_by_fix : check (w 0 ∷ nan ∷ []) (infinity64 ∷ w 0 ∷ []) (1 ∷ 1 ∷ []) (2 ∷ []) ≡ Err (Timestamp 0)
unfolding check
fix_by_fix = refl

-- a size of exactly 10^9 is accepted
at_limit : check (w 1000000000 ∷ []) (w 0 ∷ []) (0 ∷ []) (1 ∷ []) ≡ Ok tt
unfolding check
at_limit = refl

-- 16 comes after a later trace's 15, with the first trace that has it
not_hidden : check (w 1000000001 ∷ w 0 ∷ w 0 ∷ []) (w 0 ∷ w 10 ∷ w 9 ∷ []) (0 ∷ 1 ∷ 1 ∷ []) (1 ∷ 2 ∷ []) ≡ Err (TimeOrder 1)
unfolding check
not_hidden = refl

first_far : check (w 0 ∷ w 1000000001 ∷ w 1000000001 ∷ []) (w 0 ∷ w 0 ∷ w 0 ∷ []) (0 ∷ 0 ∷ 0 ∷ []) (1 ∷ 1 ∷ 1 ∷ []) ≡ Err (CoordinateSize 1)
unfolding check
first_far = refl

-- 17 comes before 12
mark_first : check (nan ∷ []) (w 0 ∷ []) (2 ∷ []) (0 ∷ 1 ∷ []) ≡ Err TimeMark
unfolding check
mark_first = refl

-- lengths that do not sum up, even past a word
past_word : check (w 0 ∷ []) (w 0 ∷ []) (0 ∷ []) (18446744073709551616 ∷ 1 ∷ []) ≡ Err Lengths
unfolding check
past_word = refl

none : check [] [] [] [] ≡ Err NoTrace
unfolding check
none = refl

-- ---- empty traces

-- (0,0) twice at times 9 and 10, with an empty trace in front and two in a row behind it
empty_around : check (w 0 ∷ w 0 ∷ []) (w 9 ∷ w 10 ∷ []) (1 ∷ 1 ∷ []) (0 ∷ 2 ∷ 0 ∷ 0 ∷ []) ≡ Ok tt
unfolding check
empty_around = refl

-- A refusal's trace number counts the empty ones: 12, 15 and 16 of the trace behind two others, of which one or both are empty
counted_12 : check (w 0 ∷ nan ∷ []) (w 0 ∷ w 0 ∷ []) (0 ∷ 0 ∷ []) (1 ∷ 0 ∷ 1 ∷ []) ≡ Err (Coordinate 2)
unfolding check
counted_12 = refl

counted_15 : check (w 0 ∷ w 0 ∷ []) (w 10 ∷ w 9 ∷ []) (1 ∷ 1 ∷ []) (0 ∷ 0 ∷ 2 ∷ []) ≡ Err (TimeOrder 2)
unfolding check
counted_15 = refl

counted_16 : check (w 0 ∷ w 1000000001 ∷ []) (w 0 ∷ w 0 ∷ []) (0 ∷ 0 ∷ []) (0 ∷ 1 ∷ 1 ∷ []) ≡ Err (CoordinateSize 2)
unfolding check
counted_16 = refl

-- A list of only empty traces passes all checks; 7 is for no trace at all. They count for the limit of 256.
only_empty : check [] [] [] (0 ∷ 0 ∷ []) ≡ Ok tt
unfolding check
only_empty = refl

most_empty : check [] [] [] (replicate 256 0) ≡ Ok tt
unfolding check
most_empty = refl

too_many_empty : check (w 0 ∷ []) (w 0 ∷ []) (0 ∷ []) (1 ∷ replicate 256 0) ≡ Err Counts
unfolding check
too_many_empty = refl

-- ---- what `Recounted` rules out: a trace that is not counted anew, one that nobody walked, another number

uncounted : Recounted (0 ∷ 2 ∷ []) (TimeOrder 1) (TimeOrder 1) → ⊥
unfolding counted_anew without_empty
uncounted h = let z : ◌≡◌ {A = ℕ} 1 0 = h.trace in omega arith

nobody : Recounted (0 ∷ 2 ∷ []) (TimeOrder 0) (TimeOrder 0) → ⊥
nobody h = let z : 0 < 0 = h.walked (omega arith) (omega arith) in omega arith

another : Recounted (0 ∷ 2 ∷ []) (TimeOrder 1) (PartlyTimed 0) → ⊥
another h = let z : ◌≡◌ {A = ℕ} 14 15 = h.number in omega arith
