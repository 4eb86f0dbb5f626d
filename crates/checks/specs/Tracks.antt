-- The checks of tracks: the rules' refusals 7 to 17, in the order that they give. Tracks are columns of coordinates, times and time marks,
-- and the lengths of the traces. Definitions only.
use Rattle.std.specs.Prelude.{ℕ, ◌+◌, ◌*◌, Bool, not, ◌&&◌, ◌||◌, List, [], ◌∷◌, eqb, ltb, length, Float}
use Rattle.trace.specs.Trace.{total, traces, fixes}
use Rattle.settings.specs.declared.refusal.Refusal.TheVariants.{NoTrace, Lengths, Counts, Work, TimeMark}
use Rattle.settings.specs.Checks.{Checked, refuse_if, in_turn, each_of, each_from}
use Rattle.checks.specs.Traces.{check_trace, check_size}

-- The lengths of the fix slices and of the label slice.
unfoldable pub same_lengths : ℕ → ℕ → ℕ → ℕ → ℕ → Bool
same_lengths n ys ts ms labels = eqb ys n && eqb ts n && eqb ms n && eqb labels n

-- 7, 8.
unfoldable pub check_lengths : List ℕ → ℕ → ℕ → ℕ → ℕ → ℕ → Checked
check_lengths lens n ys ts ms labels =
    in_turn
    (refuse_if (eqb (length lens) 0) NoTrace
    ∷ refuse_if (not (same_lengths n ys ts ms labels && eqb (total lens) n)) Lengths
    ∷ [])

-- 9.
unfoldable pub check_counts : ℕ → ℕ → ℕ → Checked
check_counts traces fixes places = refuse_if (ltb 256 traces || ltb 65536 fixes || eqb places 0 || ltb 512 places) Counts

-- 10: 4 × fixes + places² f64 and 4 × fixes + 8 × places 32-bit numbers.
unfoldable pub check_work : ℕ → ℕ → ℕ → ℕ → Checked
check_work fixes places floats words = refuse_if (ltb floats (4 * fixes + places * places) || ltb words (4 * fixes + 8 * places)) Work

-- 17, of one mark.
unfoldable pub check_mark : ℕ → Checked
check_mark m = refuse_if (ltb 1 m) TimeMark

-- 17 at all marks, then 12 to 15 trace by trace, then 16 trace by trace. A trace's number counts the empty ones.
unfoldable pub check_contents : List Float → List Float → List Float → List ℕ → List ℕ → Checked
check_contents xs ys ts ms lens =
    in_turn
    (each_of check_mark ms
    ∷ each_from check_trace 0 (traces lens (fixes xs ys ts ms))
    ∷ each_from check_size 0 (traces lens (fixes xs ys ts ms))
    ∷ [])

-- All in order, for a fit. `labels` is the length of the label slice, `floats` and `words` those of the work slices.
unfoldable pub check_tracks : List Float → List Float → List Float → List ℕ → List ℕ → ℕ → ℕ → ℕ → ℕ → Checked
check_tracks xs ys ts ms lens labels places floats words =
    in_turn
    (check_lengths lens (length xs) (length ys) (length ts) (length ms) labels
    ∷ check_counts (length lens) (length xs) places
    ∷ check_work (length xs) places floats words
    ∷ check_contents xs ys ts ms lens
    ∷ [])

-- For a report. It has neither a label slice nor `places`: their checks are passed over, and its work is 4 × fixes numbers of each kind.
unfoldable pub check_report_tracks : List Float → List Float → List Float → List ℕ → List ℕ → ℕ → ℕ → Checked
check_report_tracks xs ys ts ms lens floats words =
    in_turn
    (check_lengths lens (length xs) (length ys) (length ts) (length ms) (length xs)
    ∷ check_counts (length lens) (length xs) 1
    ∷ check_work (length xs) 0 floats words
    ∷ check_contents xs ys ts ms lens
    ∷ [])

-- For trace lengths and a label slice alone: 7, 8. There are no fix slices, so their lengths are passed over.
abbrev pub check_label_lengths : List ℕ → ℕ → Checked
check_label_lengths lens labels = check_lengths lens labels labels labels labels labels
