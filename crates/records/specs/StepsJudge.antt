-- Serves the contracts of this crate's own functions; no public contract reaches it.
-- The machine that judges records one by one, as the code does, and the verdict on them. proofs/Judged.antt joins it to the checks of crate
-- `checks`. Definitions only.
use Rattle.std.specs.Prelude.{ℕ, suc, ◌+◌, ◌-◌, true, ◌&&◌, not, cond, List, [], ◌∷◌, eqb, leb, ltb, length, drop, get_or, Float, Option, None, Ok}
use Rattle.std.specs.Bool.{then_some}
use Rattle.std.specs.List.{prefix_len}
use Rattle.settings.specs.declared.config.Config.{Config}
use Rattle.settings.specs.declared.refusal.Refusal.TheVariants.{PartlyTimed, TimeOrder, TimeMark}
use Rattle.settings.specs.Checks.{Checked, refuse_if, first_of, in_turn}
use Rattle.settings.specs.Settings.{check_config}
use Rattle.trace.specs.StepsFixes.{given}
use Rattle.checks.specs.Traces.{above, check_fix, check_fix_size}
use Rattle.checks.specs.Tracks.{check_lengths, check_counts, check_work, check_tracks}
use Rattle.records.specs.declared.FixRecord.{FixRecord}
use Rattle.records.specs.declared.judge.Times.{Times}
use Rattle.records.specs.declared.judge.Judge.{Judge}
use Rattle.records.specs.Records.{fix_of, xs_of, ys_of, times_of, marks_of, work_floats}

-- ---- the times of the open trace

-- The time of a record, where its mark is 1.
abbrev pub marked_time : FixRecord → Option Float
marked_time f = then_some (eqb f.mark 1) f.time

-- Before the first fix.
unfoldable pub no_times : Times
no_times = record { timed = true; untimed = true; ordered = true; last = None }

-- After the next fix.
unfoldable pub with_time : Times → FixRecord → Times
with_time t f = record {
  timed = t.timed && eqb f.mark 1;
  untimed = t.untimed && not (eqb f.mark 1);
  ordered = t.ordered && not (above (given t.last) (given (marked_time f)));
  last = marked_time f;
}

-- 14, 15.
unfoldable pub times_checked : ℕ → Times → Checked
times_checked k t = first_of (refuse_if (not t.timed && not t.untimed) (PartlyTimed k)) (refuse_if (not t.ordered) (TimeOrder k))

-- ---- the machine

-- The first trace from k on that has a fix; where there is none, the number of traces.
unfoldable pub first_with_fix : List ℕ → ℕ → ℕ
first_with_fix lens k = k + prefix_len (λ (n : ℕ). eqb n 0) (drop k lens)

-- Trace k of n fixes is opened.
unfoldable pub begun : ℕ → ℕ → Judge → Judge
begun k n s = record { marks = s.marks; first = s.first; far = s.far; trace = k; left = n; times = no_times }

-- The first trace from k on that has a fix is opened. Where there is none, the machine goes to the end of the list; from there on it stays.
unfoldable pub opened : List ℕ → ℕ → Judge → Judge
opened lens k s = let j = first_with_fix lens k in cond (ltb k (length lens)) (begun j (get_or lens j 0) s) s

-- A fix of the open trace: 12, 13, and 16 apart.
unfoldable pub passed : FixRecord → Judge → Judge
passed f s = record {
  marks = s.marks && leb f.mark 1;
  first = first_of s.first (check_fix s.trace (fix_of f));
  far = first_of s.far (check_fix_size s.trace (fix_of f));
  trace = s.trace;
  left = s.left - 1;
  times = with_time s.times f;
}

-- The open trace is at its end: 14, 15.
unfoldable pub ended : Judge → Judge
ended s = record { marks = s.marks; first = first_of s.first (times_checked s.trace s.times); far = s.far; trace = s.trace; left = s.left; times = s.times }

-- The trace after the open one that has a fix.
unfoldable pub next : List ℕ → Judge → Judge
next lens s = opened lens (suc s.trace) s

-- Before the first record.
unfoldable pub blank : Judge
blank = record { marks = true; first = Ok tt; far = Ok tt; trace = 0; left = 0; times = no_times }

-- The first trace that has a fix is opened.
unfoldable pub started : List ℕ → Judge
started lens = opened lens 0 blank

-- One record: after the last of a trace the next one that has a fix is opened.
unfoldable pub stepped : List ℕ → Judge → FixRecord → Judge
stepped lens s f = let t = passed f s in cond (eqb t.left 0) (next lens (ended t)) t

-- All records.
unfoldable pub run : List ℕ → Judge → List FixRecord → Judge
run lens s [] = s
run lens s (f ∷ fs) = run lens (stepped lens s f) fs

-- ---- the verdict

-- 17, then 12 to 15, then 16.
unfoldable pub contents : Judge → Checked
contents s = first_of (refuse_if (not s.marks) TimeMark) (first_of s.first s.far)

-- 1 to 10, then what the machine says of the n records. The numbers are the lengths of the lent slices.
unfoldable pub checks_from : Config → Judge → ℕ → List ℕ → ℕ → ℕ → ℕ → ℕ → ℕ → ℕ → Checked
checks_from c s n lens labels cap columns marks floats words =
    in_turn
    (check_config c
    ∷ check_lengths lens n n n n labels
    ∷ check_counts (length lens) n cap
    ∷ check_work n cap (work_floats n columns marks floats) words
    ∷ contents s
    ∷ [])

-- The same by the checks of crate `checks`, over the records' columns.
unfoldable pub check_records : Config → List FixRecord → List ℕ → ℕ → ℕ → ℕ → ℕ → ℕ → ℕ → Checked
check_records c fs lens labels cap columns marks floats words =
    first_of (check_config c) (check_tracks (xs_of fs) (ys_of fs) (times_of fs) (marks_of fs) lens labels cap (work_floats (length fs) columns marks floats) words)
