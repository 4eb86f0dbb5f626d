-- Records of fixes: what a list of them stands for, their columns, and the fit of them. Definitions only.
use Rattle.std.specs.Prelude.{◌≡◌, ℕ, ◌*◌, Bool, ◌&&◌, cond, List, ◌++◌, map, leb, ℤ, length, Float}
use Rattle.lists.specs.Lists.{overlay}
use Rattle.trace.specs.Trace.{Fix, time_of, read_time, traces}
use Rattle.settings.specs.declared.config.Config.{Config}
use Rattle.infostop.specs.Fit.{Outcome, fit}
use Rattle.infostop.specs.declared.model.Infostop.{Infostop}
use Rattle.infostop.specs.declared.answer.Fit.{Fit}
use Rattle.infostop.specs.Ends.{keeps_work, Promised}
use Rattle.records.specs.declared.FixRecord.{FixRecord}

-- The fix that a record stands for: it has a time where the mark is 1.
abbrev pub fix_of : FixRecord → Fix
fix_of f = record { at = f.at; time = time_of f.mark f.time }

-- The columns of a list of records: x, y, time and mark.
abbrev pub xs_of : List FixRecord → List Float
xs_of fs = map (λ (f : FixRecord). f.at.x) fs

abbrev pub ys_of : List FixRecord → List Float
ys_of fs = map (λ (f : FixRecord). f.at.y) fs

-- The value of a time whose mark is not 1 is not copied: 0.0 stands in its place.
abbrev pub times_of : List FixRecord → List Float
times_of fs = map (λ (f : FixRecord). read_time f.mark f.time) fs

abbrev pub marks_of : List FixRecord → List ℕ
marks_of fs = map (λ (f : FixRecord). f.mark) fs

-- Whether both slices, of these lengths, have room for n records.
unfoldable pub room_for : ℕ → ℕ → ℕ → Bool
room_for n columns marks = leb (3 * n) columns && leb n marks

-- Columns or marks that are too short count as a work slice that is: one of floats that has no number.
unfoldable pub work_floats : ℕ → ℕ → ℕ → ℕ → ℕ
work_floats n columns marks floats = cond (room_for n columns marks) floats 0

-- The fit of the records: 10 in the rules' order where columns or marks are too short. `labels`, `columns`, `marks`, `floats` and `words` are
-- the lengths of the lent slices.
unfoldable pub fit_records : Config → List FixRecord → List ℕ → ℕ → ℕ → ℕ → ℕ → ℕ → ℕ → Outcome
unfolding work_floats fit
fit_records c fs lens labels cap columns marks floats words =
    fit c (xs_of fs) (ys_of fs) (times_of fs) (marks_of fs) lens labels cap (work_floats (length fs) columns marks floats) words

-- How the slice of columns ends, o being the outcome: a refusal other than 18 and 19 leaves it as it was; else x, y and time of each record, column by column,
-- stand in front.
unfoldable pub taken : Outcome → List FixRecord → List Float → List Float
taken o fs columns = cond (keeps_work o) columns (overlay (xs_of fs ++ (ys_of fs ++ times_of fs)) columns)

-- The slice of marks likewise.
unfoldable pub marked : Outcome → List FixRecord → List ℕ → List ℕ
marked o fs marks = cond (keeps_work o) marks (overlay (marks_of fs) marks)

-- The outcome for a model and these lent slices.
abbrev pub outcome_of : Infostop → List FixRecord → List ℕ → ℕ → List ℤ → List Float → List ℕ → List Float → List ℤ → Outcome
outcome_of m fs lens cap labels columns marks floats words =
    fit_records m.config fs lens (length labels) cap (length columns) (length marks) (length floats) (length words)

-- What the fit of records ensures: all that the fit over slices promises of the records' fixes, and how columns and marks end.
abbrev pub RecordsFitted : Infostop → List FixRecord → List ℕ → ℕ → List ℤ → List Float → List ℕ → List Float → List ℤ
    → Fit → List ℤ → List Float → List ℕ → List Float → List ℤ → Type 0
RecordsFitted m fs lens cap labels columns marks floats words r labels' columns' marks' floats' words' =
    let o = outcome_of m fs lens cap labels columns marks floats words in
    Promised m labels floats words o (traces lens (map fix_of fs)) r labels' floats' words' × (columns' ≡ taken o fs columns) × (marks' ≡ marked o fs marks)
