-- Serves the contracts of this crate's own functions; no public contract reaches it.
-- What the steps of the code work out. Definitions only.
use Rattle.std.specs.Prelude.{◌≡◌, ℕ, ◌*◌, List, ◌++◌, map, ℤ, length, take, Float, Ok}
use Rattle.std.specs.Float.{nan}
use Rattle.settings.specs.declared.config.Config.{Config}
use Rattle.trace.specs.Trace.{traces}
use Rattle.infostop.specs.declared.model.Infostop.{Infostop}
use Rattle.infostop.specs.declared.answer.Fit.{Fit}
use Rattle.infostop.specs.Ends.{Promised}
use Rattle.records.specs.declared.FixRecord.{FixRecord}
use Rattle.records.specs.Records.{fix_of, xs_of, ys_of, times_of, marks_of, outcome_of}
use Rattle.records.specs.StepsJudge.{check_records}

-- What stands past the end of a list of records.
unfoldable pub no_record : FixRecord
no_record = record { at = record { x = nan; y = nan }; time = nan; mark = 0 }

-- The records fs, n of them, pass, and the slices hold their columns and marks.
pub record Ready (c : Config) (fs : List FixRecord) (lens : List ℕ) (labels cap floats words : ℕ) (n : ℕ) (columns : List Float) (marks : List ℕ) : Type 0 where
  pub passes : check_records c fs lens labels cap (length columns) (length marks) floats words ≡ Ok tt
  pub count : n ≡ length fs
  pub columns_hold : take (3 * length fs) columns ≡ xs_of fs ++ (ys_of fs ++ times_of fs)
  pub marks_hold : take (length fs) marks ≡ marks_of fs

-- The promise of the fit of records, for whatever n records stand judged and taken apart in these slices.
abbrev pub ReadyFitted : Infostop → ℕ → List ℕ → ℕ → List ℤ → List Float → List ℕ → List Float → List ℤ → Fit → List ℤ → List Float → List ℤ → Type 0
ReadyFitted m n lens cap labels columns marks floats words r labels' floats' words' =
    (fs : List FixRecord) → Ready m.config fs lens (length labels) cap (length floats) (length words) n columns marks
    → Promised m labels floats words (outcome_of m fs lens cap labels columns marks floats words) (traces lens (map fix_of fs)) r labels' floats' words'
