-- The fit of records with empty traces is that of the records with the empty traces taken out of the list; a list of only empty traces is 18.
use mathlib.Core.Path.{◌≡◌}
use mathlib.Core.List.{List, []}
use Prim.Native.Nat.{ℕ, ◌*◌, ◌<◌, ◌≤◌}
use native.Mathlib.Omega.{arith}
use borrow.Author.Tests.{le-leb}
use lib.ListN.{length}
use Rattle.std.specs.Prelude.{Ok}
use Rattle.settings.specs.declared.config.Config.{Config}
use Rattle.settings.specs.declared.refusal.Refusal.TheVariants.{NoStop}
use Rattle.settings.specs.Settings.{check_config}
use Rattle.trace.specs.Trace.{total}
use Rattle.trace.specs.WithoutEmpty.{without_empty}
use Rattle.infostop.specs.Fit.{refused}
use Rattle.infostop.specs.SameOutcome.{SameOutcome}
use Rattle.infostop.proofs.WithoutEmpty.{without_empty_lem, only_empty}
use Rattle.records.specs.declared.FixRecord.{FixRecord}
use Rattle.records.specs.Records.{xs_of, ys_of, times_of, marks_of, room_for, work_floats, fit_records}

-- Somebody walked, and the limit of 256 traces says the same of both lists.
pub records_without_empty : (c : Config) (fs : List FixRecord) (lens : List ℕ) (labels cap columns marks floats words : ℕ) → 0 < total lens
    → (256 < length lens → 256 < length (without_empty lens))
    → SameOutcome lens (fit_records c fs lens labels cap columns marks floats words) (fit_records c fs (without_empty lens) labels cap columns marks floats words)
unfolding fit_records
records_without_empty c fs lens labels cap columns marks floats words some same =
    without_empty_lem c (xs_of fs) (ys_of fs) (times_of fs) (marks_of fs) lens labels cap (work_floats (length fs) columns marks floats) words some same

-- Nobody walked, the settings are accepted, there are at most 256 traces, `places` is from 1 to 512, and the lent slices are long enough.
pub records_only_empty : (c : Config) (lens : List ℕ) (cap columns marks floats words : ℕ) → check_config c ≡ Ok tt → 0 < length lens → length lens ≤ 256
    → total lens ≡ 0 → 1 ≤ cap → cap ≤ 512 → cap * cap ≤ floats → 8 * cap ≤ words → fit_records c [] lens 0 cap columns marks floats words ≡ refused NoStop
unfolding fit_records work_floats room_for
records_only_empty c lens cap columns marks floats words settings some few none a b f w =
    rw (le-leb (3 * 0) columns (omega arith), le-leb 0 marks (omega arith)) (only_empty c lens cap floats words settings some few none a b f w)
