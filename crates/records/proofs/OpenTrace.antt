-- The times of an open trace: what the machine keeps of the fixes so far gives with those to come what the checks of crate `checks` say of all.
use mathlib.Core.Path.{◌≡◌, refl}
use mathlib.Core.Bool.{Bool, true, false, cond, not, ◌&&◌, and-true, and_assoc}
use mathlib.Core.List.{List, [], ◌∷◌}
use mathlib.Core.Option.{none, some}
use Rattle.std.specs.Bool.{then_some}
use Prim.Native.Nat.{ℕ}
use lib.Dec.{eqb}
use Rattle.trace.specs.Trace.{Fix, time_of, timed}
use Rattle.settings.specs.declared.refusal.Refusal.TheVariants.{PartlyTimed, TimeOrder}
use Rattle.settings.specs.Checks.{Checked, refuse_if, first_of, in_turn, each_of}
use Rattle.trace.specs.StepsFixes.{given}
use Rattle.checks.specs.Traces.{above, above_first, in_time_order, untimed, partly_timed, check_fix, check_times, check_trace}
use Rattle.trace.proofs.Fixes.{has_time_lem}
use Rattle.settings.proofs.Turns.{first_alone}
use Rattle.records.specs.declared.FixRecord.{FixRecord}
use Rattle.records.specs.declared.judge.Times.{Times}
use Rattle.records.specs.Records.{fix_of}
use Rattle.records.specs.StepsJudge.{marked_time, no_times, with_time, times_checked}

-- The time that the code hands over of a record is that of its fix.
pub given_marked : (f : FixRecord) → given (marked_time f) ≡ time_of f.mark f.time
unfolding given time_of
given_marked f = go (eqb f.mark 1)
  where
    go : (b : Bool) → given (then_some b f.time) ≡ cond b (some f.time) none
    go true = refl
    go false = refl

-- 14 and 15 of a trace that has the times t already, and the fixes ts to come.
unfoldable pub rest_times : ℕ → Times → List Fix → Checked
rest_times k t ts =
    first_of (refuse_if (not (t.timed && timed ts) && not (t.untimed && untimed ts)) (PartlyTimed k))
    (refuse_if (not (t.ordered && (not (above_first (given t.last) ts) && in_time_order ts))) (TimeOrder k))

pub rest_next : (k : ℕ) (t : Times) (f : FixRecord) (ts : List Fix) → rest_times k (with_time t f) ts ≡ rest_times k t (fix_of f ∷ ts)
unfolding rest_times with_time timed untimed in_time_order above_first
rest_next k t f ts = rw (
  has_time_lem f.mark f.time,
  given_marked f,
  and_assoc t.timed (eqb f.mark 1) (timed ts),
  and_assoc t.untimed (not (eqb f.mark 1)) (untimed ts),
  and_assoc t.ordered (not (above (given t.last) (time_of f.mark f.time))) (not (above_first (time_of f.mark f.time) ts) &&
      in_time_order ts),
)

pub rest_none : (k : ℕ) (t : Times) → rest_times k t [] ≡ times_checked k t
unfolding rest_times times_checked timed untimed in_time_order above_first
rest_none k t = rw (and-true t.timed, and-true t.untimed, and-true t.ordered)

rest_fresh : (k : ℕ) (ts : List Fix) → rest_times k no_times ts ≡ check_times k ts
unfolding rest_times no_times check_times partly_timed in_turn given
rest_fresh k ts = rw (untimed_first ts, first_alone (refuse_if (not (in_time_order ts)) (TimeOrder k)))
  where
    untimed_first : (us : List Fix) → above_first none us ≡ false
    untimed_first [] = unfold above_first in refl
    untimed_first (u ∷ us) = unfold above_first above in refl

-- 12 to 15.
unfoldable pub rest_trace : ℕ → Times → List Fix → Checked
rest_trace k t ts = first_of (each_of (check_fix k) ts) (rest_times k t ts)

pub trace_fresh : (k : ℕ) (ts : List Fix) → rest_trace k no_times ts ≡ check_trace k ts
unfolding rest_trace check_trace in_turn
trace_fresh k ts = rw (rest_fresh k ts, first_alone (check_times k ts))
