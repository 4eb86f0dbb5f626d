-- The machine's state in plain numbers, each refusal by its number and its trace: nothing is lost.
use mathlib.Core.Path.{◌≡◌, refl, ap₂}
use mathlib.Core.Bool.{Bool, true, false, cond}
use mathlib.Core.List.{List, [], ◌∷◌}
use Prim.Native.Nat.{ℕ, suc}
use lib.Dec.{eqb, ltb}
use lib.ListN.{length, get_or}
use Rattle.std.specs.Prelude.{Ok, Err}
use Rattle.trace.specs.Trace.{Fix}
use Rattle.settings.specs.declared.refusal.Refusal.{Refusal}
use Rattle.settings.specs.declared.refusal.Refusal.TheVariants.{Coordinate, Timestamp, PartlyTimed, TimeOrder, CoordinateSize}
use Rattle.settings.specs.Refusals.{number_of, trace_of}
use Rattle.settings.specs.Checks.{Checked, refuse_if, first_of, in_turn}
use Rattle.checks.specs.Traces.{check_fix, check_fix_size}
use Rattle.records.specs.declared.FixRecord.{FixRecord}
use Rattle.records.specs.declared.judge.Times.{Times}
use Rattle.records.specs.declared.judge.Judge.{Judge}
use Rattle.records.specs.Records.{fix_of}
use Rattle.records.specs.StepsJudge.{times_checked, first_with_fix, begun, opened, passed, ended, next, blank, started, stepped, run}

-- The number of a refusal; 0 where there is none.
abbrev pub number_in : Checked → ℕ
number_in (Ok u) = 0
number_in (Err e) = number_of e

-- Its trace likewise.
abbrev pub trace_in : Checked → ℕ
trace_in (Ok u) = 0
trace_in (Err e) = trace_of e

-- The refusals of a trace from their numbers.
unfoldable pub checked_of : ℕ → ℕ → Checked
checked_of n k =
    cond (eqb n 12) (Err (Coordinate k))
    (cond (eqb n 13) (Err (Timestamp k))
    (cond (eqb n 14) (Err (PartlyTimed k))
    (cond (eqb n 15) (Err (TimeOrder k))
    (cond (eqb n 16) (Err (CoordinateSize k)) (Ok tt)))))

-- What `Judge` holds, with refusals by number and trace.
pub record Packed : Type 0 where
  pub marks : Bool
  pub first : ℕ
  pub first_trace : ℕ
  pub far : ℕ
  pub far_trace : ℕ
  pub trace : ℕ
  pub left : ℕ
  pub times : Times

unfoldable pub packed : Judge → Packed
packed s = record {
  marks = s.marks;
  first = number_in s.first;
  first_trace = trace_in s.first;
  far = number_in s.far;
  far_trace = trace_in s.far;
  trace = s.trace;
  left = s.left;
  times = s.times;
}

-- The way back.
unfoldable pub unpacked : Packed → Judge
unpacked p = record { marks = p.marks; first = checked_of p.first p.first_trace; far = checked_of p.far p.far_trace; trace = p.trace; left = p.left; times = p.times }

-- A check's answer that number and trace tell.
Known : Checked → Type 0
Known c = checked_of (number_in c) (trace_in c) ≡ c

known_if : (b : Bool) (e : Refusal) → Known (Err e) → Known (refuse_if b e)
unfolding refuse_if
known_if true e h = h
known_if false e h = unfold Known checked_of in refl

known_first : (c d : Checked) → Known c → Known d → Known (first_of c d)
unfolding first_of
known_first (Ok u) d p q = q
known_first (Err e) d p q = p

module _ (k : ℕ) where
  known_fix : (g : Fix) → Known (check_fix k g)
  unfolding Known checked_of check_fix in_turn
  known_fix g = known_first _ _ (known_if _ (Coordinate k) refl) (known_first _ _ (known_if _ (Timestamp k) refl) refl)

  known_times : (t : Times) → Known (times_checked k t)
  unfolding Known checked_of times_checked
  known_times t = known_first _ _ (known_if _ (PartlyTimed k) refl) (known_if _ (TimeOrder k) refl)

  known_size : (g : Fix) → Known (check_fix_size k g)
  unfolding Known checked_of check_fix_size
  known_size g = known_if _ (CoordinateSize k) refl

-- A state whose refusals number and trace tell.
record Told (s : Judge) : Type 0 where
  pub first : Known s.first
  pub far : Known s.far

back : (s : Judge) → Told s → unpacked (packed s) ≡ s
unfolding packed unpacked Known
back s h = ap₂ (λ (a b : Checked). record { marks = s.marks; first = a; far = b; trace = s.trace; left = s.left; times = s.times }) h.first h.far

module _ (lens : List ℕ) where
  told_begun : (k n : ℕ) (s : Judge) → Told s → Told (begun k n s)
  unfolding begun
  told_begun k n s h = record { first = h.first; far = h.far }

  told_opened : (k : ℕ) (s : Judge) → Told s → Told (opened lens k s)
  unfolding opened
  told_opened k s h = go (ltb k (length lens))
    where
      go : (b : Bool) → Told (cond b (begun (first_with_fix lens k) (get_or lens (first_with_fix lens k) 0) s) s)
      go true = told_begun _ _ s h
      go false = h

  told_ended : (s : Judge) → Told s → Told (ended s)
  unfolding ended
  told_ended s h = record { first = known_first _ _ h.first (known_times s.trace s.times); far = h.far }

  told_passed : (f : FixRecord) (s : Judge) → Told s → Told (passed f s)
  unfolding passed
  told_passed f s h = record { first = known_first _ _ h.first (known_fix s.trace (fix_of f)); far = known_first _ _ h.far (known_size s.trace (fix_of f)) }

  told_next : (s : Judge) → Told s → Told (next lens s)
  unfolding next
  told_next s h = told_opened (suc s.trace) s h

  told_step : (s : Judge) (f : FixRecord) → Told s → Told (stepped lens s f)
  unfolding stepped
  told_step s f h = go (eqb (passed f s).left 0)
    where
      go : (b : Bool) → Told (cond b (next lens (ended (passed f s))) (passed f s))
      go true = told_next _ (told_ended _ (told_passed f s h))
      go false = told_passed f s h

  told_run : (fs : List FixRecord) (s : Judge) → Told s → Told (run lens s fs)
  unfolding run
  told_run [] s h = h
  told_run (f ∷ fs) s h = told_run fs (stepped lens s f) (told_step s f h)

  told_start : Told (started lens)
  unfolding started blank
  told_start = told_opened 0 blank (record { first = unfold Known checked_of in refl; far = unfold Known checked_of in refl })

  -- After any records.
  pub unpacked_all : (fs : List FixRecord) → unpacked (packed (run lens (started lens) fs)) ≡ run lens (started lens) fs
  unpacked_all fs = back (run lens (started lens) fs) (told_run fs (started lens) told_start)
