-- The machine over all records says what the checks of crate `checks` say of their columns: 17, then 12 to 15 trace by trace, then 16.
use mathlib.Core.Path.{◌≡◌, refl, sym, ap, ap₂, ◌∙◌}
use mathlib.Core.Bool.{Bool, true, false, not, ◌&&◌, cond}
use mathlib.Core.List.{List, [], ◌∷◌, map}
use mathlib.Core.Option.{Option}
use Prim.Native.Nat.{ℕ, suc, ◌-◌}
use borrow.Author.Tests.{le-leb, lt-leb, ltb-true, ltb-false}
use lib.Dec.{eqb, leb, ltb}
use lib.ListN.{length, get_or, length-map}
use lib.Ieee.{Float}
use Rattle.trace.specs.Trace.{Fix, fixes, read_time, total, traces}
use Rattle.settings.specs.declared.config.Config.{Config}
use Rattle.settings.specs.declared.refusal.Refusal.TheVariants.{TimeMark}
use Rattle.std.specs.Prelude.{Ok, Err}
use Rattle.settings.specs.Checks.{Checked, refuse_if, first_of, in_turn, each_of, each_from}
use Rattle.settings.specs.Settings.{check_config}
use Rattle.checks.specs.Traces.{check_trace, check_size}
use Rattle.checks.specs.Tracks.{check_lengths, check_counts, check_work, check_mark, check_contents, check_tracks}
use Rattle.trace.proofs.Fixes.{as_read}
use Rattle.settings.proofs.Turns.{first_alone}
use Rattle.checks.proofs.Lengths.{lengths_agree}
use Rattle.records.specs.declared.FixRecord.{FixRecord}
use Rattle.records.specs.declared.judge.Judge.{Judge}
use Rattle.records.specs.Records.{fix_of, xs_of, ys_of, times_of, marks_of, work_floats}
use Rattle.records.specs.StepsJudge.{first_with_fix, begun, opened, passed, ended, next, blank, started, stepped, run, contents, checks_from, check_records}
use Rattle.records.proofs.Machine.{assoc, verdict, Rest, opening, told}

-- ---- 12 to 16 of all records

traces_told : (lens : List ℕ) (fs : List FixRecord) → total lens ≡ length fs
    → verdict lens (run lens (started lens) fs) ≡ first_of (each_from check_trace 0 (traces lens (map fix_of fs))) (each_from check_size 0 (traces lens (map fix_of fs)))
unfolding started
traces_told lens fs l = opening lens fs blank 0 l (told lens fs) ∙ (unfold Rest blank first_of in refl)

-- ---- 17

mark_one : (b : Bool) (m : ℕ) → refuse_if (not (b && leb m 1)) TimeMark ≡ first_of (refuse_if (not b) TimeMark) (check_mark m)
unfolding check_mark refuse_if first_of
mark_one false m = refl
mark_one true m = go (ltb 1 m) refl
  where
    go : (c : Bool) → ltb 1 m ≡ c → refuse_if (not (leb m 1)) TimeMark ≡ refuse_if (ltb 1 m) TimeMark
    go true e = rw (e, lt-leb m 1 (ltb-true 1 m e))
    go false e = rw (e, le-leb m 1 (ltb-false 1 m e))

module _ (lens : List ℕ) where
  mark_opened : (k : ℕ) (s : Judge) → (opened lens k s).marks ≡ s.marks
  unfolding opened begun
  mark_opened k s = go (ltb k (length lens))
    where
      go : (b : Bool) → (cond b (begun (first_with_fix lens k) (get_or lens (first_with_fix lens k) 0) s) s).marks ≡ s.marks
      go true = refl
      go false = refl

  mark_step : (s : Judge) (f : FixRecord) → (stepped lens s f).marks ≡ (s.marks && leb f.mark 1)
  unfolding stepped passed next ended
  mark_step s f = go (eqb (s.left - 1) 0)
    where
      go : (b : Bool) → (cond b (next lens (ended (passed f s))) (passed f s)).marks ≡ (s.marks && leb f.mark 1)
      go false = refl
      go true = mark_opened (suc s.trace) (ended (passed f s))

  marks_told : (fs : List FixRecord) (s : Judge)
      → refuse_if (not (run lens s fs).marks) TimeMark ≡ first_of (refuse_if (not s.marks) TimeMark) (each_of check_mark (marks_of fs))
  unfolding run each_of
  marks_told [] s = sym (first_alone (refuse_if (not s.marks) TimeMark))
  marks_told (f ∷ fs) s =
      marks_told fs (stepped lens s f)
      ∙ ap (λ (b : Bool). first_of (refuse_if (not b) TimeMark) (each_of check_mark (marks_of fs))) (mark_step s f)
      ∙ ap (λ (c : Checked). first_of c (each_of check_mark (marks_of fs))) (mark_one s.marks f.mark)
      ∙ assoc (refuse_if (not s.marks) TimeMark) (check_mark f.mark) (each_of check_mark (marks_of fs))

-- ---- all

-- The fixes of the columns are those of the records.
pub fixes_are : (fs : List FixRecord) → fixes (xs_of fs) (ys_of fs) (times_of fs) (marks_of fs) ≡ map fix_of fs
unfolding fixes
fixes_are [] = refl
fixes_are (f ∷ fs) = ap₂ (λ (t : Option Float) (z : List Fix). record { at = f.at; time = t } ∷ z) (as_read f.mark f.time refl) (fixes_are fs)

all_marks : (lens : List ℕ) (fs : List FixRecord) → refuse_if (not (run lens (started lens) fs).marks) TimeMark ≡ each_of check_mark (marks_of fs)
unfolding started
all_marks lens fs =
    marks_told lens fs (opened lens 0 blank)
    ∙ ap (λ (b : Bool). first_of (refuse_if (not b) TimeMark) (each_of check_mark (marks_of fs))) (mark_opened lens 0 blank)
    ∙ (unfold blank refuse_if first_of in refl)

contents_told : (lens : List ℕ) (fs : List FixRecord) → total lens ≡ length fs
    → contents (run lens (started lens) fs) ≡ check_contents (xs_of fs) (ys_of fs) (times_of fs) (marks_of fs) lens
unfolding contents check_contents in_turn verdict
contents_told lens fs l =
    ap₂ first_of (all_marks lens fs) (traces_told lens fs l) ∙ rw (fixes_are fs, first_alone (each_from check_size 0 (traces lens (map fix_of fs))))

in_turn_lem : (a b c d x y : Checked) → (b ≡ Ok tt → x ≡ y) → in_turn (a ∷ b ∷ c ∷ d ∷ x ∷ []) ≡ first_of a (in_turn (b ∷ c ∷ d ∷ y ∷ []))
unfolding in_turn first_of
in_turn_lem a (Err e) c d x y h = refl
in_turn_lem a (Ok u) c d x y h = rw (h refl)

-- What the code decides is what the checks of the fit say of the records.
pub checks_told : (c : Config) (fs : List FixRecord) (lens : List ℕ) (labels cap columns marks floats words : ℕ)
    → checks_from c (run lens (started lens) fs) (length fs) lens labels cap columns marks floats words ≡ check_records c fs lens labels cap columns marks floats words
unfolding checks_from check_records check_tracks
checks_told c fs lens labels cap columns marks floats words =
    rw (
      length-map fs (λ (f : FixRecord). f.at.x),
      length-map fs (λ (f : FixRecord). f.at.y),
      length-map fs (λ (f : FixRecord). read_time f.mark
          f.time),
      length-map fs (λ (f : FixRecord). f.mark),
    )
    (in_turn_lem (check_config c) (check_lengths lens n n n n labels) (check_counts (length lens) n cap) (check_work n cap (work_floats n columns marks floats)
    words) (contents (run lens (started lens) fs)) (check_contents (xs_of fs) (ys_of fs) (times_of fs) (marks_of fs) lens)
    (λ h. let w = lengths_agree lens n n n n labels h in contents_told lens fs w.sum))
  where
    n : ℕ
    n = length fs
