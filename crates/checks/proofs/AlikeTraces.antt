-- The checks of tracks, part by part, and checks that answer alike (settings/proofs/Alike.antt): each with itself, and those of one trace with the same of a trace of another number.
use mathlib.Core.Path.{◌≡◌, refl}
use mathlib.Core.Bool.{true, false}
use mathlib.Core.List.{List}
use Prim.Native.Nat.{ℕ}
use Rattle.trace.specs.Trace.{Fix}
use Rattle.settings.specs.declared.refusal.Refusal.{Refusal}
use Rattle.settings.specs.declared.refusal.Refusal.TheVariants.{NoTrace, Lengths, Counts, Work, Coordinate, Timestamp, PartlyTimed, TimeOrder, CoordinateSize, TimeMark}
use Rattle.settings.specs.Refusals.{number_of, trace_of}
use Rattle.settings.specs.Checks.{each_of}
use Rattle.settings.proofs.RefusalNumbers.{early, in_traces}
use Rattle.settings.proofs.Alike.{Alike, alike_if, alike_turn, alike_end, alike_each, alike_plain}
use Rattle.checks.specs.Traces.{check_fix, check_times, check_trace, check_fix_size, check_size}
use Rattle.checks.specs.Tracks.{check_lengths, check_counts, check_work, check_mark}

module _ (R : Refusal → Refusal → Type 0) where
  -- A relation that joins every refusal that comes before stays are looked for, and is about no trace, with itself.
  module _ (same : (e : Refusal) → in_traces e ≡ false → early e ≡ true → R e e) where
    pub alike_lengths : (lens : List ℕ) (n ys ts ms labels : ℕ) → Alike R (check_lengths lens n ys ts ms labels) (check_lengths lens n ys ts ms labels)
    unfolding check_lengths
    alike_lengths lens n ys ts ms labels =
        alike_turn R _ _ _ _ (alike_plain R same _ NoTrace refl refl)
        (alike_turn R _ _ _ _ (alike_plain R same _ Lengths refl refl) (alike_end R))

    pub alike_counts : (traces n places : ℕ) → Alike R (check_counts traces n places) (check_counts traces n places)
    unfolding check_counts
    alike_counts traces n places = alike_plain R same _ Counts refl refl

    pub alike_work : (n places floats words : ℕ) → Alike R (check_work n places floats words) (check_work n places floats words)
    unfolding check_work
    alike_work n places floats words = alike_plain R same _ Work refl refl

    pub alike_marks : (ms : List ℕ) → Alike R (each_of check_mark ms) (each_of check_mark ms)
    unfolding check_mark
    alike_marks ms = alike_each R _ _ (λ m. alike_plain R same _ TimeMark refl refl) ms

  -- A relation that joins each refusal of trace k with that of trace j.
  module _ (k j : ℕ) (named : (e e' : Refusal) → number_of e' ≡ number_of e → trace_of e ≡ k → trace_of e' ≡ j → in_traces e ≡ true → R e e') where
    alike_fix : (f : Fix) → Alike R (check_fix k f) (check_fix j f)
    unfolding check_fix
    alike_fix f =
        alike_turn R _ _ _ _ (alike_if R _ _ _ (named (Coordinate k) (Coordinate j) refl refl refl refl))
        (alike_turn R _ _ _ _ (alike_if R _ _ _ (named (Timestamp k) (Timestamp j) refl refl refl refl)) (alike_end R))

    alike_times : (t : List Fix) → Alike R (check_times k t) (check_times j t)
    unfolding check_times
    alike_times t =
        alike_turn R _ _ _ _ (alike_if R _ _ _ (named (PartlyTimed k) (PartlyTimed j) refl refl refl refl))
        (alike_turn R _ _ _ _ (alike_if R _ _ _ (named (TimeOrder k) (TimeOrder j) refl refl refl refl)) (alike_end R))

    pub alike_trace : (t : List Fix) → Alike R (check_trace k t) (check_trace j t)
    unfolding check_trace
    alike_trace t = alike_turn R _ _ _ _ (alike_each R (check_fix k) (check_fix j) alike_fix t) (alike_turn R _ _ _ _ (alike_times t) (alike_end R))

    pub alike_size : (t : List Fix) → Alike R (check_size k t) (check_size j t)
    unfolding check_size check_fix_size
    alike_size t = alike_each R _ _ (λ f. alike_if R _ _ _ (named (CoordinateSize k) (CoordinateSize j) refl refl refl refl)) t
