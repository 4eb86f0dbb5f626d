-- The checks of settings and tracks refuse before stays are looked for: with neither 18 nor 19.
use mathlib.Core.Path.{◌≡◌, refl}
use mathlib.Core.Bool.{Bool, true, false}
use mathlib.Core.List.{List}
use Prim.Native.Nat.{ℕ, ◌≤◌}
use native.Mathlib.Omega.{arith}
use borrow.Author.Tests.{leb-true, ne_eqb}
use lib.Dec.{leb}
use lib.ListN.{length}
use lib.Ieee.{Float}
use Rattle.lists.proofs.Tests.{and_right}
use Rattle.trace.specs.Trace.{fixes, traces}
use Rattle.settings.specs.declared.config.Config.{Config}
use Rattle.settings.specs.declared.refusal.Refusal.{Refusal}
use Rattle.std.specs.Prelude.{Ok, Err}
use Rattle.settings.specs.Refusals.{number_of, trace_of}
use Rattle.settings.specs.Checks.{Checked}
use Rattle.settings.proofs.RefusalNumbers.{early, in_traces}
use Rattle.settings.proofs.Alike.{Alike, alike_first, alike_turn, alike_end, alike_from, alike_config}
use Rattle.checks.specs.Traces.{check_trace, check_size}
use Rattle.checks.specs.Tracks.{check_contents, check_tracks}
use Rattle.checks.proofs.AlikeTraces.{alike_lengths, alike_counts, alike_work, alike_marks, alike_trace, alike_size}
use Rattle.records.specs.declared.FixRecord.{FixRecord}
use Rattle.records.specs.Records.{xs_of, ys_of, times_of, marks_of}
use Rattle.records.specs.StepsJudge.{check_records}

-- A refusal, if there is one, is neither 18 nor 19.
abbrev pub early_in : Checked → Bool
early_in (Ok u) = true
early_in (Err e) = early e

-- The relation of a check with itself in which that is said.
abbrev Early : Refusal → Refusal → Type 0
Early e d = early e ≡ true

said : (c : Checked) → Alike Early c c → early_in c ≡ true
said (Ok u) h = refl
said (Err e) h = h

plain : (e : Refusal) → in_traces e ≡ false → early e ≡ true → Early e e
plain e n h = h

of_trace : (k : ℕ) (e d : Refusal) → number_of d ≡ number_of e → trace_of e ≡ k → trace_of d ≡ k → in_traces e ≡ true → Early e d
of_trace k e d n t u h =
    let most : number_of e ≤ 16 = leb-true (number_of e) 16 (and_right (leb 12 (number_of e)) (leb (number_of e) 16) h) in
    rw (ne_eqb (number_of e) 18 (λ q. omega arith), ne_eqb (number_of e) 19 (λ q. omega arith)) refl

early_tracks : (xs ys ts : List Float) (ms lens : List ℕ) (labels cap floats words : ℕ)
    → Alike Early (check_tracks xs ys ts ms lens labels cap floats words) (check_tracks xs ys ts ms lens labels cap floats words)
unfolding check_tracks check_contents
early_tracks xs ys ts ms lens labels cap floats words =
    alike_turn Early _ _ _ _ (alike_lengths Early plain lens (length xs) (length ys) (length ts) (length ms) labels)
    (alike_turn Early _ _ _ _ (alike_counts Early plain (length lens) (length xs) cap)
    (alike_turn Early _ _ _ _ (alike_work Early plain (length xs) cap floats words)
    (alike_turn Early _ _ _ _
    (alike_turn Early _ _ _ _ (alike_marks Early plain ms)
    (alike_turn Early _ _ _ _ (alike_from Early check_trace check_trace (λ k t. alike_trace Early k k (of_trace k) t) 0 (traces lens (fixes xs ys ts ms)))
    (alike_turn Early _ _ _ _ (alike_from Early check_size check_size (λ k t. alike_size Early k k (of_trace k) t) 0 (traces lens (fixes xs ys ts ms))) (alike_end Early))))
    (alike_end Early))))

pub early_records : (c : Config) (fs : List FixRecord) (lens : List ℕ) (labels cap columns marks floats words : ℕ)
    → early_in (check_records c fs lens labels cap columns marks floats words) ≡ true
unfolding check_records
early_records c fs lens labels cap columns marks floats words =
    said _
    (alike_first Early _ _ _ _ (alike_config Early plain c) (early_tracks (xs_of fs) (ys_of fs) (times_of fs) (marks_of fs) lens labels cap _ words))
