-- `checks::contents::each_trace` meets its contract. The invariant: the traces that are left, from number k on, have the first refusal of all.
use mathlib.Core.Path.{◌≡◌}
use mathlib.Core.List.{List}
use Prim.Native.Nat.{ℕ}
use Rattle.std.specs.Iterator.Adapters.{enumerate_source, enumerate_count}
use Rattle.trace.specs.Trace.{Fix}
use Rattle.trace.specs.declared.Trace.{Trace}
use Rattle.trace.specs.Given.{fixes_of, traces_of}
use Rattle.trace.specs.StepsTraces.{left}
use Rattle.settings.specs.Checks.{Checked, each_from}
use Rattle.checks.proofs.TraceLoops.{check_left}
use Rattle.checks.proofs.contents.each_trace.Given as goal

abbrev pub invariant-loop-k : goal.invariant-loop-k
invariant-loop-k g l =
    (h : ℕ → List Fix → Checked) → ((k : ℕ) (t : Trace) (r : Checked) → goal.F-post g l.check k t r → r ≡ h k (fixes_of t))
    → check_left h (enumerate_count l.k-iterator) (left (enumerate_source l.k-iterator)) ≡ each_from h 0 (traces_of l.t.tracks)
