-- A check at each trace, in a loop over the traces.
use mathlib.Core.Path.{◌≡◌}
use mathlib.Core.List.{List, [], ◌∷◌, map}
use Prim.Native.Nat.{ℕ, ◌+◌}
use native.Mathlib.Numerals.{add-one}
use Rattle.std.specs.Prelude.{Ok, Err}
use Rattle.settings.specs.declared.refusal.Refusal.{Refusal}
use Rattle.settings.specs.Checks.{Checked, first_of, each_from}
use Rattle.trace.specs.Trace.{Fix, traces}
use Rattle.trace.specs.StepsTraces.{placed}
use Rattle.trace.proofs.Placed.{placed_traces}

-- The check from trace k on, of the traces that are left.
abbrev pub check_left : (ℕ → List Fix → Checked) → ℕ → List (ℕ × List Fix) → Checked
check_left f k ps = each_from f k (map (λ (p : ℕ × List Fix). p.1) ps)

pub trace_first : (f : ℕ → List Fix → Checked) (lens : List ℕ) (fs : List Fix) (ps : List (ℕ × List Fix)) → ps ≡ placed 0 lens fs → check_left f 0 ps ≡ each_from f 0 (traces lens fs)
trace_first f lens fs ps e = rw (e, placed_traces 0 lens fs)

-- Trace k, which is trace j: where it is accepted those behind it decide, and where it is refused that is the answer.
module _ (f : ℕ → List Fix → Checked) (j k at : ℕ) (t : List Fix) (ps qs : List (ℕ × List Fix)) (e : qs ≡ (at, t) ∷ ps) (same : j ≡ k) where
  pub trace_accepted : (n : ℕ) (r : Checked) → n ≡ k + 1 → r ≡ f j t → r ≡ Ok tt → check_left f n ps ≡ check_left f k qs
  unfolding each_from first_of
  trace_accepted n r m h a = let w : f k t ≡ Ok tt = rw (← same, ← h) a in rw (e, m, add-one k, w)

  pub trace_refused : (r : Checked) (x : Refusal) → r ≡ f j t → r ≡ Err x → Err x ≡ check_left f k qs
  unfolding each_from first_of
  trace_refused r x h a = let w : f k t ≡ Err x = rw (← same, ← h) a in rw (e, w)

pub trace_end : (f : ℕ → List Fix → Checked) (k : ℕ) (qs : List (ℕ × List Fix)) → qs ≡ [] → check_left f k qs ≡ Ok tt
unfolding each_from
trace_end f k qs e = rw e
