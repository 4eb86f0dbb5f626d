-- What a refusal becomes where the empty traces are taken out of the list: the same number, with the trace counted anew. Definitions only; that the
-- fits of the two lists give such refusals is infostop/proofs/WithoutEmpty.antt.
use Rattle.std.specs.Prelude.{◌≡◌, List, ℕ, ◌<◌, ◌≤◌, get_or}
use Rattle.settings.specs.declared.refusal.Refusal.{Refusal}
use Rattle.settings.specs.Refusals.{number_of, trace_of}
use Rattle.trace.specs.WithoutEmpty.{counted_anew}

-- e is the refusal of the list with traces of these lengths, e' that of the list without the empty ones.
pub record Recounted (lens : List ℕ) (e e' : Refusal) : Type 0 where
  pub number : number_of e' ≡ number_of e
  -- A refusal that is about no trace has 0 in both.
  pub trace : trace_of e' ≡ counted_anew lens (trace_of e)
  -- 12 to 16 are of a trace that has a fix.
  pub walked : 12 ≤ number_of e → number_of e ≤ 16 → 0 < get_or lens (trace_of e) 0
