-- The text of a fit's answer.
use mathlib.Core.Path.{◌≡◌, refl, sym, ap, ◌∙◌, subst}
use mathlib.Core.List.{List, ◌++◌}
use Prim.Native.Nat.{ℕ, ◌≤◌}
use native.Mathlib.Omega.{arith}
use lib.IntN.{ℤ, pos, negsuc}
use lib.ListN.{length, take, drop, replicate, length-replicate}
use lib.Seq.{length-take-le, take_at}
use lib.Ieee.{Float}
use Rattle.std.specs.Prelude.{Ok, Err}
use Rattle.float.specs.Binary64.{zero64}
use Rattle.infomap.specs.Infomap.{mark_of}
use Rattle.settings.specs.declared.config.Config.{Config}
use Rattle.settings.specs.declared.refusal.Refusal.{Refusal}
use Rattle.settings.specs.Refusals.{number_of, trace_of}
use Rattle.infostop.specs.Fit.{Outcome, Fitted, refused, fitted, fit}
use Rattle.infostop.specs.declared.model.Infostop.{Infostop}
use Rattle.infostop.specs.declared.model.Made.{Made}
use Rattle.infostop.specs.declared.answer.Labelled.{Labelled}
use Rattle.infostop.specs.declared.answer.Fit.{Fit}
use Rattle.infostop.specs.Models.{from_config}
use Rattle.infostop.specs.Ends.{refused_with, told_by, Ended}
use Rattle.infostop.proofs.Ending.{no_kept}
use Rattle.text.specs.declared.Input.{Input}
use Rattle.print.specs.Lines.{refusal_text}
use Rattle.print.specs.Written.{Writes}
use Rattle.posting.specs.Steps.{SheetWithin}
use Rattle.reply.specs.declared.Form.{Form}
use Rattle.reply.specs.Program.{labels_as, outcome_text}
use Rattle.reply.proofs.Columns.{writes_as}
use Rattle.reply.proofs.FitWithin.{fit_within}

-- Labels are told only where the outcome has them.
labelled_fit : (m : Infostop) (old labels : List ℤ) (r : Fit) (o : Outcome) (k : Labelled) → Ended m old o r labels → r.answer ≡ Ok k
    → (f : Fitted) × (o ≡ fitted f) × (labels ≡ f.labels)
labelled_fit m old labels r (refused e) k x a = no_kept (mark_of k.mark) k.rounds _ _ (ap told_by (sym a) ∙ x.answer)
labelled_fit m old labels r (fitted f) k x a = (f, refl, x.fixes)

labelled_text : (form : Form) (lens : List ℕ) (labels : List ℤ) (o : Outcome) (f : Fitted) → o ≡ fitted f → labels ≡ f.labels
    → labels_as form lens labels ≡ outcome_text form lens o
unfolding outcome_text
labelled_text form lens labels o f e q = rw (e, q)

-- A refusal's text is that of its number and trace.
same_text : (e f : Refusal) → refused_with (number_of e) (trace_of e) ≡ refused_with (number_of f) (trace_of f) → refusal_text e ≡ refusal_text f
unfolding refusal_text
same_text e f q =
    let n : number_of e ≡ number_of f = cc in
    let t : trace_of e ≡ trace_of f = cc in
    rw (n, t)

refused_outcome : (form : Form) (lens : List ℕ) (m : Infostop) (old labels : List ℤ) (r : Fit) (o : Outcome) (e : Refusal) → Ended m old o r labels
    → r.answer ≡ Err e → refusal_text e ≡ outcome_text form lens o
unfolding outcome_text
refused_outcome form lens m old labels r (refused f) e x a = same_text e f (ap told_by (sym a) ∙ x.answer)
refused_outcome form lens m old labels r (fitted f) e x a = no_kept f.mark f.rounds _ _ (sym (ap told_by (sym a) ∙ x.answer))

-- The program's labels, before the fit.
abbrev no_labels : List ℤ
no_labels = replicate 768 (negsuc 0)

-- ---- the fit of the first fixes of the columns, with arrays for labels and work
module _ (i : Input) (few : i.fixes ≤ 768) (xs ys times : List Float) (marks lens : List ℕ) where
  abbrev n : ℕ
  n = i.fixes

  -- With the parts that are lent.
  abbrev parts_fit : Config → Outcome
  parts_fit s =
      fit s (take n xs) (take n ys) (take n times) (take n marks) (take i.traces lens) (length (take n no_labels)) 64 (length (replicate 7168 zero64))
      (length (replicate {A = ℤ} 3584 (pos 0)))

  abbrev firsts : Outcome
  firsts = fit i.config (take n xs) (take n ys) (take n times) (take n marks) (take i.traces lens) n 64 7168 3584

  labels_long : length (take n no_labels) ≡ n
  labels_long = length-take-le n no_labels (omega (arith, length-replicate 768 (negsuc 0)))

  module _ {x : Made} {r : Fit} {labels : List ℤ} (made : x ≡ from_config i.config) (ended : Ended x.model (take n no_labels) (parts_fit x.model.config) r labels) where
    same_config : x.model.config ≡ i.config
    unfolding from_config
    same_config = ap (λ (z : Made). z.model.config) made

    ends : Ended x.model (take n no_labels) firsts r labels
    ends =
        let same : parts_fit x.model.config ≡ firsts = rw (same_config, labels_long, length-replicate 7168 zero64) refl in
        subst (λ (o : Outcome). Ended x.model (take n no_labels) o r labels) same ended

    pub refused_writes : (form : Form) (e : Refusal) → r.answer ≡ Err e → {out : List ℕ} {used : ℕ} {out' : List ℕ} → Writes (refusal_text e) out used out'
        → Writes (outcome_text form (take i.traces lens) firsts) out used out'
    refused_writes form e a w = writes_as (refused_outcome form (take i.traces lens) _ _ labels r firsts e ends a) w

    module _ {k : Labelled} (long : length labels ≡ length (take n no_labels)) (a : r.answer ≡ Ok k) where
      given : (f : Fitted) × (firsts ≡ fitted f) × (labels ≡ f.labels)
      given = labelled_fit _ _ labels r firsts k ends a

      -- The labels after the fit.
      shown : take n (labels ++ drop n no_labels) ≡ labels
      shown = take_at labels (drop n no_labels) n (long ∙ labels_long)

      pub labelled_within : SheetWithin (take i.traces lens) (take n (labels ++ drop n no_labels))
      labelled_within =
          rw (shown, given.2)
          (fit_within i.config (take n xs) (take n ys) (take n times) (take n marks) (take i.traces lens) n 64 7168 3584 given.0 given.1)

      pub labelled_writes : (form : Form) {out : List ℕ} {used : ℕ} {out' : List ℕ}
          → Writes (labels_as form (take i.traces lens) (take n (labels ++ drop n no_labels))) out used out'
          → Writes (outcome_text form (take i.traces lens) firsts) out used out'
      labelled_writes form w =
          writes_as (ap (labels_as form (take i.traces lens)) shown ∙ labelled_text form (take i.traces lens) labels firsts given.0 given.1 given.2) w
