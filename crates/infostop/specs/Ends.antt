-- How a fit ends for its caller: what is told, the model, the labels and the work slices, by the outcome that `fit` (Fit.antt) defines; and demand 3
-- of what the caller then holds. Definitions only.
use Rattle.std.specs.Prelude.{◌≡◌, ℕ, Bool, true, false, not, ◌&&◌, List, eqb, ℤ, Float, Result, Ok, Err}
use Rattle.distance.specs.Distance.{euclidean}
use Rattle.trace.specs.Trace.{Fix}
use Rattle.infomap.specs.declared.Mark.{Mark}
use Rattle.infomap.specs.Infomap.{RunMark, mark_of}
use Rattle.settings.specs.declared.config.Config.{Config}
use Rattle.settings.specs.declared.refusal.Refusal.{Refusal}
use Rattle.settings.specs.Refusals.{number_of, trace_of}
use Rattle.infostop.specs.Demand.{Demand3}
use Rattle.infostop.specs.Fit.{Outcome, refused, fitted}
use Rattle.infostop.specs.declared.model.Infostop.{Infostop}
use Rattle.infostop.specs.declared.answer.Labelled.{Labelled}
use Rattle.infostop.specs.declared.answer.Fit.{Fit}
use Rattle.infostop.specs.Models.{model_after}

-- What is told of a fit: the rules' number of the refusal and its trace, or the mark and the rounds of the kept trial.
pub data Told : Type 0 where
  refused_with : ℕ → ℕ → Told
  labelled_by : RunMark → ℕ → Told

abbrev pub told : Outcome → Told
told (refused e) = refused_with (number_of e) (trace_of e)
told (fitted f) = labelled_by f.mark f.rounds

-- The same of each case of the code's answer.
abbrev pub told_by : Result Labelled Refusal → Told
told_by (Ok k) = labelled_by (mark_of k.mark) k.rounds
told_by (Err e) = refused_with (number_of e) (trace_of e)

-- A refusal leaves the labels as they were.
abbrev pub labels_after : List ℤ → Outcome → List ℤ
labels_after old (refused e) = old
labels_after old (fitted f) = f.labels

-- A fit with the model m and the labels `old` ends as the outcome o says.
pub record Ended (m : Infostop) (old : List ℤ) (o : Outcome) (r : Fit) (labels : List ℤ) : Type 0 where
  pub answer : told_by r.answer ≡ told o
  pub model : r.model ≡ model_after m o
  pub fixes : labels ≡ labels_after old o

-- The work slices are free after success, 18 and 19; every other refusal leaves them as they were.
abbrev pub keeps_work : Outcome → Bool
keeps_work (refused e) = not (eqb (number_of e) 18) && not (eqb (number_of e) 19)
keeps_work (fitted f) = false

-- How the work slices end.
abbrev pub WorkEnds : Outcome → List Float → List ℤ → List Float → List ℤ → Type 0
WorkEnds o floats words floats' words' = keeps_work o ≡ true → (floats' ≡ floats) × (words' ≡ words)

-- Demand 3 of every accepted fit with settings c over the traces ts: of the labels that the caller then holds, and of the mark that was answered.
-- Its medians, links and chains are those of the medians on the grid of c.
abbrev pub HoldsDemand3 : Config → List (List Fix) → Fit → List ℤ → Type 0
HoldsDemand3 c ts r labels = (m : Mark) (rounds : ℕ) → r.answer ≡ Ok (record { mark = m; rounds = rounds }) → Demand3 (record { dist = euclidean; config = c; traces = ts; labels = labels; mark = mark_of m })

-- What a fit with the model m promises, whose outcome by the definition is o, over the traces ts: how it ends for the caller's labels `old` and
-- the work slices, and demand 3. Behind them what the caller then holds.
pub record Promised (m : Infostop) (old : List ℤ) (floats : List Float) (words : List ℤ) (o : Outcome) (ts : List (List Fix)) (r : Fit)
    (labels : List ℤ) (floats' : List Float) (words' : List ℤ) : Type 0 where
  pub ended : Ended m old o r labels
  pub work : WorkEnds o floats words floats' words'
  pub demand3 : HoldsDemand3 m.config ts r labels
