-- The labels of an accepted fit stand within the columns of a posting sheet, so that their sheet is given wherever there is room for it.
use mathlib.Core.Path.{◌≡◌, refl, sym, ◌∙◌}
use mathlib.Core.Bool.{true}
use mathlib.Core.List.{List, [], ◌∷◌}
use mathlib.Core.Logic.{inl, inr}
use Prim.Native.Nat.{ℕ, suc, ◌+◌, ◌*◌, ◌≤◌, ◌<◌}
use native.Mathlib.Omega.{arith}
use borrow.Author.Tests.{le-leb}
use lib.IntN.{ℤ}
use lib.ListN.{length, get_or}
use lib.Ieee.{Float}
use Rattle.lists.specs.Lists.{minus_one}
use Rattle.settings.specs.declared.config.Config.{Config}
use Rattle.std.specs.Prelude.{Ok}
use Rattle.posting.specs.Sheet.{page_count}
use Rattle.posting.specs.Posted.{in_column, all_in_column, check_sheet}
use Rattle.posting.specs.Steps.{SheetWithin}
use Rattle.posting.proofs.Checked.{sheet_given}
use Rattle.cluster.proofs.LabelsBelow.{Below}
use Rattle.infostop.specs.Fit.{Fitted, fitted, fit}
use Rattle.infostop.proofs.Accepted.{accepted, agreed, counted, fit_labels}
use Rattle.infostop.proofs.FittedLabels.{fit_labels_below}

in_column_lem : (z : ℤ) → Below 512 z → in_column z ≡ true
unfolding in_column
in_column_lem z (inl e) = rw e
in_column_lem z (inr (l, h, e)) = rw e (le-leb l 511 (omega arith))

all_in_column_lem : (ls : List ℤ) → ((k : ℕ) → k < length ls → Below 512 (get_or ls k minus_one)) → all_in_column ls ≡ true
unfolding all_in_column
all_in_column_lem [] h = refl
all_in_column_lem (l ∷ ls) h = rw (in_column_lem l (h 0 (omega arith)), all_in_column_lem ls (λ k. λ q. h (suc k) (omega arith)))

pub fit_within : (c : Config) (xs ys times : List Float) (marks lens : List ℕ) (labels cap floats words : ℕ) (f : Fitted)
    → fit c xs ys times marks lens labels cap floats words ≡ fitted f → SheetWithin lens f.labels
fit_within c xs ys times marks lens labels cap floats words f e =
    let t = (accepted c xs ys times marks lens labels cap floats words f e).tracks in
    let few = counted c xs ys times marks lens labels cap floats words f t in
    let all = fit_labels c xs ys times marks lens labels cap floats words f e in
    record {
      few_traces = few.few_traces;
      few_fixes = omega (arith, all, few.few_fixes);
      sum = (agreed c xs ys times marks lens labels cap floats words f t).sum ∙ sym all;
      labels_within = all_in_column_lem f.labels (fit_labels_below c xs ys times marks lens labels cap floats words f e);
    }

pub fit_sheet : (c : Config) (xs ys times : List Float) (marks lens : List ℕ) (labels cap floats words : ℕ) (f : Fitted)
    → fit c xs ys times marks lens labels cap floats words ≡ fitted f → (room : ℕ) → 14 * (length f.labels + page_count (length f.labels)) ≤ room
    → check_sheet lens f.labels room ≡ Ok tt
fit_sheet c xs ys times marks lens labels cap floats words f e room h =
    let t = (accepted c xs ys times marks lens labels cap floats words f e).tracks in
    sheet_given lens f.labels room (agreed c xs ys times marks lens labels cap floats words f t).some_trace
    (fit_within c xs ys times marks lens labels cap floats words f e) h
