-- The trace view (docs/RULES.md, "Trace view"): the labels of one trace as a part of the label slice. Definitions only.
use Rattle.std.specs.Prelude.{◌≡◌, ℕ, ◌+◌, ◌*◌, List, [], ◌∷◌, ◌++◌, leb, ℤ, length, take, drop, get_or, Ok, Err}
use Rattle.std.specs.Borrow.{Bor}
use Rattle.settings.specs.declared.refusal.Refusal.TheVariants.{Output}
use Rattle.settings.specs.Checks.{Checked, refuse_if, in_turn}
use Rattle.settings.specs.Refusals.{number_of}
use Rattle.trace.specs.Trace.{total}
use Rattle.checks.specs.Tracks.{check_label_lengths}

-- "It takes trace lengths, labels and a trace number, and no model: 7, 8, then 21." `labels` is the length of the label slice.
unfoldable pub check_view : List ℕ → ℕ → ℕ → Checked
check_view lens labels trace = in_turn (check_label_lengths lens labels ∷ refuse_if (leb (length lens) trace) Output ∷ [])

-- Where the trace starts: behind the fixes of the traces before it.
unfoldable pub trace_start : List ℕ → ℕ → ℕ
trace_start lens trace = total (take trace lens)

-- Where it ends.
unfoldable pub trace_end : List ℕ → ℕ → ℕ
trace_end lens trace = trace_start lens trace + get_or lens trace 0

-- The part of the label slice: the labels of that trace, "each [refusal] with an empty part".
abbrev pub view_part : Checked → List ℕ → ℕ → List ℤ → List ℤ
view_part (Ok x) lens trace labels = take (get_or lens trace 0) (drop (trace_start lens trace) labels)
view_part (Err e) lens trace labels = []

abbrev pub trace_view : List ℕ → ℕ → List ℤ → List ℤ
trace_view lens trace labels = view_part (check_view lens (length labels) trace) lens trace labels

-- The number of the refusal, 0 for none. 7, 8 and 21 carry trace 0.
abbrev pub refusal_number : Checked → ℕ
refusal_number (Ok x) = 0
refusal_number (Err e) = number_of e

-- How many labels stand before the part; a refusal's empty part is at the slice's start.
abbrev pub view_start : Checked → List ℕ → ℕ → ℕ
view_start (Ok x) lens trace = trace_start lens trace
view_start (Err e) lens trace = 0

-- The view of the trace `trace` in the label slice `labels`: the part that is handed back, and what the check says.
module _ (lens : List ℕ) (trace : ℕ) (labels : Bor (List ℤ)) where
  abbrev pub view_checked : Checked
  view_checked = check_view lens (length labels.now) trace

  pub record Viewed (part : Bor (List ℤ)) (checked : Checked) : Type 0 where
    pub contents : part.now ≡ trace_view lens trace labels.now
    -- "That part of the caller's label slice": it lies in the memory of the slice, so many labels behind its start. A label takes 4 bytes.
    pub memory : part.ref_ptr.0 ≡ labels.ref_ptr.0
    pub place : part.ref_ptr.1 ≡ labels.ref_ptr.1 + view_start view_checked lens trace * 4
    -- The labels before the trace, the part and the labels behind it make up the slice.
    pub whole : view_checked ≡ Ok tt → take (trace_start lens trace) labels.now ++ (part.now ++ drop (trace_end lens trace) labels.now) ≡ labels.now
    -- As many labels stand before the part as the traces before it have fixes, and in it as many as the trace has.
    pub before : view_checked ≡ Ok tt → length (take (trace_start lens trace) labels.now) ≡ trace_start lens trace
    pub long : view_checked ≡ Ok tt → length part.now ≡ get_or lens trace 0
    -- Its number is `refusal_number`.
    pub refusal : checked ≡ view_checked
