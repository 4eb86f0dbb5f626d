-- The trace view, by what its check says.
use mathlib.Core.Path.{◌≡◌, sym, ap, ap₂, ◌∙◌}
use mathlib.Core.List.{List, [], ◌++◌}
use Prim.Native.Nat.{ℕ, ◌+◌, ◌*◌, ◌<◌, ◌≤◌}
use native.Mathlib.Nat.{add-sub_cancel_left}
use native.Mathlib.Omega.{arith}
use borrow.Author.Tests.{leb-false}
use lib.IntN.{ℤ}
use lib.ListN.{length, take, drop, get_or, length-drop, take-append-drop}
use lib.Seq.{drop-drop, length-take-le}
use denote.Ref.{Bor}
use Rattle.std.specs.Prelude.{Ok, Err}
use Rattle.settings.specs.declared.refusal.Refusal.{Refusal}
use Rattle.settings.specs.declared.refusal.Refusal.TheVariants.{Output}
use Rattle.settings.specs.Checks.{Checked}
use Rattle.trace.specs.Trace.{total}
use Rattle.settings.proofs.Turns.{passed, turn_first, turn_rest}
use Rattle.checks.proofs.Lengths.{lengths_agree}
use Rattle.lists.proofs.Parts.{lent}
use Rattle.reports.specs.View.{check_view, trace_start, trace_end, view_part, view_start, view_checked, Viewed}
use Rattle.reports.proofs.Starts.{start_within}

-- The trace is there, and ends within the labels.
pub record Inside (lens : List ℕ) (n trace : ℕ) : Type 0 where
  pub there : trace < length lens
  pub sum : total lens ≡ n
  pub ends : trace_start lens trace + get_or lens trace 0 ≤ n

pub inside : {lens : List ℕ} {n trace : ℕ} → Ok tt ≡ check_view lens n trace → Inside lens n trace
unfolding check_view
inside {lens} {n} {trace} e =
    let h = sym e in
    let there = leb-false (length lens) trace (passed _ Output (turn_first _ _ (turn_rest _ _ h))) in
    let sum = (lengths_agree lens n n n n n (turn_first _ _ h)).sum in
    record { there = there; sum = sum; ends = omega (arith, start_within lens trace there) }

-- The labels before a part, the part and those behind it.
whole_of : (a k : ℕ) (l : List ℤ) → take a l ++ (take k (drop a l) ++ drop (a + k) l) ≡ l
whole_of a k l =
    ap (λ (z : List ℤ). take a l ++ (take k (drop a l) ++ z)) (sym (drop-drop k a l))
    ∙ ap (λ (z : List ℤ). take a l ++ z) (take-append-drop k (drop a l)) ∙ take-append-drop a l

module _ {lens : List ℕ} {trace : ℕ} {labels part : Bor (List ℤ)} where
  pub view_refused : {e : Refusal} → Err e ≡ view_checked lens trace labels → part.now ≡ [] → part.ref_ptr.0 ≡ labels.ref_ptr.0
      → part.ref_ptr.1 ≡ labels.ref_ptr.1 + 0 → Viewed lens trace labels part (Err e)
  view_refused {e} c p memory a =
      let never : view_checked lens trace labels ≡ Ok tt → ⊥ = λ k. cc in
      record {
        contents = p ∙ ap (λ (z : Checked). view_part z lens trace labels.now) c;
        memory = memory;
        place = a ∙ ap (λ (z : Checked). labels.ref_ptr.1 + view_start z lens trace * 4) c;
        whole = λ k. absurd (never k);
        before = λ k. absurd (never k);
        long = λ k. absurd (never k);
        refusal = c;
      }

  pub view_given : (from : ℕ) → Ok tt ≡ view_checked lens trace labels → from ≡ trace_start lens trace
      → part.now ≡ lent from (from + get_or lens trace 0) labels.now → part.ref_ptr.0 ≡ labels.ref_ptr.0 → part.ref_ptr.1 ≡ labels.ref_ptr.1 + from * 4
      → Viewed lens trace labels part (Ok tt)
  unfolding trace_end
  view_given from c q p memory a =
      let l = labels.now in
      let k = get_or lens trace 0 in
      let s = trace_start lens trace in
      let part_is : part.now ≡ take k (drop s l) = p ∙ ap₂ (λ (k a : ℕ). take k (drop a l)) (add-sub_cancel_left from k) q in
      let ends = (inside c).ends in
      record {
        contents = part_is ∙ ap (λ (z : Checked). view_part z lens trace l) c;
        memory = memory;
        place = a ∙ ap (λ (z : ℕ). labels.ref_ptr.1 + z * 4) q ∙ ap (λ (z : Checked). labels.ref_ptr.1 + view_start z lens trace * 4) c;
        whole = λ _. ap (λ (z : List ℤ). take s l ++ (z ++ drop (s + k) l)) part_is ∙ whole_of s k l;
        before = λ _. length-take-le s l (omega arith);
        long = λ _. ap length part_is ∙ length-take-le k (drop s l) (omega (arith, length-drop s l));
        refusal = c;
      }
