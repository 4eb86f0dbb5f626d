-- The lines of the sheet as the loops write them, fix by fix and trace by trace.
use mathlib.Core.Path.{◌≡◌, refl, sym, ap, ◌∙◌}
use mathlib.Core.List.{List, [], ◌∷◌, ◌++◌, append_assoc, append-nil, flatten}
use Prim.Native.Nat.{ℕ, suc, ◌+◌, ◌%◌, ◌≤◌, ◌<◌}
use native.Mathlib.Numerals.{add-one}
use native.Mathlib.Omega.{arith}
use borrow.Author.Tests.{eq-eqb, ne_eqb}
use lib.IntN.{ℤ, pos}
use lib.ListN.{length, get_or, take, drop, drop_of_length-le}
use lib.Seq.{drop-cons, length-take-le}
use Rattle.trace.specs.Trace.{total}
use Rattle.text.specs.Bytes.{line_feed, space}
use Rattle.print.specs.Lines.{decimal, label_text}
use Rattle.print.specs.Steps.{Out, pushes}
use Rattle.print.proofs.Pushes.{pushes_append}
-- Named so that the examples are checked before these lemmas.
use Rattle.posting.specs.Examples
use Rattle.posting.specs.Sheet.{Entry, entry, entry_line, heading, trace_entries, entries, per_page, right_aligned}
use Rattle.posting.specs.Steps.{lines_at, lines_from}

pub flatten_append : (a b : List (List ℕ)) → flatten (a ++ b) ≡ flatten a ++ flatten b
unfolding flatten
flatten_append [] b = refl
flatten_append (x ∷ a) b = ap (λ (s : List ℕ). x ++ s) (flatten_append a b) ∙ sym (append_assoc x (flatten a) (flatten b))

pub lines_append : (i : ℕ) (a b : List Entry) → lines_from i (a ++ b) ≡ lines_from i a ++ lines_from (i + length a) b
unfolding lines_from
lines_append i [] b = let e : i + 0 ≡ i = omega arith in rw e
lines_append i (x ∷ a) b =
    let e : i + suc (length a) ≡ suc i + length a = omega arith in
    rw e (ap (λ (s : List (List ℕ)). lines_at i x ++ s) (lines_append (suc i) a b) ∙ sym (append_assoc (lines_at i x) (lines_from (suc i) a) (lines_from (suc i + length a) b)))

-- ---- one fix

pub heads_page : (i : ℕ) (e : Entry) → i % per_page ≡ 0 → lines_at i e ≡ heading ∷ entry_line e ∷ []
unfolding lines_at
heads_page i e h = rw (eq-eqb (i % per_page) 0 h)

pub in_page : (i : ℕ) (e : Entry) → (i % per_page ≡ 0 → ⊥) → lines_at i e ≡ entry_line e ∷ []
unfolding lines_at
in_page i e h = rw (ne_eqb (i % per_page) 0 h)

pub first_of_page : (i : ℕ) (e : Entry) → i % per_page ≡ 0 → flatten (lines_at i e) ≡ heading ++ entry_line e
unfolding flatten
first_of_page i e h = ap flatten (heads_page i e h) ∙ ap (λ (s : List ℕ). heading ++ s) (append-nil (entry_line e))

pub within_page : (i : ℕ) (e : Entry) → (i % per_page ≡ 0 → ⊥) → flatten (lines_at i e) ≡ entry_line e
unfolding flatten
within_page i e h = ap flatten (in_page i e h) ∙ append-nil (entry_line e)

pub line_pushed : (o : Out) (t f : ℕ) (l : ℤ)
    → pushes o (entry_line (entry t f l)) ≡ pushes (pushes (pushes (pushes (pushes (pushes o (right_aligned 3 (decimal t))) (space ∷ [])) (right_aligned 5 (decimal f))) (space ∷ [])) (right_aligned 3 (label_text l))) (line_feed ∷ [])
unfolding entry_line pushes
line_pushed o t f l = simp pushes_append

-- ---- the fixes of a trace

pub trace_length : (t f : ℕ) (ls : List ℤ) → length (trace_entries t f ls) ≡ length ls
unfolding trace_entries
trace_length t f [] = refl
trace_length t f (l ∷ ls) = ap suc (trace_length t (suc f) ls)

pub trace_next : (o : Out) (ls : List ℤ) (i t f : ℕ) → f < length ls
    → pushes o (flatten (lines_from (i + f) (trace_entries t f (drop f ls))))
    ≡ pushes (pushes o (flatten (lines_at (i + f) (entry t f (get_or ls f (pos 0)))))) (flatten (lines_from (i + (f + 1)) (trace_entries t (f + 1) (drop (f + 1) ls))))
unfolding trace_entries lines_from
trace_next o ls i t f h =
    let k : i + suc f ≡ suc (i + f) = omega arith in
    let here = lines_at (i + f) (entry t f (get_or ls f (pos 0))) in
    let rest = lines_from (suc (i + f)) (trace_entries t (suc f) (drop (suc f) ls)) in
    rw (drop-cons ls f (pos 0) h, add-one f, k, flatten_append here rest) (pushes_append o (flatten here) (flatten rest))

pub trace_done : (o : Out) (ls : List ℤ) (i t f : ℕ) → length ls ≤ f → pushes o (flatten (lines_from (i + f) (trace_entries t f (drop f ls)))) ≡ o
unfolding trace_entries lines_from flatten pushes
trace_done o ls i t f h = rw (drop_of_length-le ls {i = f} h)

-- ---- the fixes of all traces

-- The next trace: its labels are the first of those that are left.
pub sheet_next : (o : Out) (lens : List ℕ) (ls : List ℤ) (t i : ℕ) → t < length lens → get_or lens t 0 ≤ length ls
    → let k = get_or lens t 0 in pushes o (flatten (lines_from i (entries t (drop t lens) ls)))
    ≡ pushes (pushes o (flatten (lines_from i (trace_entries t 0 (take k ls))))) (flatten (lines_from (i + k) (entries (t + 1) (drop (t + 1) lens) (drop k ls))))
unfolding entries
sheet_next o lens ls t i h n =
    let k = get_or lens t 0 in
    let es = trace_entries t 0 (take k ls) in
    let more = entries (suc t) (drop (suc t) lens) (drop k ls) in
    let long : length es ≡ k = trace_length t 0 (take k ls) ∙ length-take-le k ls n in
    rw (drop-cons lens t 0 h, add-one t, lines_append i es more, long, flatten_append (lines_from i es) (lines_from (i + k) more))
    (pushes_append o (flatten (lines_from i es)) (flatten (lines_from (i + k) more)))

pub sheet_done : (o : Out) (lens : List ℕ) (ls : List ℤ) (t i : ℕ) → length lens ≤ t → pushes o (flatten (lines_from i (entries t (drop t lens) ls))) ≡ o
unfolding entries lines_from flatten pushes
sheet_done o lens ls t i h = rw (drop_of_length-le lens {i = t} h)

-- The next trace ends within the n labels that are left, and the lengths of those after it add up to the rest.
module _ (lens : List ℕ) (t n : ℕ) (h : t < length lens) (sum : total (drop t lens) ≡ n) where
  next_sum : total (drop t lens) ≡ get_or lens t 0 + total (drop (t + 1) lens)
  unfolding total
  next_sum = rw (add-one t, drop-cons lens t 0 h)

  pub trace_fits : get_or lens t 0 ≤ n
  trace_fits = omega (arith, next_sum)

  pub traces_left : get_or lens t 0 + total (drop (t + 1) lens) ≡ n
  traces_left = omega (arith, next_sum)
