-- The labels of a text's fixes are printed in the order of its lines.
use mathlib.Core.Path.{◌≡◌, refl, sym, ap, ◌∙◌}
use mathlib.Core.List.{List, [], ◌∷◌, ◌++◌, append_assoc}
use mathlib.Core.Logic.{inl, inr}
use Prim.Native.Nat.{ℕ, suc, ◌+◌, ◌-◌, ◌≤◌}
use native.Mathlib.Numerals.{add-one}
use native.Mathlib.Omega.{arith}
use lib.ListN.{length, length-append, get_or, take, drop, get_or-eq_default}
use lib.Seq.{get_or-append_seam}
use lib.IntN.{ℤ}
use Rattle.text.specs.Values.{FixLine, inside, read, with_fix, lengths_from, lengths_of}
use Rattle.text.proofs.TracesRise.{TracesRise}
use Rattle.text.proofs.Lengths.{with_next, with_last}
use Rattle.text.proofs.Pieces.{rises}
use Rattle.settings.specs.declared.config.Config.{Config}
-- Named so that the facts are checked before these lemmas.
use Rattle.print.specs.Facts
use Rattle.print.specs.Lines.{line, trace_lines, lines, label_names, labels_text}

-- The printed lines in the order of the fixes: each with its trace, its number within the trace, and its label. After fixes in traces of the lengths ns:
-- a fix of trace t has the number of those of its trace that came before.
unfoldable pub in_order : List ℕ → List FixLine → List ℤ → List ℕ
in_order ns [] ls = []
in_order ns (p ∷ ps) [] = []
in_order ns (p ∷ ps) (l ∷ ls) = line p.trace (get_or ns p.trace 0) l ++ in_order (with_fix ns p.trace) ps ls

-- The lines of a trace t from its fix k on, which has n fixes in all, and of the traces after it.
from : ℕ → ℕ → ℕ → List ℕ → List ℤ → List ℕ
from t k n ns ls = trace_lines t k (take (n - k) ls) ++ lines (suc t) ns (drop (n - k) ls)

-- The lengths that fixes lead to, from those of the traces before, ms, and k fixes in the last: n for that one, ns for those after it.
record Ahead (ms : List ℕ) (k : ℕ) (ps : List FixLine) : Type 0 where
  n : ℕ
  ns : List ℕ
  most : k ≤ n
  ends : lengths_from (ms ++ (k ∷ [])) ps ≡ ms ++ (n ∷ ns)
  prints : (ls : List ℤ) → length ls ≡ length ps → from (length ms) k n ns ls ≡ in_order (ms ++ (k ∷ [])) ps ls

one_more : (n k : ℕ) → suc k ≤ n → n - k ≡ suc (n - suc k)
one_more n k h = omega arith

nothing : (k : ℕ) → k - k ≡ 0
nothing k = omega arith

-- The first label of some.
from_next : (t k n : ℕ) (ns : List ℕ) (l : ℤ) (ls : List ℤ) → suc k ≤ n → from t k n ns (l ∷ ls) ≡ line t k l ++ from t (suc k) n ns ls
unfolding from trace_lines
from_next t k n ns l ls h = rw (one_more n k h) (append_assoc (line t k l) (trace_lines t (suc k) (take (n - suc k) ls)) (lines (suc t) ns (drop (n - suc k) ls)))

-- A trace that is whole.
from_whole : (t k n : ℕ) (ns : List ℕ) (ls : List ℤ) → from t k k (n ∷ ns) ls ≡ from (suc t) 0 n ns ls
unfolding from trace_lines lines
from_whole t k n ns ls = let e : n - 0 ≡ n = omega arith in rw (nothing k, e)

from_end : (t k : ℕ) (ls : List ℤ) → from t k k [] ls ≡ []
unfolding from trace_lines lines
from_end t k ls = rw (nothing k)

-- A fix of the same trace, and those after it.
same_trace : (p : FixLine) (ps : List FixLine) (ms : List ℕ) (k : ℕ) → p.trace ≡ length ms → with_fix (ms ++ (k ∷ [])) p.trace ≡ ms ++ (suc k ∷ [])
    → Ahead ms (suc k) ps → Ahead ms k (p ∷ ps)
unfolding lengths_from in_order
same_trace p ps ms k u x A = record { n = A.n; ns = A.ns; most = omega (arith, A.most); ends = rw x A.ends; prints = go }
  where
    ts : List ℕ
    ts = ms ++ (k ∷ [])

    number : get_or ts p.trace 0 ≡ k
    number = ap (λ (t : ℕ). get_or ts t 0) u ∙ get_or-append_seam ms k [] 0

    go : (ls : List ℤ) → length ls ≡ suc (length ps) → from (length ms) k A.n A.ns ls ≡ in_order ts (p ∷ ps) ls
    go [] e = absurd (omega arith)
    go (l ∷ ls) e =
        from_next (length ms) k A.n A.ns l ls A.most
        ∙ ap (λ (r : List ℕ). line (length ms) k l ++ r) (A.prints ls (omega arith))
        ∙ sym (rw (number, x, u))

-- A fix of the next trace, and those after it.
next_trace : (p : FixLine) (ps : List FixLine) (ms : List ℕ) (k : ℕ) → p.trace ≡ suc (length ms)
    → with_fix (ms ++ (k ∷ [])) p.trace ≡ (ms ++ (k ∷ [])) ++ (1 ∷ []) → length (ms ++ (k ∷ [])) ≡ suc (length ms) → Ahead (ms ++ (k ∷ [])) 1 ps
    → Ahead ms k (p ∷ ps)
unfolding lengths_from in_order
next_trace p ps ms k u x long A = record { n = k; ns = A.n ∷ A.ns; most = omega arith; ends = rw x (A.ends ∙ append_assoc ms (k ∷ []) (A.n ∷ A.ns)); prints = go }
  where
    ts : List ℕ
    ts = ms ++ (k ∷ [])

    number : get_or ts p.trace 0 ≡ 0
    number = get_or-eq_default ts 0 (omega arith)

    rest : (ls : List ℤ) → length ls ≡ length ps → from (suc (length ms)) 1 A.n A.ns ls ≡ in_order (ts ++ (1 ∷ [])) ps ls
    rest ls e = ap (λ (t : ℕ). from t 1 A.n A.ns ls) (sym long) ∙ A.prints ls e

    go : (ls : List ℤ) → length ls ≡ suc (length ps) → from (length ms) k k (A.n ∷ A.ns) ls ≡ in_order ts (p ∷ ps) ls
    go [] e = absurd (omega arith)
    go (l ∷ ls) e =
        from_whole (length ms) k A.n A.ns (l ∷ ls)
        ∙ from_next (suc (length ms)) 0 A.n A.ns l ls A.most
        ∙ ap (λ (r : List ℕ). line (suc (length ms)) 0 l ++ r) (rest ls (omega arith))
        ∙ sym (rw (number, x, u))

ahead : (ps : List FixLine) (ms : List ℕ) (k : ℕ) → TracesRise (suc (length ms)) ps → Ahead ms k ps
unfolding TracesRise lengths_from in_order
ahead [] ms k r = record { n = k; ns = []; most = omega arith; ends = refl; prints = λ ls. λ e. from_end (length ms) k ls }
ahead (p ∷ ps) ms k (inl a, r) =
    let ts = ms ++ (k ∷ []) in
    let long : length ts ≡ suc (length ms) = length-append ms (k ∷ []) ∙ add-one (length ms) in
    let u : p.trace ≡ length ts = a ∙ sym long in
    let v : p.trace + 1 ≡ suc (length ts) = omega arith in
    let x : with_fix ts p.trace ≡ ts ++ (1 ∷ []) = ap (with_fix ts) u ∙ with_next ts in
    let A = ahead ps ts 1 (rw v at r) in
    next_trace p ps ms k a x long A
ahead (p ∷ ps) ms k (inr a, r) =
    let ts = ms ++ (k ∷ []) in
    let u : p.trace ≡ length ms = omega arith in
    let x : with_fix ts p.trace ≡ ms ++ (suc k ∷ []) = ap (with_fix ts) u ∙ with_last ms k in
    let A = ahead ps ms (suc k) (rw a at r) in
    same_trace p ps ms k u x A

-- Traces that rise from 0: the lines stand in the order of the fixes.
lines_in_order : (ps : List FixLine) (ls : List ℤ) → TracesRise 0 ps → length ls ≡ length ps → lines 0 (lengths_of ps) ls ≡ in_order [] ps ls
unfolding TracesRise lengths_of lengths_from with_fix lines in_order from
lines_in_order [] ls r e = refl
lines_in_order (p ∷ ps) [] r e = absurd (omega arith)
lines_in_order (p ∷ ps) (l ∷ ls) (inr a, r) e = absurd (omega arith)
lines_in_order (p ∷ ps) (l ∷ ls) (inl a, r) e =
    let A = ahead ps [] 1 (rw a at r) in
    let z : A.n - 0 ≡ A.n = omega arith in
    ap (λ (ns : List ℕ). lines 0 ns (l ∷ ls)) A.ends
    ∙ (rw z at (from_next 0 0 A.n A.ns l ls A.most))
    ∙ ap (λ (r : List ℕ). line 0 0 l ++ r) (A.prints ls (omega arith))
    ∙ ap (λ (t : ℕ). line t 0 l ++ in_order (1 ∷ []) ps ls) (sym a)

-- For a text t with the fixes ps, and a label for each: what is printed are the lines of t in their order.
pub labels_in_order : (t : List ℕ) (c : Config) (ps : List FixLine) (ls : List ℤ) → read t ≡ inside c ps → length ls ≡ length ps
    → labels_text (lengths_of ps) ls ≡ label_names ++ in_order [] ps ls
unfolding labels_text
labels_in_order t c ps ls q e = ap (λ (r : List ℕ). label_names ++ r) (lines_in_order ps ls (rises t c ps q) e)
