-- The fixes of the sheet in their order: fix f of trace t is the one with number `fix_number`, and each fix is one of a trace.
use mathlib.Core.Path.{◌≡◌, refl, ap, ◌∙◌}
use mathlib.Core.Bool.{Bool, true, false}
use mathlib.Core.List.{List, [], ◌∷◌, ◌++◌}
use Prim.Native.Nat.{ℕ, zero, suc, ◌+◌, ◌-◌, ◌≤◌, ◌<◌}
use native.Mathlib.Omega.{arith}
use borrow.Author.Tests.{ltb-true, ltb-false}
use lib.Dec.{ltb}
use lib.IntN.{ℤ, pos}
use lib.ListN.{length, get_or, take, drop, length-append, length-drop, get_or-append}
use lib.Seq.{length-take-le, get_or-take, get_or-drop, get_or-append-add}
use Rattle.trace.specs.Trace.{total}
use Rattle.trace.proofs.Parts.{offset_within}
use Rattle.lists.proofs.Items.{All, all_at}
use Rattle.posting.specs.Sheet.{Entry, entry, trace_entries, entries}
use Rattle.posting.specs.Meaning.{fix_number}
use Rattle.posting.specs.Steps.{Within, SheetWithin}
use Rattle.posting.proofs.LinesFrom.{trace_length}
use Rattle.posting.proofs.Within.{label_at}

-- ---- each fix is one of a trace

-- Fix k of the sheet: its trace, and its number within the trace.
pub record FixAt (lens : List ℕ) (k : ℕ) : Type 0 where
  pub trace : ℕ
  pub fix : ℕ
  pub there : trace < length lens
  pub inside : fix < get_or lens trace 0
  pub here : fix_number lens trace fix ≡ k

pub fix_at : (lens : List ℕ) (k : ℕ) → k < total lens → FixAt lens k
unfolding total
fix_at [] k h = absurd (omega arith)
fix_at (n ∷ ns) k h = go (ltb k n) refl (λ q. fix_at ns (k - n) q)
  where
    go : (b : Bool) → ltb k n ≡ b → (k - n < total ns → FixAt ns (k - n)) → FixAt (n ∷ ns) k
    go true e r = record { trace = 0; fix = k; there = omega arith; inside = ltb-true k n e; here = omega arith }
    go false e r =
        let z : n ≤ k = ltb-false k n e in
        let x = r (omega arith) in
        record { trace = suc x.trace; fix = x.fix; there = omega (arith, x.there); inside = x.inside; here = omega (arith, x.here) }

-- ---- the fix with a number

trace_at : (t f : ℕ) (ls : List ℤ) (k : ℕ) (d : Entry) → k < length ls → get_or (trace_entries t f ls) k d ≡ entry t (f + k) (get_or ls k (pos 0))
unfolding trace_entries
trace_at t f [] k d h = absurd (omega arith)
trace_at t f (l ∷ ls) zero d h = let e : f + 0 ≡ f = omega arith in rw e
trace_at t f (l ∷ ls) (suc k) d h = let e : f + suc k ≡ suc f + k = omega arith in rw e (trace_at t (suc f) ls k d (omega arith))

pub entries_length : (t : ℕ) (lens : List ℕ) (ls : List ℤ) → total lens ≡ length ls → length (entries t lens ls) ≡ length ls
unfolding entries total
entries_length t [] ls e = e
entries_length t (n ∷ ns) ls e =
    let r = entries_length (suc t) ns (drop n ls) (omega (arith, length-drop n ls)) in
    rw (length-append (trace_entries t 0 (take n ls)) (entries (suc t) ns (drop n ls)), trace_length t 0 (take n ls), length-take-le n ls (omega arith), r, length-drop n ls) (omega arith)

-- Of the traces from s on, fix f of the one that has t before it.
entry_from : (s : ℕ) (lens : List ℕ) (ls : List ℤ) (t f : ℕ) (d : Entry) → total lens ≡ length ls → t < length lens → f < get_or lens t 0
    → get_or (entries s lens ls) (fix_number lens t f) d ≡ entry (s + t) f (get_or ls (fix_number lens t f) (pos 0))
unfolding entries total
entry_from s [] ls t f d e h k = absurd (omega arith)
entry_from s (n ∷ ns) ls zero f d e h k =
    let p = take n ls in
    let m : length p ≡ n = length-take-le n ls (omega arith) in
    let a : 0 + f ≡ f = omega arith in
    let b : s + 0 ≡ s = omega arith in
    rw (a, b)
    (get_or-append (trace_entries s 0 p) (entries (suc s) ns (drop n ls)) d f (omega (arith, trace_length s 0 p))
    ∙ trace_at s 0 p f d (omega arith) ∙ ap (entry s (0 + f)) (get_or-take n ls f (pos 0) k) ∙ ap (λ (z : ℕ). entry s z (get_or ls f (pos 0))) a)
entry_from s (n ∷ ns) ls (suc t) f d e h k =
    let p = trace_entries s 0 (take n ls) in
    let i = fix_number ns t f in
    let m : length p ≡ n = trace_length s 0 (take n ls) ∙ length-take-le n ls (omega arith) in
    let a : fix_number (n ∷ ns) (suc t) f ≡ n + i = omega arith in
    let b : s + suc t ≡ suc s + t = omega arith in
    let c : n + i ≡ length p + i = omega arith in
    rw (a, b)
    (ap (λ (z : ℕ). get_or (p ++ entries (suc s) ns (drop n ls)) z d) c ∙ get_or-append-add p (entries (suc s) ns (drop n ls)) i d
    ∙ entry_from (suc s) ns (drop n ls) t f d (omega (arith, length-drop n ls)) (omega arith) k ∙ ap (entry (suc s + t) f) (get_or-drop n ls i (pos 0)))

pub entry_at : (lens : List ℕ) (ls : List ℤ) (t f : ℕ) (d : Entry) → total lens ≡ length ls → t < length lens → f < get_or lens t 0
    → get_or (entries 0 lens ls) (fix_number lens t f) d ≡ entry t f (get_or ls (fix_number lens t f) (pos 0))
entry_at lens ls t f d e h k = let z : 0 + t ≡ t = omega arith in entry_from 0 lens ls t f d e h k ∙ ap (λ (s : ℕ). entry s f (get_or ls (fix_number lens t f) (pos 0))) z

-- ---- all of them stand within their columns

pub entry_within : (lens : List ℕ) (ls : List ℤ) (t f : ℕ) → SheetWithin lens ls → t < length lens → f < get_or lens t 0 → Within t f (get_or ls (fix_number lens t f) (pos 0))
entry_within lens ls t f w h k =
    let o = offset_within lens t h in
    record {
      trace_within = omega arith;
      fix_within = omega arith;
      label_within = label_at ls (fix_number lens t f) w.labels_within (omega arith);
    }

-- A fix that stands within its columns.
abbrev pub Stands : Entry → Type 0
Stands e = Within e.trace e.fix e.label

pub entries_within : (lens : List ℕ) (ls : List ℤ) → SheetWithin lens ls → All Stands (entries 0 lens ls)
entries_within lens ls w = all_at Stands (entries 0 lens ls) none (λ k h. one k (fix_at lens k (omega (arith, entries_length 0 lens ls w.sum))))
  where
    none : Entry
    none = entry 0 0 (pos 0)

    one : (k : ℕ) → FixAt lens k → Stands (get_or (entries 0 lens ls) k none)
    one k x = rw (← x.here, entry_at lens ls x.trace x.fix none w.sum x.there x.inside) (entry_within lens ls x.trace x.fix w x.there x.inside)
