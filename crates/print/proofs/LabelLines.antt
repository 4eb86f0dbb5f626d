-- Labels and their lines, as the loops write them.
use mathlib.Core.Path.{◌≡◌, refl, sym}
use mathlib.Core.Bool.{true, false, false≢true}
use mathlib.Core.List.{List, [], ◌∷◌}
use Prim.Native.Nat.{ℕ, suc, ◌+◌, ◌≤◌, ◌<◌, min}
use native.Mathlib.Numerals.{add-one}
use lib.ListN.{length, get_or, take, drop, drop_of_length-le}
use lib.Seq.{drop-cons}
use lib.IntN.{ℤ, pos, negsuc, nat_abs}
use Rattle.std.proofs.lemmas.List.{take_min, drop_min}
use Rattle.settings.specs.declared.refusal.Refusal.{Refusal}
use Rattle.settings.specs.Refusals.{number_of, trace_of}
use Rattle.text.specs.Bytes.{line_feed, space}
use Rattle.print.specs.Lines.{decimal, label_text, line, trace_lines, lines, label_names, labels_text, refused_names, refusal_text}
use Rattle.print.specs.Steps.{Out, pushes, is_number}
use Rattle.print.proofs.Pushes.{pushes_append}

-- ---- labels

pub number_text : (l : ℤ) → is_number l ≡ true → label_text l ≡ decimal (nat_abs l)
unfolding is_number label_text
number_text (pos m) h = refl
number_text (negsuc m) h = absurd (false≢true h)

pub none_text : (l : ℤ) → is_number l ≡ false → label_text l ≡ 45 ∷ 49 ∷ []
unfolding is_number label_text
none_text (pos m) h = absurd (false≢true (sym h))
none_text (negsuc m) h = refl

-- ---- a line

pub line_pushed : (o : Out) (t f : ℕ) (l : ℤ)
    → pushes o (line t f l) ≡ pushes (pushes (pushes (pushes (pushes (pushes o (decimal t)) (space ∷ [])) (decimal f)) (space ∷ [])) (label_text l)) (line_feed ∷ [])
unfolding line pushes
line_pushed o t f l = simp pushes_append

-- ---- the lines of a trace

pub trace_next : (o : Out) (ls : List ℤ) (t f : ℕ) → f < length ls
    → pushes o (trace_lines t f (drop f ls)) ≡ pushes (pushes o (line t f (get_or ls f (pos 0)))) (trace_lines t (f + 1) (drop (f + 1) ls))
unfolding trace_lines
trace_next o ls t f h = rw (drop-cons ls f (pos 0) h, add-one f) (pushes_append o (line t f (get_or ls f (pos 0))) (trace_lines t (suc f) (drop (suc f) ls)))

pub trace_done : (o : Out) (ls : List ℤ) (t f : ℕ) → length ls ≤ f → pushes o (trace_lines t f (drop f ls)) ≡ o
unfolding trace_lines pushes
trace_done o ls t f h = rw (drop_of_length-le ls {i = f} h)

-- ---- the lines of all traces

-- The next trace: its labels are the first of those that are left.
pub lines_next : (o : Out) (lens : List ℕ) (ls : List ℤ) (t : ℕ) → t < length lens
    → let k = min (get_or lens t 0) (length ls) in pushes o (lines t (drop t lens) ls) ≡ pushes (pushes o (trace_lines t 0 (take k ls))) (lines (t + 1) (drop (t + 1) lens) (drop k ls))
unfolding lines
lines_next o lens ls t h =
    let n = get_or lens t 0 in
    rw (drop-cons lens t 0 h, add-one t, take_min n ls, drop_min n ls) (pushes_append o (trace_lines t 0 (take n ls)) (lines (suc t) (drop (suc t) lens) (drop n ls)))

pub lines_done : (o : Out) (lens : List ℕ) (ls : List ℤ) (t : ℕ) → length lens ≤ t → pushes o (lines t (drop t lens) ls) ≡ o
unfolding lines pushes
lines_done o lens ls t h = rw (drop_of_length-le lens {i = t} h)

pub labels_pushed : (o : Out) (lens : List ℕ) (ls : List ℤ) → pushes o (labels_text lens ls) ≡ pushes (pushes o label_names) (lines 0 lens ls)
unfolding labels_text
labels_pushed o lens ls = pushes_append o label_names (lines 0 lens ls)

-- ---- a refusal

pub refusal_pushed : (o : Out) (e : Refusal)
    → pushes o (refusal_text e) ≡ pushes (pushes (pushes (pushes (pushes o refused_names) (decimal (number_of e))) (space ∷ [])) (decimal (trace_of e))) (line_feed ∷ [])
unfolding refusal_text pushes
refusal_pushed o e = simp pushes_append
