-- How long the texts are: 49,152 bytes hold the labels of 768 fixes, 64 bytes a refusal. There the text stands whole.
use mathlib.Core.Path.{◌≡◌, ap, ◌∙◌}
use mathlib.Core.Bool.{Bool, true, false, cond}
use mathlib.Core.List.{List, [], ◌∷◌, ◌++◌}
use Prim.Native.Nat.{ℕ, zero, suc, ◌+◌, ◌*◌, ◌/◌, ◌%◌, ◌≤◌}
use native.Mathlib.Omega.{arith}
use lib.Dec.{ltb}
use lib.ListN.{length, take, drop, length-append}
use lib.Seq.{take_all}
use lib.IntN.{ℤ, pos, negsuc}
use Rattle.lists.specs.Lists.{overlay}
use Rattle.lists.proofs.Overlay.{take_front}
use Rattle.text.specs.Parsed.{into}
use Rattle.settings.specs.declared.refusal.Refusal.{Refusal}
use Rattle.settings.specs.Refusals.{number_of, trace_of}
use Rattle.print.specs.Lines.{digits, decimal, label_text, line, trace_lines, lines, label_names, labels_text, refused_names, refusal_text}
use Rattle.print.specs.Written.{Writes}

digits_length : (f n : ℕ) → length (digits f n) ≤ f
unfolding digits
digits_length zero n = omega arith
digits_length (suc f) n = go (ltb n 10) (digits_length f (n / 10))
  where
    go : (t : Bool) → length (digits f (n / 10)) ≤ f → length (cond t ((48 + n) ∷ []) (digits f (n / 10) ++ ((48 + n % 10) ∷ []))) ≤ suc f
    go true h = omega arith
    go false h = rw (length-append (digits f (n / 10)) ((48 + n % 10) ∷ [])) (omega arith)

decimal_length : (n : ℕ) → length (decimal n) ≤ 20
unfolding decimal
decimal_length n = digits_length 20 n

label_length : (l : ℤ) → length (label_text l) ≤ 20
unfolding label_text
label_length (pos n) = decimal_length n
label_length (negsuc n) = omega arith

line_length : (t f : ℕ) (l : ℤ) → length (line t f l) ≤ 63
unfolding line
line_length t f l =
    let a = decimal_length t in
    let b = decimal_length f in
    let c = label_length l in
    simp length-append (omega arith)

trace_length : (t f : ℕ) (ls : List ℤ) → length (trace_lines t f ls) ≤ 63 * length ls
unfolding trace_lines
trace_length t f [] = omega arith
trace_length t f (l ∷ ls) =
    let a = line_length t f l in
    let b = trace_length t (suc f) ls in
    rw (length-append (line t f l) (trace_lines t (suc f) ls)) (omega arith)

lines_length : (t : ℕ) (ns : List ℕ) (ls : List ℤ) → length (lines t ns ls) ≤ 63 * length ls
unfolding lines
lines_length t [] ls = omega arith
lines_length t (n ∷ ns) ls =
    let a = trace_length t 0 (take n ls) in
    let b = lines_length (suc t) ns (drop n ls) in
    rw (length-append (trace_lines t 0 (take n ls)) (lines (suc t) ns (drop n ls))) (omega (arith, parts n ls))
  where
    parts : (n : ℕ) (ls : List ℤ) → length (take n ls) + length (drop n ls) ≡ length ls
    parts zero ls = omega arith
    parts (suc n) [] = omega arith
    parts (suc n) (l ∷ ls) = let r = parts n ls in omega arith

pub labels_length : (ns : List ℕ) (ls : List ℤ) → length (labels_text ns ls) ≤ 16 + 63 * length ls
unfolding labels_text label_names
labels_length ns ls = let a = lines_length 0 ns ls in omega (arith, length-append label_names (lines 0 ns ls))

pub refusal_length : (e : Refusal) → length (refusal_text e) ≤ 56
unfolding refusal_text refused_names
refusal_length e =
    let a = decimal_length (number_of e) in
    let b = decimal_length (trace_of e) in
    simp length-append (omega arith)

-- ---- within the slice, and whole where there is room

pub within : (text l : List ℕ) (r : ℕ) (l' : List ℕ) → Writes text l r l' → r ≤ length l
within text l r l' w = omega (arith, short text (length l), w.count)
  where
    short : (t : List ℕ) (n : ℕ) → length (take n t) ≤ n
    short t zero = omega arith
    short [] (suc n) = omega arith
    short (b ∷ t) (suc n) = let r = short t n in omega arith

pub whole : (text l : List ℕ) (r : ℕ) (l' : List ℕ) → Writes text l r l' → length text ≤ length l → (r ≡ length text) × (take r l' ≡ text)
unfolding into
whole text l r l' w h =
    let a : take (length l) text ≡ text = take_all (length l) text h in
    let n : r ≡ length text = w.count ∙ ap length a in
    (n, take_front text l l' r n (w.bytes ∙ ap (λ (t : List ℕ). overlay t l) a))

pub labels_whole : (ns : List ℕ) (ls : List ℤ) (l : List ℕ) (r : ℕ) (l' : List ℕ) → Writes (labels_text ns ls) l r l' → length ls ≤ 768 → length l ≡ 49152
    → take r l' ≡ labels_text ns ls
labels_whole ns ls l r l' w h e = let a = labels_length ns ls in (whole (labels_text ns ls) l r l' w (omega arith)).1

pub refusal_whole : (e : Refusal) (l : List ℕ) (r : ℕ) (l' : List ℕ) → Writes (refusal_text e) l r l' → length l ≡ 64 → take r l' ≡ refusal_text e
refusal_whole e l r l' w h = let a = refusal_length e in (whole (refusal_text e) l r l' w (omega arith)).1
