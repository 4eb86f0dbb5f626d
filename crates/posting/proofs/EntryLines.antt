-- A line of the sheet: 14 bytes that end in a line feed, and the line of a fix reads back to it.
use mathlib.Core.Path.{◌≡◌, refl, sym, ap, ◌∙◌}
use mathlib.Core.Bool.{Bool, true, false, cond}
use mathlib.Core.List.{List, [], ◌∷◌, ◌++◌}
use mathlib.Core.Option.{some, bind}
use Prim.Native.Nat.{ℕ, zero, suc, ◌+◌, ◌-◌, ◌<◌}
use native.Mathlib.Omega.{arith}
use borrow.Author.Tests.{leb-true, eqb-true}
use lib.Dec.{eqb}
use lib.IntN.{ℤ, pos, negsuc}
use lib.ListN.{length, get_or, take, drop, replicate, length-append}
use lib.Seq.{take_at, get_or_at, get_or-drop, drop-append-add}
use Rattle.text.specs.Bytes.{bytes, is_digit, line_feed, space}
use Rattle.text.specs.Fields.{number, bad, all_digits, size_from, digits_of, after_minus, field_of}
use Rattle.print.specs.Lines.{decimal, label_text}
use Rattle.print.proofs.ReadBack.{decimal_reads}
use Rattle.posting.specs.Sheet.{entry, entry_line, heading, right_aligned}
use Rattle.posting.specs.Posted.{in_column}
use Rattle.posting.specs.Meaning.{without_spaces, number_in, label_in, read_entry}
use Rattle.posting.specs.Steps.{Within}
use Rattle.posting.proofs.Digits.{aligned_length}

-- A line of the sheet, be it a heading or that of a fix.
pub record Line (l : List ℕ) : Type 0 where
  pub long : length l ≡ 14
  pub feed : get_or l 13 0 ≡ line_feed

pub heading_line : Line heading
unfolding heading bytes
heading_line = record { long = refl; feed = refl }

-- ---- the columns

-- A text of 3, 5 and 3 columns, a space between them and a line feed at the end.
columned : List ℕ → List ℕ → List ℕ → List ℕ
columned a b c = a ++ (space ∷ b ++ (space ∷ c ++ (line_feed ∷ [])))

-- Past a text of w columns and the byte b after it.
past : (w : ℕ) (p q : List ℕ) (b m : ℕ) → length p ≡ w → drop (suc w + m) (p ++ (b ∷ q)) ≡ drop m q
past w p q b m h = let e : suc w + m ≡ length p + suc m = omega arith in rw e (drop-append-add p (b ∷ q) (suc m))

module _ (a b c : List ℕ) (m : length a ≡ 3) (n : length b ≡ 5) (o : length c ≡ 3) where
  past_two : drop 10 (columned a b c) ≡ c ++ (line_feed ∷ [])
  unfolding columned
  past_two = past 3 a (b ++ (space ∷ c ++ (line_feed ∷ []))) space 6 m ∙ past 5 b (c ++ (line_feed ∷ [])) space 0 n

  columned_line : Line (columned a b c)
  unfolding columned
  columned_line = record {
    long = simp length-append (omega arith);
    feed = sym (get_or-drop 10 (columned a b c) 3 0) ∙ ap (λ (s : List ℕ). get_or s 3 0) past_two ∙ get_or_at c line_feed [] 0 3 o;
  }

  first_columns : take 3 (drop 0 (columned a b c)) ≡ a
  unfolding columned
  first_columns = take_at a (space ∷ b ++ (space ∷ c ++ (line_feed ∷ []))) 3 m

  next_columns : take 5 (drop 4 (columned a b c)) ≡ b
  unfolding columned
  next_columns = ap (take 5) (past 3 a (b ++ (space ∷ c ++ (line_feed ∷ []))) space 0 m) ∙ take_at b (space ∷ c ++ (line_feed ∷ [])) 5 n

  last_columns : take 3 (drop 10 (columned a b c)) ≡ c
  last_columns = ap (take 3) past_two ∙ take_at c (line_feed ∷ []) 3 o

trace_columns : (t : ℕ) → t < 1000 → length (right_aligned 3 (decimal t)) ≡ 3
trace_columns t h = aligned_length 2 t h (omega arith)

fix_columns : (f : ℕ) → f < 100000 → length (right_aligned 5 (decimal f)) ≡ 5
fix_columns f h = aligned_length 4 f h (omega arith)

label_columns : (l : ℤ) → in_column l ≡ true → length (right_aligned 3 (label_text l)) ≡ 3
unfolding in_column label_text
label_columns (pos n) h = let k = leb-true n 511 h in trace_columns n (omega arith)
label_columns (negsuc n) h = unfold right_aligned in refl

-- ---- what is read in them

space_bad : (bs : List ℕ) → field_of (space ∷ bs) ≡ bad
unfolding field_of digits_of all_digits is_digit
space_bad bs = refl

-- A text that says a number does not begin with a space.
no_space : (s : List ℕ) (g : Bool) (n : ℕ) → field_of s ≡ number g n → without_spaces s ≡ s
unfolding without_spaces
no_space [] g n e = refl
no_space (b ∷ bs) g n e = go (eqb b space) refl
  where
    go : (t : Bool) → eqb b space ≡ t → cond t (without_spaces bs) (b ∷ bs) ≡ b ∷ bs
    go true h = let q = eqb-true b space h in let z : ◌≡◌ {A = ℕ} 0 1 = cc (space_bad bs) in absurd (omega arith)
    go false h = refl

spaces_off : (k : ℕ) (s : List ℕ) → without_spaces (replicate k space ++ s) ≡ without_spaces s
unfolding without_spaces
spaces_off zero s = refl
spaces_off (suc k) s = spaces_off k s

aligned_field : (w : ℕ) (s : List ℕ) (g : Bool) (n : ℕ) → field_of s ≡ number g n → field_of (without_spaces (right_aligned w s)) ≡ number g n
unfolding right_aligned
aligned_field w s g n e = ap field_of (spaces_off (w - length s) s ∙ no_space s g n e) ∙ e

number_read : (w n : ℕ) → n < 100000 → number_in (field_of (without_spaces (right_aligned w (decimal n)))) ≡ some n
unfolding number_in
number_read w n h = ap number_in (aligned_field w (decimal n) false n (decimal_reads n (omega arith)))

label_read : (l : ℤ) → in_column l ≡ true → label_in (field_of (without_spaces (right_aligned 3 (label_text l)))) ≡ some l
unfolding in_column label_text label_in right_aligned without_spaces field_of after_minus digits_of all_digits is_digit size_from
label_read (pos n) h = let k = leb-true n 511 h in ap label_in (aligned_field 3 (decimal n) false n (decimal_reads n (omega arith)))
label_read (negsuc n) h = ap (λ (m : ℕ). some (negsuc m)) (sym (eqb-true n 0 h))

-- ---- the line of a fix

module _ (t f : ℕ) (l : ℤ) (w : Within t f l) where
  pub entry_line_lem : Line (entry_line (entry t f l))
  unfolding entry_line columned
  entry_line_lem =
      columned_line (right_aligned 3 (decimal t)) (right_aligned 5 (decimal f)) (right_aligned 3 (label_text l)) (trace_columns t w.trace_within)
      (fix_columns f w.fix_within) (label_columns l w.label_within)

  pub entry_reads : read_entry (entry_line (entry t f l)) ≡ some (entry t f l)
  unfolding read_entry entry_line columned bind
  entry_reads =
      let a = right_aligned 3 (decimal t) in
      let b = right_aligned 5 (decimal f) in
      let c = right_aligned 3 (label_text l) in
      let m = trace_columns t w.trace_within in
      let n = fix_columns f w.fix_within in
      let o = label_columns l w.label_within in
      rw (first_columns a b c m n o, next_columns a b c m n o, last_columns a b c m n o)
      (rw (number_read 3 t (omega (arith, w.trace_within)), number_read 5 f w.fix_within, label_read l w.label_within))
