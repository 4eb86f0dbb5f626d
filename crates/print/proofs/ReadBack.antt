-- What is printed reads back: a number as itself, and a line as its trace, fix and label, by the grammar of crate `text`.
use mathlib.Core.Path.{◌≡◌, refl, ◌∙◌}
use mathlib.Core.Bool.{Bool, true, false, cond, ◌&&◌}
use mathlib.Core.List.{List, [], ◌∷◌, ◌++◌, append_assoc}
use mathlib.Core.Option.{some, bind}
use Prim.Native.Nat.{ℕ, zero, suc, ◌+◌, ◌-◌, ◌*◌, ◌^◌, ◌/◌, ◌%◌, ◌≤◌, ◌<◌}
use native.Mathlib.Numerals.{unary_clauses}
use native.Mathlib.Omega.{arith}
use borrow.Author.Tests.{ltb-true, le-leb, ne_eqb, eq-eqb}
use lib.Dec.{ltb}
use lib.ListN.{length, length-append}
use lib.IntN.{ℤ, pos, negsuc, nat_abs}
use Rattle.lists.proofs.Tests.{and_left, and_right}
use Rattle.text.specs.Bytes.{is_digit, space, line_feed}
use Rattle.text.specs.Fields.{Field, number, all_digits, size_from, digits_of, after_minus, field_of, is_field}
use Rattle.text.specs.Form.{only_if, cut, row_of}
use Rattle.text.proofs.Numbers.{digit_low}
use Rattle.print.specs.Lines.{digits, decimal, label_text, line}

-- ---- digits

digit : (n : ℕ) → n < 10 → is_digit (48 + n) ≡ true
unfolding is_digit
digit n h = rw (le-leb 48 (48 + n) (omega arith), le-leb (48 + n) 57 (omega arith))

all_append : (a b : List ℕ) → all_digits a ≡ true → all_digits b ≡ true → all_digits (a ++ b) ≡ true
unfolding all_digits
all_append [] b p q = q
all_append (x ∷ a) b p q = rw (and_left (is_digit x) (all_digits a) p) (all_append a b (and_right (is_digit x) (all_digits a) p) q)

size_append : (a : List ℕ) (b v : ℕ) → size_from v (a ++ (b ∷ [])) ≡ size_from v a * 10 + (b - 48)
unfolding size_from
size_append [] b v = refl
size_append (x ∷ a) b v = size_append a b (v * 10 + (x - 48))

last_digit : (n : ℕ) → n % 10 < 10
last_digit n = omega arith

digits_all : (f n : ℕ) → all_digits (digits f n) ≡ true
unfolding digits all_digits
digits_all zero n = refl
digits_all (suc f) n = go (ltb n 10) refl (digits_all f (n / 10))
  where
    go : (b : Bool) → ltb n 10 ≡ b → all_digits (digits f (n / 10)) ≡ true → all_digits (cond b ((48 + n) ∷ []) (digits f (n / 10) ++ ((48 + n % 10) ∷ []))) ≡ true
    go true e i = rw (digit n (ltb-true n 10 e))
    go false e i = all_append (digits f (n / 10)) ((48 + n % 10) ∷ []) i (rw (digit (n % 10) (last_digit n)))

parts : (n : ℕ) → n / 10 * 10 + (48 + n % 10 - 48) ≡ n
parts n = omega arith

-- Enough digits write the number.
digits_size : (f n : ℕ) → n < 10 ^ f → size_from 0 (digits f n) ≡ n
unfolding digits size_from
digits_size zero n h = omega arith
digits_size (suc f) n h = go (ltb n 10) refl (λ k. digits_size f (n / 10) k)
  where
    go : (b : Bool) → ltb n 10 ≡ b → (n / 10 < 10 ^ f → size_from 0 (digits f (n / 10)) ≡ n / 10)
        → size_from 0 (cond b ((48 + n) ∷ []) (digits f (n / 10) ++ ((48 + n % 10) ∷ []))) ≡ n
    go true e i = omega arith
    go false e i = size_append (digits f (n / 10)) (48 + n % 10) 0 ∙ rw (i (omega (arith, power f))) (parts n)
      where
        power : (f : ℕ) → 10 ^ suc f ≡ 10 * 10 ^ f
        power f = simp unary_clauses (omega arith)

-- ---- a number

digits_some : (f n : ℕ) → 1 ≤ length (digits (suc f) n)
unfolding digits
digits_some f n = go (ltb n 10)
  where
    go : (b : Bool) → 1 ≤ length (cond b ((48 + n) ∷ []) (digits f (n / 10) ++ ((48 + n % 10) ∷ [])))
    go true = omega arith
    go false = rw (length-append (digits f (n / 10)) ((48 + n % 10) ∷ [])) (omega arith)

opened : (b : ℕ) (bs : List ℕ) → all_digits (b ∷ bs) ≡ true → is_digit b && all_digits bs ≡ true
unfolding all_digits
opened b bs a = a

as_number : (ds : List ℕ) (n : ℕ) → all_digits ds ≡ true → size_from 0 ds ≡ n → n ≤ 1000000000 → digits_of false ds ≡ number false n
unfolding digits_of
as_number ds n a s h = rw (a, s, le-leb n 1000000000 h)

-- Digits are a field that is a number.
digits_field : (ds : List ℕ) (n : ℕ) → 1 ≤ length ds → all_digits ds ≡ true → size_from 0 ds ≡ n → n ≤ 1000000000 → field_of ds ≡ number false n
unfolding field_of
digits_field [] n l a s h = absurd (omega arith)
digits_field (b ∷ bs) n l a s h =
    let k : 48 ≤ b = first b bs a in
    rw (ne_eqb b 45 (λ q. omega arith)) (as_number (b ∷ bs) n a s h)
  where
    first : (b : ℕ) (bs : List ℕ) → all_digits (b ∷ bs) ≡ true → 48 ≤ b
    first b bs a = digit_low b (and_left (is_digit b) (all_digits bs) (opened b bs a))

large : (n : ℕ) → n ≤ 1000000000 → n < 10 ^ 20
large n h = omega arith

-- A number that is printed reads back as itself.
pub decimal_reads : (n : ℕ) → n ≤ 1000000000 → field_of (decimal n) ≡ number false n
unfolding decimal
decimal_reads n h = digits_field (digits 20 n) n (digits_some 19 n) (digits_all 20 n) (digits_size 20 n (large n h)) h

-- ---- a line

-- A text without the byte e, and e after it.
unfoldable Without : ℕ → List ℕ → Type 0
Without e [] = Unit
Without e (b ∷ bs) = (b ≡ e → ⊥) × Without e bs

cut_here : (e : ℕ) (f r : List ℕ) → Without e f → cut e (f ++ (e ∷ r)) ≡ some (f, r)
unfolding Without cut
cut_here e [] r w = rw (eq-eqb e e refl)
cut_here e (b ∷ f) r (n, w) = rw (ne_eqb b e n, cut_here e f r w)

digits_without : (e : ℕ) (ds : List ℕ) → e < 48 → all_digits ds ≡ true → Without e ds
unfolding Without all_digits
digits_without e [] h a = tt
digits_without e (b ∷ bs) h a = let k = digit_low b (and_left (is_digit b) (all_digits bs) a) in (λ q. omega arith, digits_without e bs h (and_right (is_digit b) (all_digits bs) a))

decimal_without : (e n : ℕ) → e < 48 → Without e (decimal n)
unfolding decimal
decimal_without e n h = digits_without e (digits 20 n) h (digits_all 20 n)

label_without : (l : ℤ) → Without line_feed (label_text l)
unfolding label_text Without
label_without (pos n) = decimal_without 10 n (omega arith)
label_without (negsuc n) = (λ q. omega arith, (λ q. omega arith, tt))

-- The field that a label is printed as: its number, or -1.
pub label_field : ℤ → Field
label_field (pos n) = number false n
label_field (negsuc n) = number true 1

label_reads : (l : ℤ) → nat_abs l ≤ 1000000000 → field_of (label_text l) ≡ label_field l
unfolding label_text label_field field_of after_minus digits_of all_digits is_digit size_from
label_reads (pos n) h = decimal_reads n h
label_reads (negsuc n) h = refl

row_on : (e : ℕ) (es f r : List ℕ) (F : Field) (fs : List Field) (t : List ℕ) → Without e f → field_of f ≡ F → is_field F ≡ true → row_of es r ≡ some (fs, t)
    → row_of (e ∷ es) (f ++ (e ∷ r)) ≡ some ((F ∷ fs), t)
unfolding row_of bind only_if
row_on e es f r F fs t w p i q = rw (cut_here e f r w, p, i, q)

label_is : (l : ℤ) → is_field (label_field l) ≡ true
unfolding label_field is_field
label_is (pos n) = refl
label_is (negsuc n) = refl

number_is : (n : ℕ) → is_field (number false n) ≡ true
unfolding is_field
number_is n = refl

row_end : (r : List ℕ) → row_of [] r ≡ some ([], r)
unfolding row_of
row_end r = refl

-- A line reads back as its trace, fix and label.
pub line_reads : (t f : ℕ) (l : ℤ) (r : List ℕ) → t ≤ 1000000000 → f ≤ 1000000000 → nat_abs l ≤ 1000000000
    → row_of (space ∷ space ∷ line_feed ∷ []) (line t f l ++ r) ≡ some ((number false t ∷ number false f ∷ label_field l ∷ []), r)
unfolding line
line_reads t f l r a b c =
    let s : (decimal t ++ (space ∷ decimal f ++ (space ∷ label_text l ++ (line_feed ∷ [])))) ++ r ≡ decimal t ++ (space ∷ (decimal f ++ (space ∷ (label_text l ++ (line_feed ∷ r))))) = simp append_assoc in
    rw s
    (row_on space (space ∷ line_feed ∷ []) (decimal t) (decimal f ++ (space ∷ (label_text l ++ (line_feed ∷ r)))) (number false t) (number false f ∷ label_field l ∷ []) r (decimal_without 32 t (omega arith)) (decimal_reads t a) (number_is t)
    (row_on space (line_feed ∷ []) (decimal f) (label_text l ++ (line_feed ∷ r)) (number false f) (label_field l ∷ []) r (decimal_without 32 f (omega arith)) (decimal_reads f b) (number_is f)
    (row_on line_feed [] (label_text l) r (label_field l) [] r (label_without l) (label_reads l c) (label_is l) (row_end r))))
