-- A number at the right end of its columns, digit by digit: a space where a column in front has no digit.
use mathlib.Core.Path.{◌≡◌, refl, sym, ap, ◌∙◌}
use mathlib.Core.Bool.{Bool, true, false, cond}
use mathlib.Core.List.{List, [], ◌∷◌, ◌++◌, append_assoc}
use Prim.Native.Nat.{ℕ, zero, suc, ◌+◌, ◌-◌, ◌*◌, ◌^◌, ◌/◌, ◌%◌, ◌≤◌, ◌<◌}
use native.Mathlib.Numerals.{unary_clauses}
use native.Mathlib.Omega.{arith}
use borrow.Author.Tests.{ltb-true, ltb-false, ne_eqb}
use lib.Dec.{ltb}
use lib.ListN.{length, length-append, replicate, take, drop}
use Rattle.text.specs.Bytes.{space}
use Rattle.print.specs.Lines.{digits, decimal}
use Rattle.print.specs.Steps.{Out, pushes}
-- Named so that the examples are checked before these lemmas.
use Rattle.posting.specs.Examples
use Rattle.posting.specs.Sheet.{right_aligned}
use Rattle.posting.specs.Steps.{last_digit, front_digit, front_columns}

one_more : (w b : ℕ) → replicate w b ++ (b ∷ []) ≡ replicate (suc w) b
one_more zero b = refl
one_more (suc w) b = ap (λ (s : List ℕ). b ∷ s) (one_more w b)

blank : (w n : ℕ) → n ≡ 0 → front_columns w n ≡ replicate w space
unfolding front_columns front_digit
blank zero n z = refl
blank (suc w) n z =
    let q : n / 10 ≡ 0 = omega arith in
    rw (blank w (n / 10) q, z) (one_more w space)

front_last : (n : ℕ) → (n ≡ 0 → ⊥) → front_digit n ≡ last_digit n
unfolding front_digit
front_last n z = rw (ne_eqb n 0 z)

-- One digit more, at the end.
aligned_more : (w : ℕ) (d : List ℕ) (b : ℕ) → right_aligned (suc w) (d ++ (b ∷ [])) ≡ right_aligned w d ++ (b ∷ [])
unfolding right_aligned
aligned_more w d b =
    let e : suc w - length (d ++ (b ∷ [])) ≡ w - length d = rw (length-append d (b ∷ [])) (omega arith) in
    rw e (sym (append_assoc (replicate (w - length d) space) d (b ∷ [])))

aligned_one : (w b : ℕ) → right_aligned (suc w) (b ∷ []) ≡ replicate w space ++ (b ∷ [])
unfolding right_aligned
aligned_one w b = let k : suc w - 1 ≡ w = omega arith in rw k

-- All columns of a number, where those in front of the last are right.
module _ (w f n : ℕ) (front : (n / 10 ≡ 0 → ⊥) → front_columns w (n / 10) ≡ right_aligned w (digits f (n / 10))) where
  with_last : right_aligned (suc w) (digits (suc f) n) ≡ front_columns w (n / 10) ++ (last_digit n ∷ [])
  unfolding digits
  with_last = go (ltb n 10) refl
    where
      go : (b : Bool) → ltb n 10 ≡ b → right_aligned (suc w) (cond b ((48 + n) ∷ []) (digits f (n / 10) ++ ((48 + n % 10) ∷ []))) ≡ front_columns w (n / 10) ++ (last_digit n ∷ [])
      go true e =
          let h : n < 10 = ltb-true n 10 e in
          let q : n / 10 ≡ 0 = omega arith in
          let r : n % 10 ≡ n = omega arith in
          aligned_one w (48 + n) ∙ rw (blank w (n / 10) q, r)
      go false e =
          let h : 10 ≤ n = ltb-false n 10 e in
          aligned_more w (digits f (n / 10)) (48 + n % 10) ∙ ap (λ (s : List ℕ). s ++ (last_digit n ∷ [])) (sym (front (λ q. omega arith)))

power : (w : ℕ) → 10 ^ suc w ≡ 10 * 10 ^ w
power w = simp unary_clauses (omega arith)

front_aligned : (w f n : ℕ) → (n ≡ 0 → ⊥) → n < 10 ^ w → w ≤ f → front_columns w n ≡ right_aligned w (digits f n)
unfolding front_columns
front_aligned zero f n z h k = absurd (z (let e : 10 ^ 0 ≡ 1 = refl in omega arith))
front_aligned (suc w) zero n z h k = absurd (omega arith)
front_aligned (suc w) (suc f) n z h k =
    ap (λ (b : ℕ). front_columns w (n / 10) ++ (b ∷ [])) (front_last n z)
    ∙ sym (with_last w f n (λ q. front_aligned w f (n / 10) q (omega (arith, power w)) (omega arith)))

-- A number that has at most as many digits as there are columns.
aligned : (w n : ℕ) → n < 10 ^ suc w → w ≤ 19 → right_aligned (suc w) (decimal n) ≡ front_columns w (n / 10) ++ (last_digit n ∷ [])
unfolding decimal
aligned w n h k = with_last w 19 n (λ q. front_aligned w 19 (n / 10) q (omega (arith, power w)) k)

front_length : (w n : ℕ) → length (front_columns w n) ≡ w
unfolding front_columns
front_length zero n = refl
front_length (suc w) n = length-append (front_columns w (n / 10)) (front_digit n ∷ []) ∙ (rw (front_length w (n / 10)) (omega arith))

-- It fills its columns.
pub aligned_length : (w n : ℕ) → n < 10 ^ suc w → w ≤ 19 → length (right_aligned (suc w) (decimal n)) ≡ suc w
aligned_length w n h k = rw (aligned w n h k, length-append (front_columns w (n / 10)) (last_digit n ∷ []), front_length w (n / 10)) (omega arith)

-- ---- as the code writes it

-- Five columns, n being the number up to the last of them.
five_columns : ℕ → List ℕ
five_columns n = front_digit (n / 10000) ∷ front_digit (n / 1000) ∷ front_digit (n / 100) ∷ front_digit (n / 10) ∷ last_digit n ∷ []

hundreds : (n : ℕ) → n / 10 / 10 ≡ n / 100
hundreds n = omega arith

thousands : (n : ℕ) → n / 100 / 10 ≡ n / 1000
thousands n = omega arith

ten_thousands : (n : ℕ) → n / 1000 / 10 ≡ n / 10000
ten_thousands n = omega arith

-- The last of them are the columns of a number, one by one.
last_of_five : (w n : ℕ) → w ≤ 4 → front_columns w (n / 10) ++ (last_digit n ∷ []) ≡ take (5 - (4 - w)) (drop (4 - w) (five_columns n))
unfolding front_columns five_columns
last_of_five zero n k = refl
last_of_five (suc zero) n k = refl
last_of_five (suc (suc zero)) n k = rw (hundreds n) refl
last_of_five (suc (suc (suc zero))) n k = rw (hundreds n, thousands n) refl
last_of_five (suc (suc (suc (suc zero)))) n k = rw (hundreds n, thousands n, ten_thousands n) refl
last_of_five (suc (suc (suc (suc (suc w))))) n k = absurd (omega arith)

pub last_columns : (o o₁ : Out) (w n : ℕ) → 1 ≤ w → w ≤ 5 → n < 10 ^ w
    → o₁ ≡ pushes o (take (5 - (5 - w)) (drop (5 - w) (front_digit (n / 10000) ∷ front_digit (n / 1000) ∷ front_digit (n / 100) ∷ front_digit (n / 10) ∷ last_digit n ∷ [])))
    → o₁ ≡ pushes o (right_aligned w (decimal n))
unfolding five_columns
last_columns o o₁ zero n a b h p = absurd (omega arith)
last_columns o o₁ (suc w) n a b h p =
    let e : 5 - suc w ≡ 4 - w = omega arith in
    rw (aligned w n h (omega arith), last_of_five w n (omega arith)) (rw e at p)
