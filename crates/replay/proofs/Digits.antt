-- Laws of the digits of a text: the bytes before them in std's words, how many they are, and what they make.
use Rattle.std.proofs.Common.{◌≡◌, ℕ, suc, ◌+◌, ◌<◌, ◌≤◌, Bool, true, false, not, cond, List, [], ◌∷◌, length, drop, ◌∙◌, refl, add-one, arith}
use Rattle.std.proofs.Math.ListN.{get_or, drop_of_length-le}
use Rattle.std.proofs.Math.Seq.{drop-cons}
use Rattle.std.proofs.Math.Numerals.{one-add}
use Rattle.std.specs.List.{prefix_len, take_while}
use Rattle.std.proofs.lemmas.List.Folds.{length-prefix_len}
use Rattle.std.specs.Char.{is_ascii_digit}
use Rattle.replay.specs.Numbers.{is_digit, with_digit, before, digits, value}

passed : (d : Bool) (n : ℕ) → cond (not d) (1 + n) 0 ≡ cond d 0 (suc n)
passed true n = refl
passed false n = one-add n

-- how many bytes stand before the first digit
before_len : (s : List ℕ) → prefix_len (λ b. not (is_ascii_digit b)) s ≡ before s
unfolding before
before_len [] = refl
before_len (b ∷ s) = rw (before_len s) (passed (is_digit b) (before s))

pub before_is : (s : List ℕ) → length (take_while (λ b. not (is_ascii_digit b)) s) ≡ before s
before_is s = length-prefix_len _ s ∙ before_len s

-- what the digits make and how many they are, told from the place i on: where the byte there is a digit, and where not
module _ (t : List ℕ) (i : ℕ) (h : i < length t) where
  pub digits_on : is_ascii_digit (get_or t i 0) ≡ true → i + 1 + digits (drop (i + 1) t) ≡ i + digits (drop i t)
  unfolding digits
  digits_on e = rw (add-one i, drop-cons t i 0 h, e) (omega arith)

  pub digits_stop : is_ascii_digit (get_or t i 0) ≡ false → i + digits (drop i t) ≡ i
  unfolding digits
  digits_stop e = rw (drop-cons t i 0 h, e) (omega arith)

  pub value_on : is_ascii_digit (get_or t i 0) ≡ true → (n : ℕ) → value (with_digit n (get_or t i 0)) (drop (i + 1) t) ≡ value n (drop i t)
  unfolding value
  value_on e n = rw (add-one i, drop-cons t i 0 h, e)

  pub value_stop : is_ascii_digit (get_or t i 0) ≡ false → (n : ℕ) → value n (drop i t) ≡ n
  unfolding value
  value_stop e n = rw (drop-cons t i 0 h, e)

-- and at the end of the text
module _ (t : List ℕ) (i : ℕ) (h : length t ≤ i) where
  pub digits_end : i + digits (drop i t) ≡ i
  unfolding digits
  digits_end = rw (drop_of_length-le t h) (omega arith)

  pub value_end : (n : ℕ) → value n (drop i t) ≡ n
  unfolding value
  value_end n = rw (drop_of_length-le t h)
