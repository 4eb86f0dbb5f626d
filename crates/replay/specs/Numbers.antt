-- Unsigned decimal numbers in a text of bytes. Definitions only.
use Rattle.std.specs.Prelude.{ℕ, zero, suc, ◌+◌, ◌-◌, ◌*◌, ◌^◌, Bool, ◌&&◌, cond, List, [], ◌∷◌, take, drop, leb, ltb}
use Rattle.replay.specs.declared.Numbers.{Numbers}

-- A byte from '0' to '9'.
abbrev pub is_digit : ℕ → Bool
is_digit b = leb 48 b && leb b 57

-- The number n with the digit b after it, or 0 where that takes more than 64 bits.
unfoldable pub with_digit : ℕ → ℕ → ℕ
with_digit n b = let m = n * 10 + (b - 48) in cond (ltb m (2 ^ 64)) m 0

-- How many bytes stand before the first digit, and how many digits stand at the start.
unfoldable pub before : List ℕ → ℕ
before [] = 0
before (b ∷ s) = cond (is_digit b) 0 (suc (before s))

unfoldable pub digits : List ℕ → ℕ
digits [] = 0
digits (b ∷ s) = cond (is_digit b) (suc (digits s)) 0

-- The number that n and the digits at the start make.
unfoldable pub value : ℕ → List ℕ → ℕ
unfolding with_digit
value n [] = n
value n (b ∷ s) = cond (is_digit b) (value (with_digit n b) s) n

-- The next number at or after the place i: where it starts, its value (0 where there is none), and the place after it.
abbrev pub start : List ℕ → ℕ → ℕ
start t i = i + before (drop i t)

abbrev pub value_at : List ℕ → ℕ → ℕ
value_at t i = value 0 (drop (start t i) t)

abbrev pub after : List ℕ → ℕ → ℕ
after t i = start t i + digits (drop (start t i) t)

-- The place after n numbers from the place i on, and number n from there on, counted from 0.
unfoldable pub skip : List ℕ → ℕ → ℕ → ℕ
skip t i zero = i
skip t i (suc n) = after t (skip t i n)

unfoldable pub number_at : List ℕ → ℕ → ℕ → ℕ
unfolding skip
number_at t i n = value_at t (skip t i n)

-- A reader that has passed n numbers.
abbrev pub past : Numbers → ℕ → Numbers
past s n = record s { at = skip s.text.now s.at n }

-- The text that is written at the place i: the next number says how many bytes it has, and one byte stands between.
abbrev pub text_at : List ℕ → ℕ → List ℕ
text_at t i = take (value_at t i) (drop (after t i + 1) t)
