-- The parts of the work slice: what an insertion into the first two, and a store into one part, leave of each.
use mathlib.Core.Path.{◌≡◌, ap, ◌∙◌}
use mathlib.Core.List.{List}
use Prim.Native.Nat.{ℕ, ◌+◌, ◌≤◌, ◌<◌}
use native.Mathlib.Omega.{arith}
use lib.ListN.{length, take, drop, length-append, length-drop}
use lib.Seq.{length-take-le, take_at}
use lib.Ieee.{Float}
use Rattle.stay.specs.Ordered.{insert_ordered}
use Rattle.lists.specs.StepsParts.{part, put}
use Rattle.lists.proofs.Parts.{part_length, part_put_same, drop_put, take_put, length_put}
use Rattle.stay.specs.StepsRegions.{insert_in, insert_both}
use Rattle.stay.proofs.Ordered.{insert_length}

-- the elements in order of a part after one insertion
pub grown : (i : ℕ) (e : Float) (r : List Float) → i < length r → take (i + 1) (insert_in i e r) ≡ insert_ordered e (take i r)
unfolding insert_in
grown i e r h = take_at (insert_ordered e (take i r)) (drop (i + 1) r) (i + 1) (omega (arith, insert_length e (take i r), length-take-le i r (omega arith)))

length_in : (i : ℕ) (e : Float) (r : List Float) → i < length r → length (insert_in i e r) ≡ length r
unfolding insert_in
length_in i e r h = simp (length-append, length-drop) (omega (arith, insert_length e (take i r), length-take-le i r (omega arith)))

module _ (n i : ℕ) (x y : Float) (w : List Float) (fits : n + n ≤ length w) (more : i < n) where
  R₁ : List Float
  R₁ = insert_in i x (part 0 n w)

  length_r₁ : length R₁ ≡ n
  unfolding R₁
  length_r₁ = length_in i x (part 0 n w) (omega (arith, part_length 0 n w (omega arith))) ∙ part_length 0 n w (omega arith)

  W₁ : List Float
  W₁ = put 0 n R₁ w

  length_w₁ : length W₁ ≡ length w
  unfolding W₁
  length_w₁ = length_put 0 n R₁ w (omega arith) length_r₁

  length_s : length (insert_in i y (part n n W₁)) ≡ n
  length_s = length_in i y (part n n W₁) (omega (arith, part_length n n W₁ (omega (arith, length_w₁)))) ∙ part_length n n W₁ (omega (arith, length_w₁))

  -- the second part after the first insertion
  pub second_kept : part n n (put 0 n (insert_in i x (part 0 n w)) w) ≡ part n n w
  unfolding R₁
  second_kept = ap (take n) (drop_put 0 n n R₁ w (omega arith) length_r₁ (omega arith))

  both_0 : part 0 n (insert_both n i x y w) ≡ insert_in i x (part 0 n w)
  unfolding insert_both W₁ R₁
  both_0 = take_put n n n (insert_in i y (part n n W₁)) W₁ (omega (arith, length_w₁)) (omega arith) ∙ part_put_same 0 n R₁ w (omega arith) length_r₁

  both_n : part n n (insert_both n i x y w) ≡ insert_in i y (part n n w)
  unfolding insert_both W₁ R₁
  both_n = part_put_same n n (insert_in i y (part n n W₁)) W₁ (omega (arith, length_w₁)) length_s ∙ ap (insert_in i y) second_kept

  pub grown_x : (j : ℕ) → j ≡ i + 1 → take j (part 0 n (insert_both n i x y w)) ≡ insert_ordered x (take i (part 0 n w))
  grown_x j e = rw (e, both_0) (grown i x (part 0 n w) (omega (arith, part_length 0 n w (omega arith))))

  pub grown_y : (j : ℕ) → j ≡ i + 1 → take j (part n n (insert_both n i x y w)) ≡ insert_ordered y (take i (part n n w))
  grown_y j e = rw (e, both_n) (grown i y (part n n w) (omega (arith, part_length n n w fits)))

  pub both_above : (b : ℕ) → n + n ≤ b → drop b (insert_both n i x y w) ≡ drop b w
  unfolding insert_both W₁ R₁
  both_above b h = drop_put n n b (insert_in i y (part n n W₁)) W₁ (omega (arith, length_w₁)) length_s h ∙ drop_put 0 n b R₁ w (omega arith) length_r₁ (omega arith)
