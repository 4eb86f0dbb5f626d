-- Laws of the reading of a case: one place of a list more, the sum of the lengths so far, and a float.
use Rattle.std.proofs.Common.{◌≡◌, ℕ, suc, ◌+◌, ◌*◌, ◌<◌, ◌≤◌, min, List, length, set, drop, refl, add-one, arith}
use Rattle.std.proofs.Math.ListN.{get_or, drop_of_length-le}
use Rattle.std.proofs.Math.Seq.{drop-cons}
use Rattle.trace.specs.Trace.{total}
use Rattle.replay.specs.Numbers.{skip}
use Rattle.replay_case.specs.Case.{filled}

module _ {A : Type 0} (f : ℕ → A) where
  pub filled_none : (l : List A) → l ≡ filled f 0 l
  unfolding filled
  filled_none l = refl

  pub filled_one_more : (n : ℕ) (l : List A) → filled f (n + 1) l ≡ set (filled f n l) n (f n)
  unfolding filled
  filled_one_more n l = rw (add-one n)

module _ (l : List ℕ) (k c : ℕ) where
  -- One length more.
  pub sum_on : k < length l → min (min (c + get_or l k 0) 65537 + total (drop (k + 1) l)) 65537 ≡ min (c + total (drop k l)) 65537
  unfolding total
  sum_on h = rw (drop-cons l k 0 h, add-one k) (omega arith)

  -- No length is left: the sum so far is the answer.
  pub sum_done : (s : ℕ) → length l ≤ k → c ≤ 65537 → min (c + total (drop k l)) 65537 ≡ s → c ≡ s
  unfolding total
  sum_done s h few e =
      let none : total (drop k l) ≡ 0 = rw (drop_of_length-le l h) in
      omega arith

-- Where the numbers of a fix stand.
module _ (t : List ℕ) (i k : ℕ) where
  pub skip_y : skip t i (4 * k + 1) ≡ skip t (skip t i (4 * k)) 1
  unfolding skip
  skip_y = rw (add-one (4 * k))

  pub skip_mark : skip t i (4 * k + 2) ≡ skip t (skip t (skip t i (4 * k)) 1) 1
  unfolding skip
  skip_mark = let e : 4 * k + 2 ≡ suc (suc (4 * k)) = omega arith in rw e

  pub skip_time : skip t i (4 * k + 3) ≡ skip t (skip t (skip t (skip t i (4 * k)) 1) 1) 1
  unfolding skip
  skip_time = let e : 4 * k + 3 ≡ suc (suc (suc (4 * k))) = omega arith in rw e

  pub skip_fix : skip t i (4 * (k + 1)) ≡ skip t (skip t (skip t (skip t (skip t i (4 * k)) 1) 1) 1) 1
  unfolding skip
  skip_fix = let e : 4 * (k + 1) ≡ suc (suc (suc (suc (4 * k)))) = omega arith in rw e
