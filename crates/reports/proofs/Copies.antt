-- A slice whose front is written.
use mathlib.Core.Path.{◌≡◌, sym, ap, ◌∙◌}
use mathlib.Core.List.{List, map, ◌++◌}
use Prim.Native.Nat.{ℕ, ◌+◌, ◌<◌, ◌≤◌}
use native.Mathlib.Numerals.{add-one}
use native.Mathlib.Omega.{arith}
use lib.ListN.{length, get_or, set, take, drop, length-map, get_or-map}
use lib.Seq.{length-take-le, take_all, take-suc, take-suc-set}
use Rattle.lists.specs.Lists.{upto, overlay}
use Rattle.lists.proofs.Upto.{length_upto, get_or_upto}

-- ---- f of each number below n, in order, item by item in t, which was lent of the first n items of s
module _ {A : Type 0} (f : ℕ → A) (n : ℕ) (s t : List A) (i : ℕ) (e : take i t ≡ take i (map f (upto n))) (l : length t ≡ length (take n s)) (room : n ≤ length s) where
  abbrev each : List A
  each = map f (upto n)

  each_length : length each ≡ n
  each_length = length-map (upto n) f ∙ length_upto n

  t_length : length t ≡ n
  t_length = l ∙ length-take-le n s room

  pub each_here : i < length (take n s) → i < n
  each_here h = omega (arith, l, t_length)

  -- The next of them, where the first i stand.
  pub each_on : {v : A} → i < length (take n s) → v ≡ f i → take (i + 1) (set t i v) ≡ take (i + 1) (map f (upto n))
  each_on {v} h q =
      let here : get_or each i (f 0) ≡ v = get_or-map f (upto n) i 0 ∙ ap f (get_or_upto n i (each_here h)) ∙ sym q in
      rw (add-one i, take-suc-set t i v (omega (arith, l)), take-suc each i (f 0) (omega (arith, each_here h, each_length)), here, e)

  pub each_end : length (take n s) ≤ i → t ++ drop n s ≡ overlay (map f (upto n)) s
  unfolding overlay
  each_end h =
      let all : t ≡ each = sym (take_all i t (omega (arith, l))) ∙ e ∙ take_all i each (omega (arith, l, t_length, each_length)) in
      ap (λ (z : List A). z ++ drop n s) all ∙ ap (λ (z : ℕ). each ++ drop z s) (sym each_length)
