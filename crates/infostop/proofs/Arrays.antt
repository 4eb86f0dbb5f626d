-- Arrays of 512: what they hold after a part in front of them has come back.
use mathlib.Core.Path.{◌≡◌, sym, ap, ◌∙◌}
use mathlib.Core.List.{List, ◌++◌, append_assoc}
use Prim.Native.Nat.{ℕ, ◌≤◌}
use native.Mathlib.Omega.{arith}
use lib.ListN.{length, take, drop, replicate, length-replicate, take-append-drop}
use lib.Seq.{length-take-le, drop-append-le}
use Rattle.lists.specs.Lists.{overlay}

abbrev pub array : {A : Type 0} → A → List A
array d = replicate 512 d

pub array_part : {A : Type 0} (d : A) (cap : ℕ) → cap ≤ 512 → length (take cap (array d)) ≡ cap
array_part d cap h = length-take-le cap (array d) (omega (arith, length-replicate 512 d))

-- A list that stands in front of a part of the array stands in front of the array.
pub array_front : {A : Type 0} (d : A) (cap : ℕ) (l p : List A) → cap ≤ 512 → length l ≤ cap → p ≡ overlay l (take cap (array d)) → p ++ drop cap (array d) ≡ overlay l (array d)
unfolding overlay
array_front {A} d cap l p h k e =
    ap (λ (z : List A). z ++ drop cap (array d)) e
    ∙ append_assoc l (drop (length l) (take cap (array d))) (drop cap (array d))
    ∙ ap (λ (z : List A). l ++ z)
    (sym (drop-append-le (length l) (take cap (array d)) (drop cap (array d)) (omega (arith, array_part d cap h))) ∙ ap (drop (length l)) (take-append-drop cap (array d)))

-- The whole part.
pub array_whole : {A : Type 0} (d : A) (l : List A) (p : ℕ) → length l ≡ p → l ++ drop p (array d) ≡ overlay l (array d)
unfolding overlay
array_whole {A} d l p e = ap (λ (z : ℕ). l ++ drop z (array d)) (sym e)
