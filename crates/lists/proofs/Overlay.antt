-- A list at the front of another.
use mathlib.Core.Path.{◌≡◌, sym, ap, ◌∙◌}
use mathlib.Core.List.{List, [], ◌∷◌, ◌++◌, append_assoc}
use Prim.Native.Nat.{ℕ, suc, ◌+◌, ◌-◌, ◌<◌, ◌≤◌}
use native.Mathlib.Numerals.{add-one}
use native.Mathlib.Omega.{arith}
use lib.ListN.{length, get_or, set, take, drop, take-append-drop, length-append, length-drop}
use lib.Seq.{length-take-le, take-append_seam, drop-append-add, drop-append_seam, drop-cons, drop-drop, set-append_seam}
use Rattle.lists.specs.Lists.{overlay}

module _ {A : Type 0} where
  pub take_overlay : (l s : List A) → take (length l) (overlay l s) ≡ l
  unfolding overlay
  take_overlay l s = take-append_seam l (drop (length l) s)

  -- The same of a list that is known to be one with l in front.
  pub take_front : (l s t : List A) (n : ℕ) → n ≡ length l → t ≡ overlay l s → take n t ≡ l
  take_front l s t n e f = ap (λ (k : ℕ). take k t) e ∙ ap (take (length l)) f ∙ take_overlay l s

  pub drop_overlay : (l s : List A) → drop (length l) (overlay l s) ≡ drop (length l) s
  unfolding overlay
  drop_overlay l s = drop-append_seam l (drop (length l) s)

  pub length_overlay : (l s : List A) → length l ≤ length s → length (overlay l s) ≡ length s
  unfolding overlay
  length_overlay l s h = length-append l (drop (length l) s) ∙ (omega (arith, length-drop (length l) s))

  -- A list that differs from s in its first n items only.
  pub overlay_front : (n : ℕ) (s t : List A) → n ≤ length t → drop n t ≡ drop n s → t ≡ overlay (take n t) s
  unfolding overlay
  overlay_front n s t h e = sym (take-append-drop n t) ∙ ap (λ (r : List A). take n t ++ r) (e ∙ ap (λ (k : ℕ). drop k s) (sym (length-take-le n t h)))

  -- Of two fronts the later is seen, where it is no shorter.
  pub overlay_over : (k l s : List A) → length k ≤ length l → overlay l (overlay k s) ≡ overlay l s
  unfolding overlay
  overlay_over k l s h =
      ap (λ (r : List A). l ++ r)
      (ap (λ (n : ℕ). drop n (k ++ drop (length k) s)) more ∙ drop-append-add k (drop (length k) s) rest ∙ drop-drop rest (length k) s ∙ ap
      (λ (n : ℕ). drop n s) (sym more))
    where
      rest : ℕ
      rest = length l - length k

      more : length l ≡ length k + rest
      more = omega arith

  -- One item more at the end of the front.
  pub overlay_set : (l s : List A) (a : A) → length l < length s → set (overlay l s) (length l) a ≡ overlay (l ++ (a ∷ [])) s
  unfolding overlay
  overlay_set l s a h =
      ap (λ (r : List A). set (l ++ r) (length l) a) (drop-cons s (length l) a h) ∙ set-append_seam l (get_or s (length l) a) (drop (suc (length l)) s) a
      ∙ sym (ap (λ (n : ℕ). (l ++ (a ∷ [])) ++ drop n s) (length-append l (a ∷ []) ∙ add-one (length l)) ∙ append_assoc l (a ∷ []) (drop (suc (length l)) s))
