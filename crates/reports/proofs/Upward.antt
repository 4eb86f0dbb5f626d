-- Labels, upward: what their tests say, and how they are counted.
use mathlib.Core.Path.{◌≡◌, refl, sym, ap, ◌∙◌, subst}
use mathlib.Core.Bool.{Bool}
use mathlib.Core.List.{List, [], ◌∷◌}
use Prim.Native.Nat.{ℕ, ◌+◌, max}
use native.Mathlib.Numerals.{add-one}
use native.Mathlib.Nat.{zero-max, max-zero}
use native.Mathlib.Omega.{arith}
use borrow.Author.Tests.{eqb-true, eq-eqb, ne_eqb}
use lib.IntN.{ℤ, pos, negsuc, nat_abs}
use mir.Syntax.{w32}
use mir.Facts.{to_z-of_z}
use mir.Val.{SFits, to_z, of_z}
use Rattle.std.specs.Prelude.{Result, Ok, Err, OkIff}
use Rattle.std.specs.Int.{FitsUnsignedBits}
use Rattle.std.specs.List.{fold}
use Rattle.std.specs.Ordering.{int_eq}
use Rattle.std.specs.Result.{result_eq}
use Rattle.std.proofs.lemmas.Bool.Decides.{Decides-int_eq, same_from_decides}
use Rattle.reports.specs.Labels.{label_end, labels_in, is_label}

-- ---- what the conversion of an index to a label says, and that of a label to an index

number : {n l : ℕ} → pos l ≡ pos n → n ≡ l
number p = cc

pub same_label : {E : Type 0} (f : E → E → Bool) (l : ℕ) (k : ℤ) (r : Result ℤ E) → SFits w32 k → OkIff r (SFits w32 (pos l)) (pos l)
    → result_eq int_eq f r (Ok (to_z w32 (of_z w32 k))) ≡ is_label l k
unfolding is_label
same_label f l k r s h = rw (to_z-of_z s) (go k r s h)
  where
    go : (k : ℤ) (r : Result ℤ _) → SFits w32 k → OkIff r (SFits w32 (pos l)) (pos l) → result_eq int_eq f r (Ok k) ≡ is_label l k
    go (pos n) (Ok m) s h = rw (h.1) (same_from_decides _ _ (Decides-int_eq (pos l) (pos n)) (λ e. ap pos (sym (eqb-true n l e)), λ p. eq-eqb n l (number p)))
    go (pos n) (Err e) s h = sym (ne_eqb n l (λ p. h (subst (λ (z : ℕ). SFits w32 (pos z)) p s)))
    go (negsuc n) (Ok m) s h = rw (h.1) refl
    go (negsuc n) (Err e) s h = refl

pub one_above : (k : ℤ) (n : ℕ) → FitsUnsignedBits 64 k × (n ≡ nat_abs k) → n + 1 ≡ label_end k
unfolding label_end
one_above (pos n) m h = rw (h.1) (add-one n)
one_above (negsuc n) m h = absurd h.0

pub no_end : (k : ℤ) → SFits w32 k → (FitsUnsignedBits 64 k → ⊥) → 0 ≡ label_end k
unfolding label_end
no_end (pos n) s h = absurd (h (omega (arith, s.sfits)))
no_end (negsuc n) s h = refl

-- ---- the highest of them

folded_from : (m : ℕ) (ks : List ℤ) → fold (λ m k. max m (label_end k)) m ks ≡ max m (labels_in ks)
unfolding labels_in
folded_from m [] = sym (max-zero m)
folded_from m (k ∷ ks) =
    let grouped : max (max m (label_end k)) (labels_in ks) ≡ max m (max (label_end k) (labels_in ks)) = omega arith in
    folded_from (max m (label_end k)) ks ∙ grouped

pub labels_folded : (ks : List ℤ) {n : ℕ} → n ≡ fold (λ m k. max m (label_end k)) 0 ks → n ≡ labels_in ks
labels_folded ks e = e ∙ folded_from 0 ks ∙ zero-max (labels_in ks)
