-- Texts written one after another, the digits of a number, and what is written into a slice.
use mathlib.Core.Path.{◌≡◌, refl, sym, ap, ◌∙◌}
use mathlib.Core.List.{List, [], ◌∷◌, ◌++◌}
use Prim.Native.Nat.{ℕ, zero, suc, ◌+◌, ◌-◌, ◌/◌, ◌%◌, ◌≤◌, ◌<◌}
use native.Mathlib.Omega.{arith}
use borrow.Author.Tests.{lt-ltb, le-ltb}
use native.Mathlib.Numerals.{add-one}
use lib.ListN.{length, get_or, take}
use lib.Seq.{take-suc}
use Rattle.print.specs.Lines.{digits}
use Rattle.print.specs.declared.bytes.Output.{Output}
use Rattle.print.specs.Steps.{Out, push, pushes, Wrote}

pub pushes_append : (o : Out) (a b : List ℕ) → pushes o (a ++ b) ≡ pushes (pushes o a) b
unfolding pushes
pushes_append o [] b = refl
pushes_append o (x ∷ a) b = pushes_append (push o x) a b

-- The first bytes of a text.
pub first_next : (o : Out) (text : List ℕ) (k : ℕ) → k < length text → pushes o (take (k + 1) text) ≡ pushes (pushes o (take k text)) (get_or text k 0 ∷ [])
first_next o text k h = rw (add-one, take-suc text k 0 h) (pushes_append o (take k text) (get_or text k 0 ∷ []))

-- One text after another.
pub and_then : (o o₁ o₂ : Out) (a b : List ℕ) → o₁ ≡ pushes o a → o₂ ≡ pushes o₁ b → o₂ ≡ pushes o (a ++ b)
and_then o o₁ o₂ a b p q = q ∙ ap (λ (r : Out). pushes r b) p ∙ sym (pushes_append o a b)

-- ---- digits

pub digits_none : (o : Out) (f n : ℕ) → f ≡ 0 → o ≡ pushes o (digits f n)
unfolding digits pushes
digits_none o f n e = rw e

pub digits_one : (o o₁ : Out) (f n : ℕ) → (f ≡ 0 → ⊥) → n < 10 → o₁ ≡ pushes o ((48 + n) ∷ []) → o₁ ≡ pushes o (digits f n)
unfolding digits pushes
digits_one o o₁ zero n z h e = absurd (z refl)
digits_one o o₁ (suc f) n z h e = rw (lt-ltb n 10 h) e

pub digits_more : (o o₁ o₂ : Out) (f n : ℕ) → (f ≡ 0 → ⊥) → 10 ≤ n → o₁ ≡ pushes o (digits (f - 1) (n / 10)) → o₂ ≡ pushes o₁ ((48 + n % 10) ∷ []) → o₂ ≡ pushes o (digits f n)
unfolding digits
digits_more o o₁ o₂ zero n z h p q = absurd (z refl)
digits_more o o₁ o₂ (suc f) n z h p q =
    let e : suc f - 1 ≡ f = omega arith in
    rw (le-ltb n 10 h) (and_then o o₁ o₂ (digits f (n / 10)) ((48 + n % 10) ∷ []) (rw e at p) q)

-- ---- what is written into a slice

pub wrote_then : (o o₁ o₂ : Output) (a b : List ℕ) → Wrote o o₁ a → Wrote o₁ o₂ b → Wrote o o₂ (a ++ b)
wrote_then o o₁ o₂ a b p q = record { same = q.same ∙ p.same; written = and_then _ _ _ a b p.written q.written }
