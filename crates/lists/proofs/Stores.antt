-- A loop that stores element after element: what is known below the index.
use mathlib.Core.Path.{◌≡◌, sym, ap, ◌∙◌}
use mathlib.Core.List.{List}
use Prim.Native.Nat.{ℕ, ◌+◌, ◌<◌}
use native.Mathlib.Decide.{ℕ_discrete}
use native.Mathlib.Omega.{arith}
use lib.ListN.{length, get_or, set}
use lib.Seq.{get_or-set_same, get_or-set_other}

module _ {A : Type 0} (d : A) (l : List A) (v : ℕ) (x : A) where
  at_or_below : (k : ℕ) → v < length l → (f : ℕ → A) → ((k : ℕ) → k < v → get_or l k d ≡ f k) → x ≡ f v → k < v + 1 → Dec (k ≡ v) → get_or (set l v x) k d ≡ f k
  at_or_below k h f e p q (yes r) = ap (λ (z : ℕ). get_or (set l v x) z d) r ∙ get_or-set_same l v x d h ∙ p ∙ ap f (sym r)
  at_or_below k h f e p q (no r) = get_or-set_other l v k x d r ∙ e k (omega arith)

  pub stored_below : v < length l → (f : ℕ → A) → ((k : ℕ) → k < v → get_or l k d ≡ f k) → x ≡ f v → (k : ℕ) → k < v + 1 → get_or (set l v x) k d ≡ f k
  stored_below h f e p k q = at_or_below k h f e p q (ℕ_discrete k v)
