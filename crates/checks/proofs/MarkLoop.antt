-- The check of the time marks, by whether all of them are 0 or 1.
use mathlib.Core.Path.{◌≡◌, refl}
use mathlib.Core.Bool.{Bool, true, false}
use mathlib.Core.List.{List, [], ◌∷◌}
use Prim.Native.Nat.{ℕ, zero, suc, ◌≤◌}
use native.Mathlib.Omega.{arith}
use borrow.Author.Tests.{ltb-false, le-ltb}
use lib.Dec.{ltb}
use Rattle.std.specs.Prelude.{Ok, Err}
use Rattle.std.specs.List.{All}
use Rattle.settings.specs.declared.refusal.Refusal.TheVariants.{TimeMark}
use Rattle.settings.specs.Checks.{refuse_if, first_of, each_of}
use Rattle.checks.specs.Tracks.{check_mark}

abbrev pub Known : ℕ → Type 0
Known m = m ≤ 1

pub marks_fine : (ms : List ℕ) → All Known ms → each_of check_mark ms ≡ Ok tt
unfolding each_of first_of check_mark refuse_if
marks_fine [] h = refl
marks_fine (m ∷ ms) h = rw (le-ltb 1 m (h 0 0 (omega arith)), marks_fine ms (λ k d n. h (suc k) d (omega arith)))

known_rest : (m : ℕ) (ms : List ℕ) → m ≤ 1 → All Known ms → All Known (m ∷ ms)
known_rest m ms l g zero d n = l
known_rest m ms l g (suc k) d n = g k d (omega arith)

pub marks_bad : (ms : List ℕ) → (All Known ms → ⊥) → each_of check_mark ms ≡ Err TimeMark
unfolding each_of first_of check_mark refuse_if
marks_bad [] h = absurd (h (λ k d n. absurd (omega arith)))
marks_bad (m ∷ ms) h = go (ltb 1 m) refl (λ l. marks_bad ms (λ g. h (known_rest m ms l g)))
  where
    go : (b : Bool) → ltb 1 m ≡ b → (m ≤ 1 → each_of check_mark ms ≡ Err TimeMark) → first_of (refuse_if b TimeMark) (each_of check_mark ms) ≡ Err TimeMark
    go true e g = refl
    go false e g = g (ltb-false 1 m e)
