-- The traces of a few lengths, empty ones among them. Proved by computing.
use Rattle.std.specs.Prelude.{◌≡◌, refl, [], ◌∷◌, ℕ}
use Rattle.std.proofs.Math.Option.{none}
use Rattle.float.specs.Binary64.{whole64, zero64}
use Rattle.trace.specs.Trace.{Fix, traces}
use Rattle.trace.specs.WithoutEmpty.{without_empty, counted_anew}

fix : ℕ → Fix
fix x = record { at = record { x = whole64 x; y = zero64 }; time = none }

-- An empty trace is one of the traces, and those behind it are there too.
empty_between : traces (0 ∷ 2 ∷ 0 ∷ 0 ∷ 1 ∷ []) (fix 1 ∷ fix 2 ∷ fix 3 ∷ []) ≡ [] ∷ (fix 1 ∷ fix 2 ∷ []) ∷ [] ∷ [] ∷ (fix 3 ∷ []) ∷ []
unfolding traces
empty_between = refl

-- Without them there are two, and trace 4 becomes trace 1.
taken_out : without_empty (0 ∷ 2 ∷ 0 ∷ 0 ∷ 1 ∷ []) ≡ 2 ∷ 1 ∷ []
unfolding without_empty
taken_out = refl

fifth_is_second : counted_anew (0 ∷ 2 ∷ 0 ∷ 0 ∷ 1 ∷ []) 4 ≡ 1
unfolding counted_anew
fifth_is_second = refl
