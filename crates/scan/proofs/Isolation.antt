-- The isolation test: the best so far is no move, and the change to beat by more than the margin is 0.
use mathlib.Core.Path.{◌≡◌, refl, ap}
use mathlib.Core.Bool.{cond}
use Prim.Native.Nat.{ℕ}
use lib.Ieee.{Float, lt, neg, sub, of_bits}
use Rattle.float.specs.Binary64.{sub64}
use Rattle.scan.specs.Scan.{no_move, move, margin, best_delta, better}

-- the change to beat at first, less the margin
pub first_bound : sub64 (best_delta no_move) margin ≡ neg margin
unfolding sub neg best_delta of_bits
first_bound = refl

pub isolated : (h : ℕ) (change : Float) → better no_move h change ≡ cond (lt change (neg margin)) (move h change) no_move
unfolding better
isolated h change = ap (λ (z : Float). cond (lt change z) (move h change) no_move) first_bound
