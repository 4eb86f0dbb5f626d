-- The columns of one trace: the loops over them, and the fixes that they stand for.
use mathlib.Core.Path.{◌≡◌, refl, ap, ap₂, ◌∙◌}
use mathlib.Core.Bool.{Bool, true, false, not, ◌&&◌, ◌||◌}
use mathlib.Core.List.{List, [], ◌∷◌}
use mathlib.Core.Option.{Option, none}
use Prim.Native.Nat.{ℕ}
use native.Mathlib.Omega.{arith}
use lib.Dec.{eqb}
use lib.ListN.{length}
use lib.Ieee.{Float}
use Rattle.std.specs.Prelude.{Ok, Err}
use Rattle.std.specs.List.{list_any}
use Rattle.trace.specs.Trace.{Fix, fixes}
use Rattle.trace.specs.Steps.{all_marked}
use Rattle.trace.proofs.Fixes.{has_time_lem, timed_marked}
use Rattle.settings.specs.declared.refusal.Refusal.{Refusal}
use Rattle.settings.specs.Checks.{Checked, first_of, each_of}
use Rattle.checks.specs.Traces.{untimed, partly_timed, above, above_first, in_time_order}

-- ---- a check at each fix, in a loop over them

-- The next fix, for which the check says r: where it is accepted those behind it decide, and where it is refused that is the answer.
module _ (f : Fix → Checked) (g : Fix) (gs fs : List Fix) (e : fs ≡ g ∷ gs) (r : Checked) (said : r ≡ f g) where
  pub fix_accepted : r ≡ Ok tt → each_of f gs ≡ each_of f fs
  unfolding each_of first_of
  fix_accepted a = let w : f g ≡ Ok tt = rw (← said) a in rw (e, w)

  pub fix_refused : (x : Refusal) → r ≡ Err x → Err x ≡ each_of f fs
  unfolding each_of first_of
  fix_refused x a = let w : f g ≡ Err x = rw (← said) a in rw (e, w)

pub fix_end : (f : Fix → Checked) (fs : List Fix) → fs ≡ [] → each_of f fs ≡ Ok tt
unfolding each_of
fix_end f fs e = rw e

-- ---- some mark is 1

pub some_timed : (xs ys ts : List Float) (ms : List ℕ) → length ys ≡ length xs → length ts ≡ length xs → length ms ≡ length xs → list_any (λ (m : ℕ). eqb m 1) ms ≡ not (untimed (fixes xs ys ts ms))
unfolding fixes untimed
some_timed [] ys ts [] a b c = refl
some_timed [] ys ts (m ∷ ms) a b c = absurd (omega arith)
some_timed (x ∷ xs) [] ts ms a b c = absurd (omega arith)
some_timed (x ∷ xs) (y ∷ ys) [] ms a b c = absurd (omega arith)
some_timed (x ∷ xs) (y ∷ ys) (t ∷ ts) [] a b c = absurd (omega arith)
some_timed (x ∷ xs) (y ∷ ys) (t ∷ ts) (m ∷ ms) a b c =
    rw (has_time_lem m t) (ap (λ (b : Bool). eqb m 1 || b) (some_timed xs ys ts ms (omega arith) (omega arith) (omega arith)) ∙ one_of (eqb m 1) (untimed (fixes xs ys ts ms)))
  where
    one_of : (a b : Bool) → (a || not b) ≡ not (not a && b)
    one_of true b = refl
    one_of false b = refl

-- ---- times in order

-- The fixes fs behind one with the time t are in order, and t is not above the first of them.
abbrev pub order_from : Option Float → List Fix → Bool
order_from t fs = not (above_first t fs) && in_time_order fs

pub order_start : (fs : List Fix) → order_from none fs ≡ in_time_order fs
unfolding above_first above
order_start [] = refl
order_start (f ∷ fs) = refl

pub order_next : (t : Option Float) (f : Fix) (fs : List Fix) → order_from t (f ∷ fs) ≡ (not (above t f.time) && order_from f.time fs)
unfolding above_first in_time_order
order_next t f fs = refl

pub order_end : (t : Option Float) → order_from t [] ≡ true
unfolding above_first in_time_order
order_end t = refl

-- Some marks are 1 and some not where some fixes are timed and some not.
pub partly_columns :
    (xs ys ts : List Float) (ms : List ℕ) → length ys ≡ length xs → length ts ≡ length xs → length ms ≡ length xs →
    (not (all_marked ms) && list_any (λ (m : ℕ). eqb m 1) ms) ≡ partly_timed (fixes xs ys ts ms)
unfolding partly_timed
partly_columns xs ys ts ms a b c = ap₂ (λ (p q : Bool). not p && q) (timed_marked xs ys ts ms a b c) (some_timed xs ys ts ms a b c)
