-- What holds of a trace that the checks accept: the rules' 12 to 16 do not. An empty one is always accepted.
use mathlib.Core.Path.{◌≡◌, refl, sym, ap, ◌∙◌}
use mathlib.Core.Bool.{Bool, true, false, not, ◌&&◌}
use mathlib.Core.List.{List, [], ◌∷◌}
use mathlib.Core.Logic.{◌⊎◌, inl, inr}
use mathlib.Core.Option.{some}
use Prim.Native.Nat.{ℕ, zero, suc, ◌<◌}
use native.Mathlib.Omega.{arith}
use borrow.Author.Tests.{not-true, not-false}
use lib.ListN.{length, get_or}
use lib.Ieee.{Float, le, lt}
use Rattle.lists.proofs.Tests.{and_left, and_right}
use Rattle.float.specs.Binary64.{finite}
use Rattle.float.proofs.Order.{le_is, finite_number}
use Rattle.distance.specs.Limit.{in_limit}
use Rattle.trace.specs.Trace.{Fix, timed, traces}
use Rattle.trace.proofs.Fixes.{no_fix, point_at, time_at}
use Rattle.std.specs.Prelude.{Ok}
use Rattle.settings.specs.Checks.{Checked, first_of, each_of, each_from}
use Rattle.settings.specs.declared.refusal.Refusal.TheVariants.{Coordinate, Timestamp, PartlyTimed, TimeOrder, CoordinateSize}
-- Named so that the examples are checked before these lemmas.
use Rattle.checks.specs.Examples
use Rattle.checks.specs.Traces.{finite_point, finite_time, untimed, partly_timed, above, above_first, in_time_order, check_fix, check_times, check_trace, check_fix_size, check_size}
use Rattle.settings.proofs.Turns.{turns, passed, turn_first, turn_rest, each_at}

pub record Usable (t : List Fix) : Type 0 where
  -- Coordinates are finite and within the limit.
  pub finite_points : (i : ℕ) → i < length t → finite_point (point_at t i) ≡ true
  pub in_limit_lem : (i : ℕ) → i < length t → in_limit (point_at t i) ≡ true
  -- All fixes are timed, or none.
  pub all_or_none : (timed t ≡ true) ⊎ (untimed t ≡ true)
  -- Times are finite, and none is above the next.
  pub finite_times : (i : ℕ) → i < length t → finite_time (time_at t i) ≡ true
  pub in_time_order_lem : in_time_order t ≡ true

not_partly : (t : List Fix) → partly_timed t ≡ false → (timed t ≡ true) ⊎ (untimed t ≡ true)
unfolding partly_timed
not_partly t h = go (timed t) (untimed t) refl refl h
  where
    go : (a b : Bool) → timed t ≡ a → untimed t ≡ b → (not a && not b) ≡ false → (timed t ≡ true) ⊎ (untimed t ≡ true)
    go true b p q h = inl p
    go false true p q h = inr q
    go false false p q h = inl (p ∙ sym h)

module _ (k : ℕ) (t : List Fix) (h : check_trace k t ≡ Ok tt) (l : check_size k t ≡ Ok tt) where
  fix : (i : ℕ) → i < length t → check_fix k (get_or t i no_fix) ≡ Ok tt
  unfolding check_trace
  fix i n = each_at (check_fix k) t no_fix (turn_first _ _ h) i n

  times : check_times k t ≡ Ok tt
  unfolding check_trace
  times = turn_first _ _ (turn_rest _ _ h)

  point : (i : ℕ) → i < length t → finite_point (point_at t i) ≡ true
  unfolding check_fix
  point i n = not-false _ (passed (not (finite_point (point_at t i))) (Coordinate k) (turn_first _ _ (fix i n)))

  time : (i : ℕ) → i < length t → finite_time (time_at t i) ≡ true
  unfolding check_fix
  time i n = not-false _ (passed (not (finite_time (time_at t i))) (Timestamp k) (turn_first _ _ (turn_rest _ _ (fix i n))))

  order : in_time_order t ≡ true
  unfolding check_times
  order = not-false _ (passed (not (in_time_order t)) (TimeOrder k) (turn_first _ _ (turn_rest _ _ times)))

  partly : partly_timed t ≡ false
  unfolding check_times
  partly = passed (partly_timed t) (PartlyTimed k) (turn_first _ _ times)

  size : (i : ℕ) → i < length t → in_limit (point_at t i) ≡ true
  unfolding check_size check_fix_size
  size i n = not-false _ (passed (not (in_limit (point_at t i))) (CoordinateSize k) (each_at (check_fix_size k) t no_fix l i n))

  pub trace_usable : Usable t
  trace_usable = record { finite_points = point; in_limit_lem = size; all_or_none = not_partly t partly; finite_times = time; in_time_order_lem = order }

-- ---- an empty trace

pub none_refused : (k : ℕ) → check_trace k [] ≡ Ok tt
unfolding check_trace check_times partly_timed timed untimed in_time_order turns each_of
none_refused k = refl

pub none_far : (k : ℕ) → check_size k [] ≡ Ok tt
unfolding check_size each_of
none_far k = refl

-- A check that accepts an empty trace passes over it.
pub over_empty : (f : ℕ → List Fix → Checked) → ((k : ℕ) → f k [] ≡ Ok tt) → (n : ℕ) (ns : List ℕ) (k : ℕ) (fs : List Fix) → n ≡ 0
    → each_from f k (traces (n ∷ ns) fs) ≡ each_from f (suc k) (traces ns fs)
unfolding each_from traces first_of
over_empty f pass n ns k fs z = rw (z, pass k)

-- ---- times do not fall

order_at : (t : List Fix) → in_time_order t ≡ true → (i : ℕ) → suc i < length t → above (time_at t i) (time_at t (suc i)) ≡ false
unfolding in_time_order
order_at [] h i n = absurd (omega arith)
order_at (f ∷ []) h i n = absurd (omega arith)
order_at (f ∷ g ∷ t) h zero n = unfold above_first in not-true _ (and_left (not (above_first f.time (g ∷ t))) (in_time_order (g ∷ t)) h)
order_at (f ∷ g ∷ t) h (suc i) n = order_at (g ∷ t) (and_right (not (above_first f.time (g ∷ t))) (in_time_order (g ∷ t)) h) i (omega arith)

pub times_rise : (t : List Fix) → Usable t → (i : ℕ) → suc i < length t → {a b : Float} → time_at t i ≡ some a → time_at t (suc i) ≡ some b → le a b ≡ true
unfolding above finite_time
times_rise t u i n {a} {b} p q =
    let x : finite a ≡ true = rw p at (u.finite_times i (omega arith)) in
    let y : finite b ≡ true = rw q at (u.finite_times (suc i) n) in
    let z : lt b a ≡ false = rw (p, q) at (order_at t u.in_time_order_lem i n) in
    le_is a b (finite_number a x) (finite_number b y) ∙ ap not z
