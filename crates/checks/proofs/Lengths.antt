-- What the checks of the slices' lengths ensure where they accept.
use mathlib.Core.Path.{◌≡◌}
use mathlib.Core.Bool.{true, false, not, ◌&&◌, ◌||◌}
use mathlib.Core.List.{List}
use Prim.Native.Nat.{ℕ, ◌+◌, ◌*◌, ◌<◌, ◌≤◌}
use native.Mathlib.Omega.{arith}
use borrow.Author.Tests.{eqb-true, eqb-false, ltb-false, not-false}
use lib.Dec.{eqb, ltb}
use lib.ListN.{length, drop, drop_of_length-le}
use Rattle.lists.proofs.Tests.{and_left, and_right, or_left, or_right}
use Rattle.std.specs.Prelude.{Ok}
use Rattle.settings.specs.declared.refusal.Refusal.TheVariants.{NoTrace, Lengths, Counts, Work}
use Rattle.trace.specs.Trace.{total}
use Rattle.checks.specs.Tracks.{same_lengths, check_lengths, check_counts, check_work}
use Rattle.settings.proofs.Turns.{passed, turn_first, turn_rest}

-- There is a trace, and the lengths agree.
pub record Agreed (lens : List ℕ) (n ys ts ms labels : ℕ) : Type 0 where
  pub some_trace : 0 < length lens
  pub ys_length : ys ≡ n
  pub times_length : ts ≡ n
  pub marks_length : ms ≡ n
  pub labels_length : labels ≡ n
  pub sum : total lens ≡ n

pub lengths_agree : (lens : List ℕ) (n ys ts ms labels : ℕ) → check_lengths lens n ys ts ms labels ≡ Ok tt → Agreed lens n ys ts ms labels
unfolding check_lengths same_lengths
lengths_agree lens n ys ts ms labels h =
    let two = eqb ys n && eqb ts n in
    let three = two && eqb ms n in
    let four = three && eqb labels n in
    let a : (length lens ≡ 0 → ⊥) = eqb-false (length lens) 0 (passed (eqb (length lens) 0) NoTrace (turn_first _ _ h)) in
    let b : (four && eqb (total lens) n) ≡ true = not-false (four && eqb (total lens) n) (passed (not (four && eqb (total lens) n)) Lengths (turn_first _ _ (turn_rest _ _ h))) in
    let c : four ≡ true = and_left four (eqb (total lens) n) b in
    let d : three ≡ true = and_left three (eqb labels n) c in
    let e : two ≡ true = and_left two (eqb ms n) d in
    record {
      some_trace = omega arith;
      ys_length = eqb-true ys n (and_left (eqb ys n) (eqb ts n) e);
      times_length = eqb-true ts n (and_right (eqb ys n) (eqb ts n) e);
      marks_length = eqb-true ms n (and_right two (eqb ms n) d);
      labels_length = eqb-true labels n (and_right three (eqb labels n) c);
      sum = eqb-true (total lens) n (and_right four (eqb (total lens) n) b);
    }

-- Neither too many traces, fixes or places, nor no place.
pub record Counted (traces fixes places : ℕ) : Type 0 where
  pub few_traces : traces ≤ 256
  pub few_fixes : fixes ≤ 65536
  pub some_place : 1 ≤ places
  pub few_places : places ≤ 512

pub counts_few : (traces fixes places : ℕ) → check_counts traces fixes places ≡ Ok tt → Counted traces fixes places
unfolding check_counts
counts_few traces fixes places h =
    let two = ltb 256 traces || ltb 65536 fixes in
    let three = two || eqb places 0 in
    let a : (three || ltb 512 places) ≡ false = passed (three || ltb 512 places) Counts h in
    let b : three ≡ false = or_left three (ltb 512 places) a in
    let c : two ≡ false = or_left two (eqb places 0) b in
    let d : (places ≡ 0 → ⊥) = eqb-false places 0 (or_right two (eqb places 0) b) in
    record {
      few_traces = ltb-false 256 traces (or_left (ltb 256 traces) (ltb 65536 fixes) c);
      few_fixes = ltb-false 65536 fixes (or_right (ltb 256 traces) (ltb 65536 fixes) c);
      some_place = omega arith;
      few_places = ltb-false 512 places (or_right three (ltb 512 places) a);
    }

-- The work slices are long enough.
pub record Roomy (fixes places floats words : ℕ) : Type 0 where
  pub floats_length : 4 * fixes + places * places ≤ floats
  pub words_length : 4 * fixes + 8 * places ≤ words

pub work_long : (fixes places floats words : ℕ) → check_work fixes places floats words ≡ Ok tt → Roomy fixes places floats words
unfolding check_work
work_long fixes places floats words h =
    let p = ltb floats (4 * fixes + places * places) in
    let q = ltb words (4 * fixes + 8 * places) in
    let a : (p || q) ≡ false = passed (p || q) Work h in
    record {
      floats_length = ltb-false floats (4 * fixes + places * places) (or_left p q a);
      words_length = ltb-false words (4 * fixes + 8 * places) (or_right p q a);
    }

-- Past the last trace there is nothing.
pub total_end : (lens : List ℕ) (k : ℕ) → length lens ≤ k → total (drop k lens) ≡ 0
unfolding total
total_end lens k h = rw (drop_of_length-le lens {i = k} h)
