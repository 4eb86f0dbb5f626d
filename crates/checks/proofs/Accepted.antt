-- What holds of tracks that the checks accept, for those who work on them.
use mathlib.Core.Path.{◌≡◌, refl, ap}
use mathlib.Core.List.{List, [], ◌∷◌}
use Prim.Native.Nat.{ℕ, suc, ◌<◌, ◌≤◌}
use native.Mathlib.Omega.{arith}
use borrow.Author.Tests.{ltb-false}
use lib.Dec.{ltb}
use lib.ListN.{length, get_or, drop}
use lib.Ieee.{Float}
use Rattle.trace.specs.Trace.{Fix, fixes, traces}
use Rattle.std.specs.Prelude.{Ok}
use Rattle.settings.specs.declared.refusal.Refusal.TheVariants.{TimeMark}
use Rattle.settings.specs.Checks.{each_of, each_from}
-- Named so that the examples are checked before these lemmas.
use Rattle.checks.specs.Examples
use Rattle.checks.specs.Traces.{check_trace, check_size}
use Rattle.checks.specs.Tracks.{check_lengths, check_counts, check_mark, check_contents, check_tracks, check_report_tracks}
use Rattle.settings.proofs.Turns.{passed, turn_first, turn_rest, each_at, each_from_at}
use Rattle.checks.proofs.Lengths.{Agreed, Roomy, lengths_agree, counts_few, work_long}
use Rattle.checks.proofs.Usable.{Usable, trace_usable}

-- What both a fit and a report may rely on.
pub record AcceptedTracks (xs ys ts : List Float) (ms lens : List ℕ) (labels : ℕ) : Type 0 where
  pub agreed : Agreed lens (length xs) (length ys) (length ts) (length ms) labels
  pub few_traces : length lens ≤ 256
  pub few_fixes : length xs ≤ 65536
  -- Every time mark is 0 or 1.
  pub marked : (i : ℕ) → i < length ms → get_or ms i 0 ≤ 1
  -- Every trace is usable.
  pub each_trace : (k : ℕ) → k < length lens → Usable (get_or (traces lens (fixes xs ys ts ms)) k [])

-- What a fit may rely on besides.
pub record AcceptedFit (xs ys ts : List Float) (ms lens : List ℕ) (labels places floats words : ℕ) : Type 0 where
  pub tracks : AcceptedTracks xs ys ts ms lens labels
  pub some_place : 1 ≤ places
  pub few_places : places ≤ 512
  pub roomy : Roomy (length xs) places floats words

pub length_traces : (lens : List ℕ) (fs : List Fix) → length (traces lens fs) ≡ length lens
unfolding traces
length_traces [] fs = refl
length_traces (n ∷ ns) fs = ap suc (length_traces ns (drop n fs))

mark_small : (m : ℕ) → check_mark m ≡ Ok tt → m ≤ 1
unfolding check_mark
mark_small m e = ltb-false 1 m (passed (ltb 1 m) TimeMark e)

module _ (xs ys ts : List Float) (ms lens : List ℕ) where
  accepted : (labels places : ℕ) → check_lengths lens (length xs) (length ys) (length ts) (length ms) labels ≡ Ok tt → check_counts (length lens) (length xs) places ≡ Ok tt
      → check_contents xs ys ts ms lens ≡ Ok tt → AcceptedTracks xs ys ts ms lens labels
  accepted labels places a b d =
      let few = counts_few (length lens) (length xs) places b in
      record {
        agreed = lengths_agree lens (length xs) (length ys) (length ts) (length ms) labels a;
        few_traces = few.few_traces;
        few_fixes = few.few_fixes;
        marked = λ i n. mark_small (get_or ms i 0) (each_at check_mark ms 0 marks i n);
        each_trace = λ k n. trace_usable k (get_or all k []) (each_from_at check_trace all [] in_turn_lem k (inside k n)) (each_from_at check_size all [] sizes k (inside k n));
      }
    where
      all : List (List Fix)
      all = traces lens (fixes xs ys ts ms)

      marks : each_of check_mark ms ≡ Ok tt
      marks = unfold check_contents in turn_first _ _ d

      in_turn_lem : each_from check_trace 0 all ≡ Ok tt
      in_turn_lem = unfold check_contents in turn_first _ _ (turn_rest _ _ d)

      sizes : each_from check_size 0 all ≡ Ok tt
      sizes = unfold check_contents in turn_first _ _ (turn_rest _ _ (turn_rest _ _ d))

      inside : (k : ℕ) → k < length lens → k < length all
      inside k n = let e = length_traces lens (fixes xs ys ts ms) in omega arith

  pub tracks_accepted : (labels places floats words : ℕ) → check_tracks xs ys ts ms lens labels places floats words ≡ Ok tt → AcceptedFit xs ys ts ms lens labels places floats words
  unfolding check_tracks
  tracks_accepted labels places floats words h =
      let a = turn_rest _ _ h in
      let b = turn_rest _ _ a in
      let few = counts_few (length lens) (length xs) places (turn_first _ _ a) in
      record {
        tracks = accepted labels places (turn_first _ _ h) (turn_first _ _ a) (turn_first _ _ (turn_rest _ _ b));
        some_place = few.some_place;
        few_places = few.few_places;
        roomy = work_long (length xs) places floats words (turn_first _ _ b);
      }

  pub report_accepted : (floats words : ℕ) → check_report_tracks xs ys ts ms lens floats words ≡ Ok tt → AcceptedTracks xs ys ts ms lens (length xs) × Roomy (length xs) 0 floats words
  unfolding check_report_tracks
  report_accepted floats words h =
      let a = turn_rest _ _ h in
      let b = turn_rest _ _ a in
      (accepted (length xs) 1 (turn_first _ _ h) (turn_first _ _ a) (turn_first _ _ (turn_rest _ _ b)), work_long (length xs) 0 floats words (turn_first _ _ b))
