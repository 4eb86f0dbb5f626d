-- The checks of a list of traces and of the same list with the empty ones taken out: both accept, or both refuse with one number, the trace counted anew.
use mathlib.Core.Path.{◌≡◌, refl, sym, ap, ◌∙◌, subst}
use mathlib.Core.Bool.{Bool, true, false}
use mathlib.Core.List.{List, [], ◌∷◌}
use Prim.Native.Nat.{ℕ, zero, suc, ◌+◌, ◌<◌, ◌≤◌}
use native.Mathlib.Nat.{pos_of_ne-zero}
use native.Mathlib.Omega.{arith}
use borrow.Author.Tests.{eqb-true, eqb-false, ne_eqb, lt-ltb, le-ltb, le-leb, ltb-true, ltb-false}
use lib.Dec.{eqb, ltb}
use lib.ListN.{length, take, drop, get_or, drop_of_length-le}
use lib.Seq.{drop-cons}
use lib.Ieee.{Float}
use Rattle.lists.proofs.Tests.{clash}
use Rattle.trace.specs.Trace.{Fix, fixes, total, traces}
use Rattle.trace.specs.WithoutEmpty.{without_empty, counted_anew}
use Rattle.trace.proofs.Parts.{total_some}
use Rattle.trace.proofs.WithoutEmpty.{out_empty, out_other, out_total, out_length, counted_first, counted_empty, counted_other}
use Rattle.settings.specs.declared.refusal.Refusal.{Refusal}
use Rattle.std.specs.Prelude.{Ok}
use Rattle.settings.specs.Refusals.{number_of, trace_of}
use Rattle.settings.proofs.RefusalNumbers.{in_traces, early, no_trace}
use Rattle.settings.specs.Checks.{Checked, each_from}
use Rattle.settings.proofs.Alike.{Alike, alike_first, alike_turn, alike_end}
use Rattle.checks.specs.Traces.{check_trace, check_size}
use Rattle.checks.specs.Tracks.{check_lengths, check_counts, check_contents, check_tracks}
use Rattle.checks.specs.Recounted.{Recounted}
use Rattle.checks.proofs.AlikeTraces.{alike_lengths, alike_counts, alike_work, alike_marks, alike_trace, alike_size}
use Rattle.checks.proofs.Usable.{none_refused, none_far, over_empty}

module _ (lens : List ℕ) where
  -- ---- refusals about no trace, and about trace k

  pub plain : (e : Refusal) → in_traces e ≡ false → Recounted lens e e
  plain e n =
      let z = no_trace e n in
      record {
        number = refl;
        trace = z ∙ sym (counted_first lens) ∙ ap (counted_anew lens) (sym z);
        walked = λ a b. clash (in_traces e) (rw (le-leb 12 (number_of e) a, le-leb (number_of e) 16 b)) n;
      }

  pub plain_early : (e : Refusal) → in_traces e ≡ false → early e ≡ true → Recounted lens e e
  plain_early e n h = plain e n

  module _ (k : ℕ) (has : 0 < get_or lens k 0) where
    named : (e e' : Refusal) → number_of e' ≡ number_of e → trace_of e ≡ k → trace_of e' ≡ counted_anew lens k → in_traces e ≡ true → Recounted lens e e'
    named e e' n t t' h = record {
      number = n;
      trace = t' ∙ ap (counted_anew lens) (sym t);
      walked = λ p q. subst (λ (i : ℕ). 0 < get_or lens i 0) (sym t) has;
    }

  -- ---- trace by trace: a check that accepts an empty trace

  module _ (f : ℕ → List Fix → Checked) (pass : (k : ℕ) → f k [] ≡ Ok tt)
      (one : (k : ℕ) → 0 < get_or lens k 0 → (t : List Fix) → Alike (Recounted lens) (f k t) (f (counted_anew lens k) t)) where
    abbrev From : ℕ → ℕ → List ℕ → List Fix → Type 0
    From k j ns fs = Alike (Recounted lens) (each_from f k (traces ns fs)) (each_from f j (traces (without_empty ns) fs))

    -- Trace k, of n fixes, and those behind it.
    module _ (k n : ℕ) (ns : List ℕ) (fs : List Fix) where
      over : n ≡ 0 → From (suc k) (counted_anew lens k) ns fs → From k (counted_anew lens k) (n ∷ ns) fs
      over z h = rw (out_empty n ns z, over_empty f pass n ns k fs z) h

      on : (n ≡ 0 → ⊥) → 0 < get_or lens k 0 → From (suc k) (suc (counted_anew lens k)) ns (drop n fs) → From k (counted_anew lens k) (n ∷ ns) fs
      unfolding each_from traces
      on z p h = rw (out_other n ns z) (alike_first (Recounted lens) _ _ _ _ (one k p (take n fs)) h)

    each_anew : (m k : ℕ) (fs : List Fix) → k + m ≡ length lens → From k (counted_anew lens k) (drop k lens) fs
    each_anew zero k fs e =
        let end : length lens ≤ k = omega arith in
        rw (drop_of_length-le lens {i = k} end) (unfold without_empty traces each_from in tt)
    each_anew (suc m) k fs e = rw (drop-cons lens k 0 below) (go (eqb n 0) refl (λ gs. each_anew m (suc k) gs (omega arith)))
      where
        below : k < length lens
        below = omega arith

        n : ℕ
        n = get_or lens k 0

        go : (b : Bool) → eqb n 0 ≡ b → ((gs : List Fix) → From (suc k) (counted_anew lens (suc k)) (drop (suc k) lens) gs)
            → From k (counted_anew lens k) (n ∷ drop (suc k) lens) fs
        go true b r =
            let z : n ≡ 0 = eqb-true n 0 b in
            over k n (drop (suc k) lens) fs z (subst (λ (j : ℕ). From (suc k) j (drop (suc k) lens) fs) (counted_empty lens k below z) (r fs))
        go false b r =
            let z : (n ≡ 0 → ⊥) = eqb-false n 0 b in
            on k n (drop (suc k) lens) fs z (pos_of_ne-zero z)
            (subst (λ (j : ℕ). From (suc k) j (drop (suc k) lens) (drop n fs)) (counted_other lens k below z) (r (drop n fs)))

    all_anew : (fs : List Fix) → From 0 0 lens fs
    all_anew fs = subst (λ (j : ℕ). From 0 j lens fs) (counted_first lens) (each_anew (length lens) 0 fs (omega arith))

  -- ---- all checks of tracks

  alike_contents : (xs ys ts : List Float) (ms : List ℕ) → Alike (Recounted lens) (check_contents xs ys ts ms lens) (check_contents xs ys ts ms (without_empty lens))
  unfolding check_contents
  alike_contents xs ys ts ms =
      alike_turn (Recounted lens) _ _ _ _ (alike_marks (Recounted lens) plain_early ms)
      (alike_turn (Recounted lens) _ _ _ _ (all_anew check_trace none_refused (λ k h t. alike_trace (Recounted lens) k (counted_anew lens k) (named k h) t) (fixes xs ys ts ms))
      (alike_turn (Recounted lens) _ _ _ _ (all_anew check_size none_far (λ k h t. alike_size (Recounted lens) k (counted_anew lens k) (named k h) t) (fixes xs ys ts ms)) (alike_end (Recounted lens))))

  -- Somebody walked, and the limit of 256 traces says the same of both lists.
  module _ (some : 0 < total lens) (same : 256 < length lens → 256 < length (without_empty lens)) where
    lengths_same : (n ys ts ms labels : ℕ) → check_lengths (without_empty lens) n ys ts ms labels ≡ check_lengths lens n ys ts ms labels
    unfolding check_lengths
    lengths_same n ys ts ms labels =
        rw (
          out_total lens,
          ne_eqb (length lens) 0 (λ e. let h = total_some lens some in omega arith),
          ne_eqb (length (without_empty lens)) 0 (λ e. let h = total_some (without_empty lens) (subst (λ (k : ℕ). 0 < k) (sym (out_total lens)) some) in omega arith),
        )

    counts_same : (n places : ℕ) → check_counts (length (without_empty lens)) n places ≡ check_counts (length lens) n places
    unfolding check_counts
    counts_same n places = rw few
      where
        few : ltb 256 (length (without_empty lens)) ≡ ltb 256 (length lens)
        few = go (ltb 256 (length lens)) refl
          where
            go : (b : Bool) → ltb 256 (length lens) ≡ b → ltb 256 (length (without_empty lens)) ≡ ltb 256 (length lens)
            go true h = lt-ltb 256 (length (without_empty lens)) (same (ltb-true 256 (length lens) h)) ∙ sym h
            go false h = le-ltb 256 (length (without_empty lens)) (let less = out_length lens in let most = ltb-false 256 (length lens) h in omega (arith, less, most)) ∙ sym h

    pub alike_tracks : (xs ys ts : List Float) (ms : List ℕ) (labels places floats words : ℕ)
        → Alike (Recounted lens) (check_tracks xs ys ts ms lens labels places floats words) (check_tracks xs ys ts ms (without_empty lens) labels places floats words)
    unfolding check_tracks
    alike_tracks xs ys ts ms labels places floats words =
        rw (lengths_same (length xs) (length ys) (length ts) (length ms) labels, counts_same (length xs) places)
        (alike_turn (Recounted lens) _ _ _ _ (alike_lengths (Recounted lens) plain_early lens (length xs) (length ys) (length ts) (length ms) labels)
        (alike_turn (Recounted lens) _ _ _ _ (alike_counts (Recounted lens) plain_early (length lens) (length xs) places)
        (alike_turn (Recounted lens) _ _ _ _ (alike_work (Recounted lens) plain_early (length xs) places floats words)
        (alike_turn (Recounted lens) _ _ _ _ (alike_contents xs ys ts ms) (alike_end (Recounted lens))))))
