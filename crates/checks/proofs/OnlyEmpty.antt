-- A list of only empty traces, 256 at most, passes all checks where `places` is from 1 to 512 and the work slices are long enough.
use mathlib.Core.Path.{◌≡◌, refl, ◌∙◌}
use mathlib.Core.List.{List, [], ◌∷◌}
use Prim.Native.Nat.{ℕ, suc, ◌+◌, ◌*◌, ◌<◌, ◌≤◌}
use native.Mathlib.Omega.{arith}
use borrow.Author.Tests.{ne_eqb, le-ltb}
use lib.ListN.{length}
use Rattle.trace.specs.Trace.{Fix, fixes, total, traces}
use Rattle.std.specs.Prelude.{Ok}
use Rattle.settings.specs.Checks.{Checked, refuse_if, first_of, in_turn, each_of, each_from}
use Rattle.checks.specs.Traces.{check_trace, check_size}
use Rattle.checks.specs.Tracks.{same_lengths, check_lengths, check_counts, check_work, check_contents, check_tracks}
use Rattle.checks.proofs.Usable.{none_refused, none_far, over_empty}

each_passes : (f : ℕ → List Fix → Checked) → ((k : ℕ) → f k [] ≡ Ok tt) → (lens : List ℕ) (k : ℕ) (fs : List Fix) → total lens ≡ 0
    → each_from f k (traces lens fs) ≡ Ok tt
unfolding total
each_passes f pass [] k fs e = unfold traces each_from in refl
each_passes f pass (n ∷ ns) k fs e = over_empty f pass n ns k fs (omega arith) ∙ each_passes f pass ns (suc k) fs (omega arith)

module _ (lens : List ℕ) (some : 0 < length lens) (few : length lens ≤ 256) (none : total lens ≡ 0) where
  lengths_pass : check_lengths lens 0 0 0 0 0 ≡ Ok tt
  unfolding check_lengths same_lengths in_turn first_of refuse_if
  lengths_pass = rw (ne_eqb (length lens) 0 (λ e. omega arith), none)

  counts_pass : (cap : ℕ) → 1 ≤ cap → cap ≤ 512 → check_counts (length lens) 0 cap ≡ Ok tt
  unfolding check_counts refuse_if
  counts_pass cap a b = rw (le-ltb 256 (length lens) few, ne_eqb cap 0 (λ e. omega arith), le-ltb 512 cap b)

  contents_pass : check_contents [] [] [] [] lens ≡ Ok tt
  unfolding check_contents in_turn first_of each_of
  contents_pass = rw (each_passes check_trace none_refused lens 0 (fixes [] [] [] []) none, each_passes check_size none_far lens 0 (fixes [] [] [] []) none)

  pub only_empty_passes : (cap floats words : ℕ) → 1 ≤ cap → cap ≤ 512 → cap * cap ≤ floats → 8 * cap ≤ words
      → check_tracks [] [] [] [] lens 0 cap floats words ≡ Ok tt
  unfolding check_tracks check_work in_turn first_of refuse_if
  only_empty_passes cap floats words a b f w =
      rw (lengths_pass, counts_pass cap a b, le-ltb floats (4 * 0 + cap * cap) (omega arith), le-ltb words (4 * 0 + 8 * cap) (omega arith), contents_pass)
