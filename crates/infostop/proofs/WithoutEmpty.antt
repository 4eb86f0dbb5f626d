-- An empty trace means that nobody walked: a fit gives what it gives with the empty traces taken out of the list. Two cases alone can be apart:
-- a list of only empty traces, which is 18, where without them there is no trace, 7; and a list that is above 256 traces with them, and not without.
use mathlib.Core.Path.{◌≡◌, refl, ap, ◌∙◌}
use mathlib.Core.Bool.{Bool, true, false}
use mathlib.Core.List.{List, [], ◌∷◌}
use mathlib.Core.Logic.{◌≢◌}
use Prim.Native.Nat.{ℕ, ◌*◌, ◌<◌, ◌≤◌}
use borrow.Author.Tests.{eqb-false}
use lib.Dec.{ltb}
use lib.ListN.{length}
use lib.Ieee.{Float}
use Rattle.distance.specs.declared.Point.{Point}
use Rattle.distance.specs.Distance.{euclidean, Metric}
use Rattle.settings.specs.declared.config.Config.{Config}
use Rattle.settings.specs.declared.refusal.Refusal.TheVariants.{NoTrace, NoStop}
use Rattle.std.specs.Prelude.{Ok, Err}
use Rattle.settings.specs.Checks.{Checked, refuse_if, first_of, in_turn}
use Rattle.settings.specs.Settings.{check_config}
use Rattle.settings.proofs.RefusalNumbers.{no_eleven, late_apart}
use Rattle.trace.specs.Trace.{Fix, fixes, total, traces}
use Rattle.trace.specs.WithoutEmpty.{without_empty}
use Rattle.trace.proofs.WithoutEmpty.{out_all}
use Rattle.checks.specs.Tracks.{check_lengths, check_tracks}
use Rattle.settings.proofs.Alike.{Alike, alike_config}
use Rattle.checks.specs.Recounted.{Recounted}
use Rattle.checks.proofs.Recounted.{plain, plain_early, alike_tracks}
use Rattle.checks.proofs.OnlyEmpty.{only_empty_passes}
use Rattle.stay.specs.Stays.{all_medians, all_fix_medians}
use Rattle.stay.proofs.EmptyTraces.{same_medians, same_fix_medians, all_empty}
use Rattle.neighbors.specs.Places.{Place, places}
use Rattle.cluster.specs.Cluster.{Clustering, cluster}
use Rattle.cluster.specs.FixLabels.{fix_labels}
use Rattle.infostop.specs.Fit.{Outcome, refused, fitted, given_by, from_places, from_medians, fit_traces, unless_refused, fit}
use Rattle.infostop.specs.Ends.{Told, refused_with, labelled_by, told, keeps_work}
use Rattle.infostop.proofs.Promises.{free_work}
use Rattle.infostop.specs.SameOutcome.{SameOutcome}

-- ---- the fit of traces that have passed the checks

module _ (dist : Metric) (c : Config) (cap : ℕ) where
  -- It takes in nothing of the traces but their stays.
  module _ (ts us : List (List Fix)) (e : all_fix_medians dist c us ≡ all_fix_medians dist c ts) where
    same_given : (ps : List Place) (k : Clustering) → given_by dist c cap us ps k ≡ given_by dist c cap ts ps k
    unfolding given_by fix_labels
    same_given ps k = rw e

    same_places : (ps : List Place) (b : Bool) → from_places dist c cap us ps b ≡ from_places dist c cap ts ps b
    unfolding from_places
    same_places ps true = refl
    same_places ps false = rw (same_given ps (cluster dist c.r2 c.label_singleton c.seed ps))

    same_from : (ms : List Point) → from_medians dist c cap us ms ≡ from_medians dist c cap ts ms
    unfolding from_medians
    same_from [] = refl
    same_from (m ∷ ms) = same_places (places (m ∷ ms)) (ltb cap (length (places (m ∷ ms))))

  same_fit : (lens : List ℕ) (fs : List Fix) → fit_traces dist c cap (traces (without_empty lens) fs) ≡ fit_traces dist c cap (traces lens fs)
  unfolding fit_traces
  same_fit lens fs =
      ap (from_medians dist c cap (traces (without_empty lens) fs)) (same_medians dist c lens fs)
      ∙ same_from (traces lens fs) (traces (without_empty lens) fs) (same_fix_medians dist c lens fs) (all_medians dist c (traces lens fs))

-- Its refusals, 18 and 19, are about no trace.
itself : (lens : List ℕ) (o : Outcome) → keeps_work o ≡ false → SameOutcome lens o o
itself lens (fitted f) h = refl
itself lens (refused e) h = plain lens e (late_apart e h)

-- ---- the whole fit

unless : (lens : List ℕ) (a a' : Checked) (o o' : Outcome) → Alike (Recounted lens) a a' → SameOutcome lens o o' → SameOutcome lens (unless_refused a o) (unless_refused a' o')
unfolding unless_refused
unless lens (Ok u) (Ok v) o o' p q = q
unless lens (Err e) (Err e') o o' p q = p
unless lens (Ok u) (Err e) o o' p q = absurd p
unless lens (Err e) (Ok u) o o' p q = absurd p

-- Somebody walked, and the limit of 256 traces says the same of both lists: the fit is that of the list without the empty traces.
pub without_empty_lem : (c : Config) (xs ys ts : List Float) (ms lens : List ℕ) (labels cap floats words : ℕ) → 0 < total lens → (256 < length lens → 256 < length (without_empty lens))
    → SameOutcome lens (fit c xs ys ts ms lens labels cap floats words) (fit c xs ys ts ms (without_empty lens) labels cap floats words)
unfolding fit fit_traces
without_empty_lem c xs ys ts ms lens labels cap floats words some same =
    let fs = fixes xs ys ts ms in
    let o = fit_traces euclidean c cap (traces lens fs) in
    let a = check_tracks xs ys ts ms lens labels cap floats words in
    let b = check_tracks xs ys ts ms (without_empty lens) labels cap floats words in
    rw (same_fit euclidean c cap lens fs)
    (unless lens (check_config c) (check_config c) (unless_refused a o) (unless_refused b o) (alike_config (Recounted lens) (plain_early lens) c)
    (unless lens a b o o (alike_tracks lens some same xs ys ts ms labels cap floats words)
    (itself lens o (free_work euclidean c cap (traces lens fs)))))

-- Nobody walked: 18 behind the checks.
pub nobody_walked : (c : Config) (xs ys ts : List Float) (ms lens : List ℕ) (labels cap floats words : ℕ) → total lens ≡ 0
    → fit c xs ys ts ms lens labels cap floats words ≡ unless_refused (check_config c) (unless_refused (check_tracks xs ys ts ms lens labels cap floats words) (refused NoStop))
unfolding fit fit_traces from_medians
nobody_walked c xs ys ts ms lens labels cap floats words none = rw (all_empty euclidean c lens (fixes xs ys ts ms) none)

-- So a list of only empty traces is 18, and without them it is 7.
pub only_empty : (c : Config) (lens : List ℕ) (cap floats words : ℕ) → check_config c ≡ Ok tt → 0 < length lens → length lens ≤ 256 → total lens ≡ 0
    → 1 ≤ cap → cap ≤ 512 → cap * cap ≤ floats → 8 * cap ≤ words → fit c [] [] [] [] lens 0 cap floats words ≡ refused NoStop
unfolding unless_refused
only_empty c lens cap floats words settings some few none a b f w =
    nobody_walked c [] [] [] [] lens 0 cap floats words none ∙ rw (settings, only_empty_passes lens some few none cap floats words a b f w)

pub none_left : (c : Config) (xs ys ts : List Float) (ms lens : List ℕ) (labels cap floats words : ℕ) → check_config c ≡ Ok tt → total lens ≡ 0
    → fit c xs ys ts ms (without_empty lens) labels cap floats words ≡ refused NoTrace
unfolding fit unless_refused check_tracks check_lengths in_turn first_of refuse_if
none_left c xs ys ts ms lens labels cap floats words settings none = rw (settings, out_all lens none)

-- ---- no number 11

abbrev number_told : Told → ℕ
number_told (refused_with n k) = n
number_told (labelled_by m r) = 0

pub never_eleven : (o : Outcome) (k : ℕ) → told o ≢ refused_with 11 k
never_eleven (refused e) k h = no_eleven e (ap number_told h)
never_eleven (fitted f) k h = eqb-false 0 11 refl (ap number_told h)
