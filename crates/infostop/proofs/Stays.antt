-- What the stays of all traces leave in the work slices, and what follows for the outcome.
use mathlib.Core.Path.{◌≡◌, refl, sym, ap, ◌∙◌, subst}
use mathlib.Core.List.{List, [], ◌∷◌}
use Prim.Native.Nat.{ℕ, ◌*◌, ◌-◌, ◌≤◌}
use native.Mathlib.Nat.{sub-zero}
use native.Mathlib.Omega.{arith}
use lib.Dec.{ltb}
use lib.IntN.{ℤ}
use lib.ListN.{length, take, drop}
use lib.Seq.{take_at}
use lib.Ieee.{Float}
use Rattle.std.specs.Prelude.{Ok}
use Rattle.distance.specs.declared.Point.{Point}
use Rattle.distance.specs.Distance.{euclidean}
use Rattle.settings.specs.declared.config.Config.{Config}
use Rattle.trace.specs.Trace.{Fix}
use Rattle.neighbors.specs.Places.{places}
use Rattle.settings.specs.declared.refusal.Refusal.TheVariants.{NoStop}
use Rattle.checks.specs.Tracks.{check_tracks}
use Rattle.checks.proofs.Lengths.{Agreed}
use Rattle.checks.proofs.Accepted.{AcceptedFit, tracks_accepted}
use Rattle.stay.specs.Stays.{all_medians}
use Rattle.stay.specs.StepsAll.{AllRoom, AllFound}
use Rattle.infostop.specs.Fit.{refused, from_places, from_medians, fit_traces}
use Rattle.infostop.specs.Steps.{Space, places_outcome}
use Rattle.lists.proofs.Parts.{lent, back, lent_length, back_length}

module _ (xs ys ts : List Float) (ms lens : List ℕ) (floats : List Float) (words old : List ℤ) (cap : ℕ)
    (h : check_tracks xs ys ts ms lens (length old) cap (length floats) (length words) ≡ Ok tt) where
  accepted : AcceptedFit xs ys ts ms lens (length old) cap (length floats) (length words)
  accepted = tracks_accepted xs ys ts ms lens (length old) cap (length floats) (length words) h

  abbrev n : ℕ
  n = length old

  fixes_labels : n ≡ length xs
  fixes_labels = accepted.tracks.agreed.labels_length

  -- The regions of the work slices.
  pub floats_room : 4 * n ≤ length floats
  floats_room = omega (arith, fixes_labels, accepted.roomy.floats_length)

  pub words_room : n ≤ length words
  words_room = omega (arith, fixes_labels, accepted.roomy.words_length)

  pub few_places : cap ≤ 512
  few_places = accepted.few_places

  pub agreed : Agreed lens (length xs) (length ys) (length ts) (length ms) n
  agreed = accepted.tracks.agreed

  pub all_room : AllRoom (length xs) (length (lent 0 n words)) (length (lent 0 (4 * n) floats))
  all_room = record {
    events_length = lent_length 0 n words (omega arith) words_room ∙ sub-zero n ∙ fixes_labels;
    work_length = lent_length 0 (4 * n) floats (omega arith) floats_room ∙ sub-zero (4 * n) ∙ ap (λ (z : ℕ). 4 * z) fixes_labels;
    few = accepted.tracks.few_fixes;
  }

  module _ (s : Config) (traces : List (List Fix)) (work : List Float) (events : List ℤ) (k : ℕ) (work_length : length work ≡ length (lent 0 (4 * n) floats)) (events_length : length events ≡ length (lent 0 n words))
      (found : AllFound s traces (length xs) work events k) where
    abbrev floats' : List Float
    floats' = back 0 (4 * n) work floats

    abbrev words' : List ℤ
    words' = back 0 n events words

    long_work : length work ≡ 4 * n - 0
    long_work = work_length ∙ lent_length 0 (4 * n) floats (omega arith) floats_room

    long_events : length events ≡ n - 0
    long_events = events_length ∙ lent_length 0 n words (omega arith) words_room

    pub space : Space n k cap (length floats') (length words')
    space = record {
      few_fixes = omega (arith, fixes_labels, accepted.tracks.few_fixes);
      few_stays = omega (arith, fixes_labels, found.few);
      floats_length = omega (arith, fixes_labels, accepted.roomy.floats_length, back_length 0 (4 * n) work floats (omega arith) floats_room long_work);
      words_length = omega (arith, fixes_labels, accepted.roomy.words_length, back_length 0 n events words (omega arith) words_room long_events);
    }

    -- They stand in front of the slices.
    pub found_there : AllFound s traces n (take (4 * n) floats') (take n words') k
    found_there =
        let w : take (4 * n) floats' ≡ work = take_at work (drop (4 * n - 0) floats) (4 * n) (long_work ∙ sub-zero (4 * n)) in
        let e : take n words' ≡ events = take_at events (drop (n - 0) words) n (long_events ∙ sub-zero n) in
        subst (λ (z : List Float). AllFound s traces n z (take n words') k) (sym w)
        (subst (λ (z : List ℤ). AllFound s traces n work z k) (sym e) (subst (λ (z : ℕ). AllFound s traces z work events k) (sym fixes_labels) found))

-- ---- the outcome

none_outcome : (c : Config) (cap : ℕ) (ts : List (List Fix)) (ms : List Point) → length ms ≡ 0 → from_medians euclidean c cap ts ms ≡ refused NoStop
unfolding from_medians
none_outcome c cap ts [] e = refl
none_outcome c cap ts (m ∷ ms) e = absurd (omega arith)

-- No stay is 18.
pub no_stay :
    (c : Config) (cap : ℕ) (ts : List (List Fix)) (n : ℕ) (work : List Float) (events : List ℤ) (k : ℕ) → AllFound c ts n work events k → k ≡ 0 →
    fit_traces euclidean c cap ts ≡ refused NoStop
unfolding fit_traces
no_stay c cap ts n work events k f e = none_outcome c cap ts (all_medians euclidean c ts) (sym f.count ∙ e)

some_outcome :
    (c : Config) (cap : ℕ) (ts : List (List Fix)) (ms : List Point) → (length ms ≡ 0 → ⊥) → from_places euclidean c cap ts (places ms)
    (ltb cap (length (places ms))) ≡ from_medians euclidean c cap ts ms
unfolding from_medians
some_outcome c cap ts [] e = absurd (e refl)
some_outcome c cap ts (m ∷ ms) e = refl

-- With a stay the fit goes on from its places.
pub some_stay : (c : Config) (cap : ℕ) (ts : List (List Fix)) (n : ℕ) (work : List Float) (events : List ℤ) (k : ℕ) → AllFound c ts n work events k → (k ≡ 0 → ⊥)
    → places_outcome c cap ts ≡ fit_traces euclidean c cap ts
unfolding fit_traces
some_stay c cap ts n work events k f e = some_outcome c cap ts (all_medians euclidean c ts) (λ z. e (f.count ∙ z))
