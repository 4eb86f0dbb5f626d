-- The stay numbers of all traces lead to the medians that the fixes lie at.
use mathlib.Core.Path.{◌≡◌, refl, sym, ap, ap₂, ◌∙◌}
use mathlib.Core.Logic.{inl, inr}
use mathlib.Core.List.{List, [], ◌∷◌, ◌++◌, map}
use mathlib.Core.Option.{Option}
use Prim.Native.Nat.{ℕ, zero, suc, ◌+◌, ◌*◌, ◌≤◌}
use native.Mathlib.Omega.{arith}
use lib.IntN.{ℤ}
use lib.ListN.{length, get_or, take, drop, length-append}
use lib.Seq.{drop-drop, drop-append_seam}
use lib.Ieee.{Float}
use Rattle.lists.proofs.Maps.{map_append}
use Rattle.distance.specs.declared.Point.{Point}
use Rattle.settings.specs.declared.config.Config.{Config}
use Rattle.trace.specs.Trace.{Fix, fix_count}
use Rattle.stay.specs.Stays.{stay_medians, all_medians, all_fix_medians}
use Rattle.stay.specs.StepsEvents.{event_map}
use Rattle.stay.proofs.Lies.{median_at, Number, event_map_length, event_map_lies, event_map_number}
use Rattle.lists.specs.Lists.{minus_one}
use Rattle.distance.specs.Distance.{euclidean, points, Metric}
use Rattle.stay.specs.StepsAll.{all_events, AllFound}

-- ---- numbers of stays

pub number_below : (m n : ℕ) (e : ℤ) → m ≤ n → Number m e → Number n e
number_below m n e h (inl q) = inl q
number_below m n e h (inr (i, q, l)) = inr (i, q, omega arith)

number_append : (m : ℕ) (a b : List ℤ) → ((i : ℕ) → Number m (get_or a i minus_one)) → ((i : ℕ) → Number m (get_or b i minus_one)) → (i : ℕ) → Number m (get_or (a ++ b) i minus_one)
number_append m [] b p q i = q i
number_append m (x ∷ a) b p q zero = p 0
number_append m (x ∷ a) b p q (suc i) = number_append m a b (λ j. p (suc j)) q i

module _ (dist : Metric) (s : Config) where
  -- A number of a fix is -1 or that of a stay.
  pub all_events_number : (k : ℕ) (ts : List (List Fix)) (i : ℕ) → Number (k + length (all_medians dist s ts)) (get_or (all_events dist s k ts) i minus_one)
  unfolding all_events all_medians
  all_events_number k [] i = inl refl
  all_events_number k (t ∷ ts) i =
      let m = k + length (stay_medians dist s t ++ all_medians dist s ts) in
      let l = length-append (stay_medians dist s t) (all_medians dist s ts) in
      number_append m (event_map dist s k t) (all_events dist s (k + length (stay_medians dist s t)) ts)
      (λ j. number_below (k + length (stay_medians dist s t)) m (get_or (event_map dist s k t) j minus_one) (omega arith)
      (event_map_number dist s k t j))
      (λ j. number_below (k + length (stay_medians dist s t) + length (all_medians dist s ts)) m
      (get_or (all_events dist s (k + length (stay_medians dist s t)) ts) j minus_one) (omega arith)
      (all_events_number (k + length (stay_medians dist s t)) ts j))
      i

  -- Each fix has one.
  pub all_events_length : (k : ℕ) (ts : List (List Fix)) → length (all_events dist s k ts) ≡ fix_count ts
  unfolding all_events fix_count
  all_events_length k [] = refl
  all_events_length k (t ∷ ts) =
      let a = length-append (event_map dist s k t) (all_events dist s (k + length (stay_medians dist s t)) ts) in
      let b = event_map_length dist s k t in
      let c = all_events_length (k + length (stay_medians dist s t)) ts in
      omega arith

  -- The number of a fix leads to the median that it lies at; `all` has the medians from place k on.
  pub all_events_lie : (k : ℕ) (ts : List (List Fix)) (all : List Point) → drop k all ≡ all_medians dist s ts → map (median_at all) (all_events dist s k ts) ≡ all_fix_medians dist s ts
  unfolding all_events all_fix_medians all_medians
  all_events_lie k [] all e = refl
  all_events_lie k (t ∷ ts) all e =
      let ms = stay_medians dist s t in
      let rest : drop (k + length ms) all ≡ all_medians dist s ts = sym (drop-drop (length ms) k all) ∙ ap (drop (length ms)) e ∙ drop-append_seam ms (all_medians dist s ts) in
      map_append (median_at all) (event_map dist s k t) (all_events dist s (k + length ms) ts)
      ∙ ap₂ (λ (a b : List (Option Point)). a ++ b) (event_map_lies dist s k t all (all_medians dist s ts) e) (all_events_lie (k + length ms) ts all rest)

-- ---- what `all_stays` leaves: its medians are those that its stay numbers speak of
module _ (s : Config) (ts : List (List Fix)) (n : ℕ) (work : List Float) (events : List ℤ) (r : ℕ) (found : AllFound s ts n work events r) where
  abbrev pub medians : List Point
  medians = points (take r (drop (2 * n) work)) (take r (drop (3 * n) work))

  pub found_number : (i : ℕ) → Number r (get_or events i minus_one)
  found_number i =
      rw found.numbered
      (number_below (0 + length (all_medians euclidean s ts)) r (get_or (all_events euclidean s 0 ts) i minus_one) (omega (arith, found.count)) (all_events_number euclidean s 0 ts i))

  pub found_lies : map (median_at medians) events ≡ all_fix_medians euclidean s ts
  found_lies = rw (found.medians, found.numbered) (all_events_lie euclidean s 0 ts (all_medians euclidean s ts) refl)
