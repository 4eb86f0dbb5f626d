-- An accepted fit taken apart: what its checks gave, and demand 3.
use mathlib.Core.Path.{◌≡◌, refl, sym, ap, ◌∙◌, subst}
use mathlib.Core.Bool.{Bool, true, false}
use mathlib.Core.List.{List, [], ◌∷◌}
use Prim.Native.Nat.{ℕ, ◌≤◌}
use native.Mathlib.Nat.{le_trans}
use native.Mathlib.Omega.{arith}
use borrow.Author.Tests.{ltb-false}
use lib.Dec.{ltb}
use lib.ListN.{length, drop, length-drop}
use lib.Seq.{length-take-le}
use lib.Ieee.{Float}
use Rattle.distance.specs.declared.Point.{Point}
use Rattle.distance.specs.Distance.{euclidean, Metric}
use Rattle.trace.specs.Trace.{Fix, fixes, total, traces, fix_count}
use Rattle.trace.proofs.Fixes.{fixes_length}
use Rattle.neighbors.specs.Places.{Place, places}
use Rattle.cluster.specs.Cluster.{cluster, none_labelled}
use Rattle.settings.specs.declared.config.Config.{Config}
use Rattle.settings.specs.declared.refusal.Refusal.{Refusal}
use Rattle.std.specs.Prelude.{Ok, Err}
use Rattle.settings.specs.Checks.{Checked}
use Rattle.settings.specs.Settings.{check_config}
use Rattle.checks.specs.Tracks.{check_lengths, check_counts, check_tracks}
use Rattle.settings.proofs.Turns.{turn_first, turn_rest}
use Rattle.checks.proofs.Lengths.{Agreed, lengths_agree, Counted, counts_few}
use Rattle.checks.proofs.Unread.{SameMarked, same_fixes, same_check}
use Rattle.stay.specs.Stays.{all_medians}
-- Named so that the facts are checked before these lemmas.
use Rattle.infostop.specs.Facts
use Rattle.infostop.specs.Demand.{Given, Demand3}
use Rattle.infostop.specs.Fit.{Fitted, Outcome, refused, fitted, unless_none, given_by, from_places, from_medians, fit_traces, unless_refused, fit}
use Rattle.cluster.proofs.FixLabels.{fix_labels_length}
use Rattle.infostop.proofs.Theorem.{demand3}

no_way : {A : Type 0} (e : Refusal) (f : Fitted) → refused e ≡ fitted f → A
no_way e f q = absurd (let z : ◌≡◌ {A = ℕ} 0 1 = cc in omega arith)

-- What demand 3 speaks of, for an accepted fit.
abbrev pub given_for : Metric → Config → List (List Fix) → Fitted → Given
given_for dist c ts f = record { dist = dist; config = c; traces = ts; labels = f.labels; mark = f.mark }

-- ---- the fit of traces
module _ (dist : Metric) (c : Config) (cap : ℕ) (ts : List (List Fix)) (f : Fitted) where
  -- What a fit gives is worked out from the medians, whose places are at most the cap.
  pub record Done : Type 0 where
    pub few : length (places (all_medians dist c ts)) ≤ cap
    pub is : f ≡ given_by dist c cap ts (places (all_medians dist c ts)) (cluster dist c.r2 c.label_singleton c.seed (places (all_medians dist c ts)))

  abbrev Half : List Point → Type 0
  Half ms = (length (places ms) ≤ cap) × (f ≡ given_by dist c cap ts (places ms) (cluster dist c.r2 c.label_singleton c.seed (places ms)))

  last_part : (b : Bool) (g : Fitted) → unless_none b g ≡ fitted f → f ≡ g
  unfolding unless_none
  last_part true g e = no_way _ f e
  last_part false g e = let q : g ≡ f = cc in sym q

  place_part : (ps : List Place) (b : Bool) → ltb cap (length ps) ≡ b → from_places dist c cap ts ps b ≡ fitted f
      → (length ps ≤ cap) × (f ≡ given_by dist c cap ts ps (cluster dist c.r2 c.label_singleton c.seed ps))
  unfolding from_places
  place_part ps true q e = no_way _ f e
  place_part ps false q e = (ltb-false cap (length ps) q, last_part (none_labelled (cluster dist c.r2 c.label_singleton c.seed ps).labels) _ e)

  median_part : (ms : List Point) → from_medians dist c cap ts ms ≡ fitted f → Half ms
  unfolding from_medians
  median_part [] e = no_way _ f e
  median_part (m ∷ ms) e = place_part (places (m ∷ ms)) (ltb cap (length (places (m ∷ ms)))) refl e

  pub traces_done : fit_traces dist c cap ts ≡ fitted f → Done
  unfolding fit_traces
  traces_done e = let h = median_part (all_medians dist c ts) e in record { few = h.0; is = h.1 }

  -- Demand 3 for any distance that takes the lower place first.
  pub traces_demand3 : fit_traces dist c cap ts ≡ fitted f → cap ≤ 512 → fix_count ts ≤ 65536 → Demand3 (given_for dist c ts f)
  unfolding given_by
  traces_demand3 e k n =
      let d = traces_done e in
      subst (λ (z : Fitted). Demand3 (given_for dist c ts z)) (sym d.is) (demand3 dist c ts n (le_trans d.few k))

  -- One label for each fix.
  pub traces_labels : fit_traces dist c cap ts ≡ fitted f → length f.labels ≡ fix_count ts
  unfolding given_by
  traces_labels e = let d = traces_done e in ap (λ (z : Fitted). length z.labels) d.is ∙ fix_labels_length dist c _ _ ts

-- ---- cutting fixes into traces
pub fix_count_lem : (lens : List ℕ) (fs : List Fix) → total lens ≡ length fs → fix_count (traces lens fs) ≡ length fs
unfolding total traces fix_count
fix_count_lem [] fs e = e
fix_count_lem (n ∷ lens) fs e =
    let a = length-take-le n fs (omega arith) in
    let b = length-drop n fs in
    let r = fix_count_lem lens (drop n fs) (omega arith) in
    omega arith

-- ---- the whole fit
module _ (c : Config) (xs ys times : List Float) (marks lens : List ℕ) (labels cap floats words : ℕ) (f : Fitted) where
  abbrev pub ts : List (List Fix)
  ts = traces lens (fixes xs ys times marks)

  -- What an accepted fit was given.
  pub record AcceptedFit : Type 0 where
    pub config : check_config c ≡ Ok tt
    pub tracks : check_tracks xs ys times marks lens labels cap floats words ≡ Ok tt
    pub fits : fit_traces euclidean c cap ts ≡ fitted f

  passed : (k : Checked) (o : Outcome) → unless_refused k o ≡ fitted f → (k ≡ Ok tt) × (o ≡ fitted f)
  unfolding unless_refused
  passed (Ok x) o e = (refl, e)
  passed (Err r) o e = no_way r f e

  -- A fit that gives no refusal has accepted its settings and tracks.
  pub accepted : fit c xs ys times marks lens labels cap floats words ≡ fitted f → AcceptedFit
  unfolding fit
  accepted e =
      let p = passed (check_config c) _ e in
      let q = passed (check_tracks xs ys times marks lens labels cap floats words) _ p.1 in
      record { config = p.0; tracks = q.0; fits = q.1 }

  pub agreed : check_tracks xs ys times marks lens labels cap floats words ≡ Ok tt → Agreed lens (length xs) (length ys) (length times) (length marks) labels
  unfolding check_tracks
  agreed e = lengths_agree lens (length xs) (length ys) (length times) (length marks) labels (turn_first (check_lengths lens (length xs) (length ys) (length times) (length marks) labels) _ e)

  pub counted : check_tracks xs ys times marks lens labels cap floats words ≡ Ok tt → Counted (length lens) (length xs) cap
  unfolding check_tracks
  counted e =
      counts_few (length lens) (length xs) cap
      (turn_first (check_counts (length lens) (length xs) cap) _
      (turn_rest (check_lengths lens (length xs) (length ys) (length times) (length marks) labels) _ e))

  module _ (e : fit c xs ys times marks lens labels cap floats words ≡ fitted f) where
    a : AcceptedFit
    a = accepted e

    all_fixes : length (fixes xs ys times marks) ≡ length xs
    all_fixes = let g = agreed a.tracks in fixes_length xs ys times marks g.ys_length g.times_length g.marks_length

    pub count_is : fix_count ts ≡ length xs
    count_is = fix_count_lem lens (fixes xs ys times marks) (let g = agreed a.tracks in g.sum ∙ sym all_fixes) ∙ all_fixes

    -- Demand 3 of every accepted fit.
    pub fit_demand3 : Demand3 (given_for euclidean c ts f)
    fit_demand3 = let k = counted a.tracks in traces_demand3 euclidean c cap ts f a.fits k.few_places (subst (λ (m : ℕ). m ≤ 65536) (sym count_is) k.few_fixes)

    -- One label for each fix.
    pub fit_labels : length f.labels ≡ length xs
    fit_labels = traces_labels euclidean c cap ts f a.fits ∙ count_is

-- The value of a time whose mark is not 1 does not matter.
pub fit_unread : (c : Config) (xs ys times times' : List Float) (marks lens : List ℕ) (labels cap floats words : ℕ) → SameMarked times times' marks
    → fit c xs ys times marks lens labels cap floats words ≡ fit c xs ys times' marks lens labels cap floats words
unfolding fit
fit_unread c xs ys times times' marks lens labels cap floats words s = rw (same_check xs ys times times' marks lens labels cap floats words s, same_fixes xs ys times times' marks s)
