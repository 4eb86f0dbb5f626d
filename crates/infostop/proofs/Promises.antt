-- The fit by its checks, and what its end means for the caller: demand 3.
use mathlib.Core.Path.{◌≡◌, refl, sym, ap, ◌∙◌, subst}
use mathlib.Core.Bool.{Bool, true, false}
use mathlib.Core.List.{List, [], ◌∷◌}
use Rattle.std.specs.Prelude.{Ok, Err}
use Prim.Native.Nat.{ℕ}
use lib.Dec.{ltb}
use lib.IntN.{ℤ}
use lib.ListN.{length}
use lib.Ieee.{Float}
use Rattle.lists.proofs.Tests.{clash}
use Rattle.distance.specs.declared.Point.{Point}
use Rattle.distance.specs.Distance.{euclidean, Metric}
use Rattle.trace.specs.Trace.{Fix, fixes, traces}
use Rattle.neighbors.specs.Places.{Place, places}
use Rattle.infomap.specs.Infomap.{RunMark, mark_of}
use Rattle.cluster.specs.Cluster.{cluster, none_labelled}
use Rattle.settings.specs.declared.config.Config.{Config}
use Rattle.settings.specs.declared.refusal.Refusal.{Refusal}
use Rattle.settings.specs.Settings.{check_config}
use Rattle.checks.specs.Tracks.{check_tracks}
use Rattle.stay.specs.Stays.{all_medians}
use Rattle.infostop.specs.Demand.{Demand3}
use Rattle.infostop.specs.Fit.{Fitted, Outcome, refused, fitted, unless_none, given_by, from_places, from_medians, fit_traces, unless_refused, fit}
use Rattle.infostop.proofs.Accepted.{fit_demand3}
use Rattle.infostop.specs.declared.model.Infostop.{Infostop}
use Rattle.infostop.specs.declared.answer.Fit.{Fit}
use Rattle.infostop.specs.Ends.{labelled_by, told_by, Ended, keeps_work, WorkEnds, HoldsDemand3, Promised}
use Rattle.infostop.specs.Steps.{handed_back}
use Rattle.infostop.proofs.Ending.{no_kept, refused_ends}

-- ---- the fit by its checks
module _ (c : Config) (xs ys times : List Float) (marks lens : List ℕ) (labels cap floats words : ℕ) where
  abbrev outcome : Outcome
  outcome = fit c xs ys times marks lens labels cap floats words

  pub config_refused : (e : Refusal) → check_config c ≡ Err e → outcome ≡ refused e
  unfolding fit unless_refused
  config_refused e q = rw q refl

  pub tracks_refused : (e : Refusal) → check_config c ≡ Ok tt → check_tracks xs ys times marks lens labels cap floats words ≡ Err e → outcome ≡ refused e
  unfolding fit unless_refused
  tracks_refused e p q = rw (p, q) refl

  pub both_accepted :
      check_config c ≡ Ok tt → check_tracks xs ys times marks lens labels cap floats words ≡ Ok tt → outcome ≡ fit_traces
      euclidean c cap (traces lens (fixes xs ys times marks))
  unfolding fit unless_refused
  both_accepted p q = rw (p, q) refl

-- ---- the work slices are free once the checks have passed
module _ (dist : Metric) (c : Config) (cap : ℕ) (ts : List (List Fix)) where
  free_last : (b : Bool) (f : Fitted) → keeps_work (unless_none b f) ≡ false
  unfolding unless_none
  free_last true f = refl
  free_last false f = refl

  free_places : (ps : List Place) (b : Bool) → keeps_work (from_places dist c cap ts ps b) ≡ false
  unfolding from_places
  free_places ps true = refl
  free_places ps false = let k = cluster dist c.r2 c.label_singleton c.seed ps in free_last (none_labelled k.labels) (given_by dist c cap ts ps k)

  free_medians : (ms : List Point) → keeps_work (from_medians dist c cap ts ms) ≡ false
  unfolding from_medians
  free_medians [] = refl
  free_medians (m ∷ ms) = free_places (places (m ∷ ms)) (ltb cap (length (places (m ∷ ms))))

  pub free_work : keeps_work (fit_traces dist c cap ts) ≡ false
  unfolding fit_traces
  free_work = free_medians (all_medians dist c ts)

pub work_ends : (o : Outcome) (floats floats' : List Float) (words words' : List ℤ) → keeps_work o ≡ false → WorkEnds o floats words floats' words'
work_ends o floats floats' words words' e h = absurd (clash (keeps_work o) h e)

-- ---- demand 3

kept_mark : (m m' : RunMark) (r r' : ℕ) → labelled_by m r ≡ labelled_by m' r' → m ≡ m'
kept_mark m m' r r' e = cc

module _ (m : Infostop) (xs ys times : List Float) (marks lens : List ℕ) (old : List ℤ) (cap floats words : ℕ) (r : Fit) (labels : List ℤ) where
  abbrev c : Config
  c = m.config

  abbrev ts : List (List Fix)
  ts = traces lens (fixes xs ys times marks)

  abbrev o : Outcome
  o = fit c xs ys times marks lens (length old) cap floats words

  -- What the caller holds after an accepted fit has demand 3.
  pub ended_demand3 : Ended m old o r labels → HoldsDemand3 c ts r labels
  ended_demand3 x k rounds a = go o refl x
    where
      go : (u : Outcome) → o ≡ u → Ended m old u r labels → Demand3 (record { dist = euclidean; config = c; traces = ts; labels = labels; mark = mark_of k })
      go (refused e) q y = no_kept (mark_of k) rounds _ _ (ap told_by (sym a) ∙ y.answer)
      go (fitted f) q y =
          let mark : f.mark ≡ mark_of k = sym (kept_mark (mark_of k) f.mark rounds f.rounds (ap told_by (sym a) ∙ y.answer)) in
          subst (λ (z : List ℤ). Demand3 (record { dist = euclidean; config = c; traces = ts; labels = z; mark = mark_of k })) (sym y.fixes)
          (subst (λ (z : RunMark). Demand3 (record { dist = euclidean; config = c; traces = ts; labels = f.labels; mark = z })) mark
          (fit_demand3 c xs ys times marks lens (length old) cap floats words f q))

-- ---- what `fit_predict_many` ensures
module _ (m : Infostop) (xs ys times : List Float) (marks lens : List ℕ) (old : List ℤ) (cap : ℕ) (floats : List Float) (words : List ℤ) where
  abbrev whole : Outcome
  whole = fit m.config xs ys times marks lens (length old) cap (length floats) (length words)

  abbrev tracks : List (List Fix)
  tracks = traces lens (fixes xs ys times marks)

  abbrev Holds : Fit → List ℤ → List Float → List ℤ → Type 0
  Holds r labels floats' words' = Promised m old floats words whole tracks r labels floats' words'

  promised : (r : Fit) (labels : List ℤ) (floats' : List Float) (words' : List ℤ) → Ended m old whole r labels → WorkEnds whole floats words floats' words' → Holds r labels floats' words'
  promised r labels floats' words' x w = record { ended = x; work = w; demand3 = ended_demand3 m xs ys times marks lens old cap (length floats) (length words) r labels x }

  -- A refusal by the checks.
  pub promised_refused : (e : Refusal) → whole ≡ refused e → Holds (handed_back (Err e) m) old floats words
  promised_refused e q = promised _ _ _ _ (refused_ends m old whole e q) (λ z. (refl, refl))

  -- What comes after them.
  pub promised_fit : (r : Fit) (labels : List ℤ) (floats' : List Float) (words' : List ℤ) → check_config m.config ≡ Ok tt → check_tracks xs ys times marks lens (length old) cap (length floats) (length words) ≡ Ok tt
      → Ended m old (fit_traces euclidean m.config cap tracks) r labels → Holds r labels floats' words'
  promised_fit r labels floats' words' p q x =
      let b = both_accepted m.config xs ys times marks lens (length old) cap (length floats) (length words) p q in
      promised r labels floats' words' (subst (λ (z : Outcome). Ended m old z r labels) (sym b) x)
      (work_ends whole floats floats' words words' (ap keeps_work b ∙ free_work euclidean m.config cap tracks))
