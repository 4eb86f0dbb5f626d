-- The whole fit: from settings and the caller's slices to a refusal, or labels, places, mark and rounds (docs/RULES.md). Definitions only.
use Rattle.std.specs.Prelude.{ℕ, Bool, ltb, ℤ, length, Float, Ok, Err}
use Rattle.std.proofs.Math.Bool.{true, false}
use mathlib.Core.List.{List, [], ◌∷◌}
use Rattle.distance.specs.declared.Point.{Point}
use Rattle.distance.specs.Distance.{euclidean, Metric}
use Rattle.settings.specs.declared.config.Config.{Config}
use Rattle.trace.specs.declared.Tracks.{Tracks}
use Rattle.trace.specs.Trace.{Fix, fixes, traces}
use Rattle.neighbors.specs.Places.{Place, places}
use Rattle.infomap.specs.Infomap.{RunMark}
use Rattle.cluster.specs.Cluster.{Clustering, cluster, none_labelled}
use Rattle.settings.specs.declared.refusal.Refusal.{Refusal}
use Rattle.settings.specs.declared.refusal.Refusal.TheVariants.{NoStop, TooManyPlaces}
use Rattle.settings.specs.Checks.{Checked}
use Rattle.settings.specs.Settings.{check_config}
use Rattle.checks.specs.Tracks.{check_tracks}
use Rattle.stay.specs.Stays.{all_medians}
use Rattle.cluster.specs.FixLabels.{fix_labels}

-- What a fit without a refusal gives: the labels of the fixes, in order of the traces; the places and their labels; mark and rounds of the kept trial.
pub record Fitted : Type 0 where
  pub labels : List ℤ
  pub places : List Place
  pub place_labels : List ℤ
  pub mark : RunMark
  pub rounds : ℕ

-- A fit gives one of the two. The rules' number and trace of a refusal are `number_of` and `trace_of` of crate `settings`.
pub data Outcome : Type 0 where
  refused : Refusal → Outcome
  fitted : Fitted → Outcome

-- 18 for all labels -1.
unfoldable pub unless_none : Bool → Fitted → Outcome
unless_none true f = refused NoStop
unless_none false f = fitted f

module _ (dist : Metric) (c : Config) (cap : ℕ) (ts : List (List Fix)) where
  unfoldable pub given_by : List Place → Clustering → Fitted
  unfolding fix_labels
  given_by ps k = record { labels = fix_labels dist c ps k.labels ts; places = ps; place_labels = k.labels; mark = k.mark; rounds = k.rounds }

  -- 19: the Bool tells whether there are more distinct medians than `places`, the cap. Then the grouping.
  unfoldable pub from_places : List Place → Bool → Outcome
  unfolding unless_none none_labelled given_by cluster
  from_places ps true = refused TooManyPlaces
  from_places ps false = let k = cluster dist c.r2 c.label_singleton c.seed ps in unless_none (none_labelled k.labels) (given_by ps k)

  -- 18 for no accepted stay. Then the distinct medians.
  unfoldable pub from_medians : List Point → Outcome
  unfolding from_places places
  from_medians [] = refused NoStop
  from_medians (m ∷ ms) = let ps = places (m ∷ ms) in from_places ps (ltb cap (length ps))

  -- The fit of traces that have passed the checks.
  unfoldable pub fit_traces : Outcome
  unfolding from_medians all_medians
  fit_traces = from_medians (all_medians dist c ts)

-- A check comes first.
unfoldable pub unless_refused : Checked → Outcome → Outcome
unless_refused (Ok x) o = o
unless_refused (Err e) o = refused e

-- `fit_predict_many` over the caller's slices: 1 to 6, 23, 24; 7 to 17; 18, 19, 18. `labels`, `floats` and `words` are the lengths of the label slice and of the work slices.
unfoldable pub fit : Config → List Float → List Float → List Float → List ℕ → List ℕ → ℕ → ℕ → ℕ → ℕ → Outcome
unfolding unless_refused check_config check_tracks fit_traces fixes traces
fit c xs ys times marks lens labels cap floats words =
    unless_refused (check_config c)
    (unless_refused (check_tracks xs ys times marks lens labels cap floats words) (fit_traces euclidean c cap (traces lens (fixes xs ys times marks))))

-- The same of tracks handed over.
abbrev pub fit_of : Config → Tracks → ℕ → ℕ → ℕ → ℕ → Outcome
fit_of c t labels cap floats words = fit c t.xs.now t.ys.now t.times.now t.marks.now t.lens.now labels cap floats words
