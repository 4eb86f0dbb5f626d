-- From the clustering of the places to the outcome.
use mathlib.Core.Path.{◌≡◌, sym, ap, ◌∙◌}
use mathlib.Core.Bool.{Bool, true, false}
use mathlib.Core.List.{List, []}
use Rattle.std.specs.Prelude.{Ok, Err}
use Prim.Native.Nat.{ℕ, ◌*◌, ◌≤◌}
use lib.IntN.{ℤ}
use lib.ListN.{length, take}
use lib.Ieee.{Float}
use Rattle.distance.specs.declared.Point.{Point}
use Rattle.neighbors.specs.Places.{Place}
use Rattle.infomap.specs.declared.Kept.{Kept}
use Rattle.cluster.specs.Cluster.{Clustering, none_labelled}
use Rattle.cluster.specs.StepsSlices.{clustering_of}
use Rattle.cluster.specs.FixLabels.{stay_labels}
use Rattle.cluster.specs.Steps.{event_labels}
use Rattle.settings.specs.declared.config.Config.{Config}
use Rattle.settings.specs.declared.refusal.Refusal.TheVariants.{NoStop}
-- Named so that the facts are checked before these lemmas.
use Rattle.infostop.specs.Facts
use Rattle.infostop.specs.Fit.{refused, fitted, unless_none}
use Rattle.infostop.specs.Ends.{told, labels_after}
use Rattle.infostop.specs.Steps.{fitted_by, from_clustering, clustering_in, Grouped, FixLabelsAre}
use Rattle.lists.proofs.Parts.{back}
use Rattle.stay.specs.StepsAll.{medians_in}
use Rattle.stay.proofs.MediansRead.{medians_kept}

none_outcome : (ps : List Place) (ms : List Point) (es : List ℤ) (k : Clustering) → none_labelled k.labels ≡ true → from_clustering ps ms es k ≡ refused NoStop
unfolding from_clustering unless_none
none_outcome ps ms es k e = ap (λ (b : Bool). unless_none b (fitted_by ps ms es k)) e

some_outcome : (ps : List Place) (ms : List Point) (es : List ℤ) (k : Clustering) → none_labelled k.labels ≡ false
    → from_clustering ps ms es k ≡ fitted (fitted_by ps ms es k)
unfolding from_clustering unless_none
some_outcome ps ms es k e = ap (λ (b : Bool). unless_none b (fitted_by ps ms es k)) e

module _ (c : Config) (k : ℕ) (ps : List Place) (floats : List Float) (words old pl : List ℤ) (kept : Kept) (e : clustering_of pl kept ≡ clustering_in c k ps floats words old) where
  abbrev kc : Clustering
  kc = clustering_in c k ps floats words old

  abbrev ms : List Point
  ms = medians_in (length old) k floats

  labels_are : pl ≡ kc.labels
  labels_are = ap (λ (z : Clustering). z.labels) e

  pub grouped_none : none_labelled pl ≡ true → Grouped c k ps floats words old (Err NoStop) pl old
  grouped_none h =
      let o = none_outcome ps ms (take (length old) words) kc (ap none_labelled (sym labels_are) ∙ h) in
      record { of_places = labels_are; answer = ap told (sym o); of_fixes = ap (labels_after old) (sym o) }

  grouped_some : none_labelled pl ≡ false → (labels : List ℤ) → labels ≡ event_labels (stay_labels ps pl ms) (take (length old) words)
      → Grouped c k ps floats words old (Ok (record { mark = kept.mark; rounds = kept.rounds })) pl labels
  grouped_some h labels l =
      let o = some_outcome ps ms (take (length old) words) kc (ap none_labelled (sym labels_are) ∙ h) in
      record {
        of_places = labels_are;
        answer = ap (λ (z : Clustering). told (fitted (fitted_by [] [] [] z))) e ∙ ap told (sym o);
        of_fixes = l ∙ ap (λ (a : List ℤ). event_labels (stay_labels ps a ms) (take (length old) words)) labels_are ∙ ap (labels_after old) (sym o);
      }

  -- The medians ms' are read when the table t has come back.
  pub grouped_later : none_labelled pl ≡ false → (end : ℕ) (t : List Float) (ms' : List Point) (labels : List ℤ) → k ≤ length old → 4 * length old ≤ length floats
      → ms' ≡ medians_in (length old) k (back (4 * length old) end t floats) → FixLabelsAre ms' ps pl words (length old) labels
      → Grouped c k ps floats words old (Ok (record { mark = kept.mark; rounds = kept.rounds })) pl labels
  grouped_later h end t ms' labels few room m l = grouped_some h labels (rw (← medians_kept (length old) k end t floats few room, ← m) l)
