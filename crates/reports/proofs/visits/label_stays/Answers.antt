-- `reports::visits::label_stays` meets its contract.
-- Kept: the check does not find what stands here, also with the lemmas named on the function.
use mathlib.Core.Path.{◌≡◌, refl, ◌∙◌, subst}
use mathlib.Core.List.{List, ◌++◌}
use borrow.Author.Rules.{rules}
use lib.ListN.{length, drop}
use Rattle.distance.specs.declared.Point.{Point}
use Rattle.distance.specs.Distance.{euclidean}
use Rattle.distance.specs.Steps.{points_of}
use Rattle.trace.specs.Given.{fixes_of}
use Rattle.stay.specs.Stays.{stay_medians}
use Rattle.stay.proofs.AllStays.{alone_few, stays_alone}
use Rattle.cluster.specs.Steps.{StayLabelsAre}
use Rattle.reports.proofs.OneTraces.{written_read}
use Rattle.reports.proofs.visits.label_stays.Goals as goal

pub returns : goal.returns
returns c =
    let a = c.args in
    let f = c.stays-k.ensures in
    let found : points_of c.medians-medians.result ≡ stay_medians euclidean a.s (fixes_of a.t) =
    c.medians-medians.ensures.0 ∙ stays_alone a.s _ _ a.t _ _ _ refl f (search rules) (search rules) _ in
    let labelled = subst (λ (ms : List Point). StayLabelsAre ms (points_of a.places) a.pl.now c.stay_labels.new.out) found c.stay_labels.ensures in
    record { few = alone_few a.s _ _ a.t _ _ _ refl f; labels = λ ps h. written_read _ _ _ (c.stays-k.new.events ++ drop (length a.t.xs.now) a.words.now) (search rules) (search rules) ∙ labelled ps h }
