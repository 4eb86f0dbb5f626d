-- `reports::visits::write_visits` meets its contract.
-- Kept: the check does not find what stands here, also with the lemmas named on the function.
use mathlib.Core.Path.{ap₂, ◌∙◌}
use mathlib.Core.List.{List, map}
use Prim.Native.Nat.{ℕ}
use lib.IntN.{ℤ}
use borrow.Author.Rules.{rules}
use Rattle.lists.specs.Lists.{upto, overlay}
use Rattle.distance.specs.Distance.{points}
use Rattle.reports.specs.Visits.{visits_to, trace_visits}
use Rattle.reports.proofs.OneTraces.{lent_trace, visited_read}
use Rattle.reports.proofs.visits.write_visits.Goals as goal

pub returns : goal.returns
unfolding trace_visits
returns c =
    let a = c.args in
    let there = lent_trace a.t.tracks.lens.now a.trace _ c.requires.there c.trace_start-at.ensures c.part-one.ensures.fixes in
    let visited = visited_read a.m (ap₂ points c.points.ensures.xs c.points.ensures.ys) c.labels.ensures.labels (search rules) (search rules) c.part-one.ensures.count there c.label_stays-k.ensures in
    c.write_column.ensures (visits_to _) (λ l v h p. search rules)
    ∙ ap₂ (λ (ks : List ℤ) (k : ℕ). overlay (map (visits_to ks) (upto k)) c.args.out.now) visited c.requires.labels
