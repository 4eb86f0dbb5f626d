-- `neighbors::places::place_of` meets its contract.
-- Kept: the check does not find what stands here, also with the lemmas named on the function.
use Rattle.std.proofs.Common.{◌≡◌, length, take, ap, rules, tests}
use Rattle.std.proofs.Math.Seq.{take-length}
use mathlib.Core.Path.{◌∙◌}
use Rattle.distance.specs.Distance.{points}
use Rattle.std.proofs.lemmas.Iterator.Consumers.{YieldsList-from_first}
use Rattle.std.proofs.lemmas.Iterator.Search.{position_from_yields_List}
use Rattle.distance.specs.StepsIter.{to_come}
use Rattle.neighbors.proofs.Search.{is_at, points_found}
use Rattle.neighbors.proofs.places.place_of.Goals as goal

pub returns : goal.returns
returns c =
    let a = c.args in
    let whole : take (length a.places.xs.now) a.places.ys.now ≡ a.places.ys.now = rw (← a.places.ys_length) (take-length a.places.ys.now) in
    points_found a.m _
    (position_from_yields_List (is_at a.m) c.position.new.self _ c.position.result c.position.ensures.ran
    (YieldsList-from_first (λ x. x) to_come _ (c.iter.ensures.points ∙ ap (points a.places.xs.now) whole)) (λ x b q k. search (rules, tests)))
