-- `infostop::steps::from_tracks` meets its contract.
-- Kept: the check does not find what stands here, also with the lemmas named on the function.
use Rattle.infostop.proofs.Stays.{few_places, space}
use Rattle.infostop.proofs.steps.from_tracks.Goals as goal

pub from_medians-requires : goal.from_medians-requires
from_medians-requires c =
    let a = c.args in (
      few_places a.t.xs.now a.t.ys.now a.t.times.now a.t.marks.now a.t.lens.now a.floats.now a.words.now a.labels.now
          a.places c.requires,
      space a.t.xs.now a.t.ys.now a.t.times.now a.t.marks.now a.t.lens.now a.floats.now a.words.now a.labels.now a.places
          c.requires _ _ c.all_stays-k.new.work c.all_stays-k.new.events _
          c.all_stays-k.auto.work c.all_stays-k.auto.events
          c.all_stays-k.ensures,
    )
