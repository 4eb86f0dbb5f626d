-- Labels of the fixes of all traces, and of stays (docs/RULES.md, "Labels"). The distance is a parameter. Definitions only.
use Rattle.std.specs.Prelude.{List, map, ℤ, negsuc, get_or}
use Rattle.std.proofs.Math.Option.{Option, none, some}
use Rattle.distance.specs.declared.Point.{Point}
use Rattle.settings.specs.declared.config.Config.{Config}
use Rattle.trace.specs.Trace.{Fix}
use Rattle.stay.specs.Stays.{all_fix_medians}
use Rattle.neighbors.specs.Places.{Place, place_of}
use Rattle.distance.specs.Distance.{Metric}

-- A fix's label is that of its median's place; -1 outside accepted stays.
unfoldable pub label_for : List Place → List ℤ → Option Point → ℤ
label_for ps place_labels none = negsuc 0
label_for ps place_labels (some m) = get_or place_labels (place_of ps m) (negsuc 0)

unfoldable pub fix_labels : Metric → Config → List Place → List ℤ → List (List Fix) → List ℤ
fix_labels dist s ps place_labels ts = map (label_for ps place_labels) (all_fix_medians dist s ts)

-- Of each stay the label of its median's place.
unfoldable pub stay_labels : List Place → List ℤ → List Point → List ℤ
stay_labels ps place_labels ms = map (λ (m : Point). label_for ps place_labels (some m)) ms
