-- With the grid off the medians are those of a fit without one. A fit takes `min_spatial_resolution` in through these two lists and through the check of its settings
-- alone, so it is then the same fit.
use mathlib.Core.Path.{◌≡◌, refl, ap₂}
use mathlib.Core.Bool.{Bool, false, cond}
use mathlib.Core.List.{List, [], ◌∷◌, ◌++◌}
use mathlib.Core.Option.{Option, none, some}
use lib.ListN.{length, replicate}
use lib.Ieee.{lt}
use Rattle.float.specs.Binary64.{zero64}
use Rattle.distance.specs.declared.Point.{Point}
use Rattle.distance.specs.Distance.{Metric}
use Rattle.distance.proofs.GridLaws.{grid_off}
use Rattle.settings.specs.declared.config.Config.{Config}
use Rattle.trace.specs.Trace.{Fix, timed}
use Rattle.stay.specs.Stays.{middle, stay_median, is_stay, groups, medians_of, fix_medians_of, stay_medians, fix_medians, all_medians, all_fix_medians}

-- ---- the medians without a grid: those of the groups as they are

module _ (s : Config) where
  pub plain_of : Bool → List (List Fix) → List Point
  plain_of t [] = []
  plain_of t (g ∷ gs) = let r = plain_of t gs in cond (is_stay s t g) (middle g ∷ r) r

  pub plain_fix_of : Bool → List (List Fix) → List (Option Point)
  plain_fix_of t [] = []
  plain_fix_of t (g ∷ gs) = replicate (length g) (cond (is_stay s t g) (some (middle g)) none) ++ plain_fix_of t gs

module _ (dist : Metric) (s : Config) where
  pub plain_medians : List (List Fix) → List Point
  plain_medians [] = []
  plain_medians (t ∷ ts) = plain_of s (timed t) (groups dist s t) ++ plain_medians ts

  pub plain_fix_medians : List (List Fix) → List (Option Point)
  plain_fix_medians [] = []
  plain_fix_medians (t ∷ ts) = plain_fix_of s (timed t) (groups dist s t) ++ plain_fix_medians ts

  -- ---- where the step is not above zero
  module _ (off : lt zero64 s.min_spatial_resolution ≡ false) where
    plain : (g : List Fix) → stay_median s g ≡ middle g
    unfolding stay_median
    plain g = grid_off s.min_spatial_resolution (middle g) off

    medians_of_lem : (t : Bool) (gs : List (List Fix)) → medians_of s t gs ≡ plain_of s t gs
    unfolding medians_of plain_of
    medians_of_lem t [] = refl
    medians_of_lem t (g ∷ gs) = ap₂ (λ (p : Point) (l : List Point). cond (is_stay s t g) (p ∷ l) l) (plain g) (medians_of_lem t gs)

    fix_medians_of_lem : (t : Bool) (gs : List (List Fix)) → fix_medians_of s t gs ≡ plain_fix_of s t gs
    unfolding fix_medians_of plain_fix_of
    fix_medians_of_lem t [] = refl
    fix_medians_of_lem t (g ∷ gs) =
        ap₂ (λ (p : Point) (l : List (Option Point)). replicate (length g) (cond (is_stay s t g) (some p) none) ++ l) (plain g) (fix_medians_of_lem t gs)

    pub plain_medians_lem : (ts : List (List Fix)) → all_medians dist s ts ≡ plain_medians ts
    unfolding all_medians stay_medians plain_medians
    plain_medians_lem [] = refl
    plain_medians_lem (t ∷ ts) = ap₂ ◌++◌ (medians_of_lem (timed t) (groups dist s t)) (plain_medians_lem ts)

    pub plain_fix_medians_lem : (ts : List (List Fix)) → all_fix_medians dist s ts ≡ plain_fix_medians ts
    unfolding all_fix_medians fix_medians plain_fix_medians
    plain_fix_medians_lem [] = refl
    plain_fix_medians_lem (t ∷ ts) = ap₂ ◌++◌ (fix_medians_of_lem (timed t) (groups dist s t)) (plain_fix_medians_lem ts)
