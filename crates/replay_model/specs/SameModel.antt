-- Whether two models agree, floats bit for bit. Definitions only.
use Rattle.std.specs.Prelude.{Bool, not, ◌&&◌, cond, List, eqb, ℤ, Float}
use Rattle.std.specs.Ordering.{int_eq}
use Rattle.std.specs.Cmp.Lexicographic.{pointwise}
use Rattle.float.specs.Binary64.{same_bits}
use Rattle.settings.specs.declared.config.Config.{Config}
use Rattle.infostop.specs.declared.model.Infostop.{Infostop}

-- Two flags.
abbrev pub same_flag : Bool → Bool → Bool
same_flag a b = cond a b (not b)

-- Two lists of one length, item by item.
abbrev pub same_floats : List Float → List Float → Bool
same_floats = pointwise same_bits

abbrev pub same_words : List ℤ → List ℤ → Bool
same_words = pointwise int_eq

-- Settings: radii and times, resolution, whether singles are labelled, size and seed.
unfoldable pub same_config : Config → Config → Bool
same_config a b =
    ((same_bits a.r1 b.r1 && same_bits a.r2 b.r2)
    && (same_bits a.min_staying_time b.min_staying_time && same_bits a.max_time_between b.max_time_between))
    && ((same_bits a.min_spatial_resolution b.min_spatial_resolution && same_flag a.label_singleton b.label_singleton)
    && (eqb a.min_size b.min_size && eqb a.seed b.seed))

unfoldable pub same_model : Infostop → Infostop → Bool
unfolding same_config
same_model a b =
    (same_config a.config b.config && (same_flag a.fitted b.fitted && eqb a.count b.count))
    && ((same_floats a.xs b.xs && same_floats a.ys b.ys) && same_words a.labels b.labels)
