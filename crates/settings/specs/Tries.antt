-- The settings of docs/RULES.md, "Tracks to try", which facts and examples of several crates take. Definitions only.
use Rattle.std.specs.Prelude.{true, ℕ, Float}
use Rattle.float.specs.Binary64.{whole64, zero64}
use Rattle.settings.specs.declared.config.Config.{Config}

-- 10 10 1 with stay, gap and size, 42, and a step of the grid.
abbrev pub settings_with : ℕ → ℕ → ℕ → Float → Config
settings_with stay gap size step =
    record {
      r1 = whole64 10;
      r2 = whole64 10;
      label_singleton = true;
      min_staying_time = whole64 stay;
      max_time_between = whole64 gap;
      min_size = size;
      min_spatial_resolution = step;
      seed = 42;
    }

-- 10 10 1 300 86400 2 42, and a step of the grid.
abbrev pub with_step : Float → Config
with_step = settings_with 300 86400 2

-- The same with the grid off.
abbrev pub settings : Config
settings = with_step zero64
