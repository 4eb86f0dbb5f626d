-- The model (docs/RULES.md, "Model": places and their labels in arrays of 512 and a fitted flag, beside its settings). Definitions only.
use Rattle.std.specs.Prelude.{true, false, negsuc, length, replicate}
use Rattle.lists.specs.Lists.{overlay}
use Rattle.float.specs.Binary64.{zero64}
use Rattle.neighbors.specs.Places.{place_xs, place_ys}
use Rattle.settings.specs.declared.config.Config.{Config}
use Rattle.settings.specs.Settings.{check_config}
use Rattle.infostop.specs.Fit.{Fitted, Outcome, refused, fitted}
use Rattle.infostop.specs.declared.model.Infostop.{Infostop}
use Rattle.infostop.specs.declared.model.Made.{Made}

-- A model that no fit has altered.
abbrev pub fresh_model : Config → Infostop
fresh_model c = record { config = c; xs = replicate 512 zero64; ys = replicate 512 zero64; labels = replicate 512 (negsuc 0); count = 0; fitted = false }

-- `Infostop::from_config`: 1 to 6, 23, 24. The model of refused settings is not fitted, and a fit refuses it with the same number.
unfoldable pub from_config : Config → Made
from_config c = record { checked = check_config c; model = fresh_model c }

-- The model after a fit without a refusal: the places and their labels stand in front of the arrays.
abbrev pub fitted_model : Config → Fitted → Infostop
fitted_model c f =
    record {
      config = c;
      xs = overlay (place_xs f.places) (replicate 512 zero64);
      ys = overlay (place_ys f.places) (replicate 512 zero64);
      labels = overlay f.place_labels (replicate 512 (negsuc 0));
      count = length f.places;
      fitted = true;
    }

-- Only a fit without a refusal alters the model.
abbrev pub model_after : Infostop → Outcome → Infostop
model_after m (refused e) = m
model_after m (fitted f) = fitted_model m.config f
