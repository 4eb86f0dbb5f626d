-- Which part of the model's arrays are its places (docs/RULES.md, "Model"). Definitions only.
use Rattle.std.specs.Prelude.{ℕ, min, List, ℤ, take, Float}
use Rattle.infostop.specs.declared.model.Infostop.{Infostop}

-- The model's places stand in front of its arrays of 512, so a count above that means 512. A fit gives no such count; a model made by hand can have it.
abbrev pub place_count : Infostop → ℕ
place_count m = min m.count 512

abbrev pub model_xs : Infostop → List Float
model_xs m = take (place_count m) m.xs

abbrev pub model_ys : Infostop → List Float
model_ys m = take (place_count m) m.ys

abbrev pub model_labels : Infostop → List ℤ
model_labels m = take (place_count m) m.labels
