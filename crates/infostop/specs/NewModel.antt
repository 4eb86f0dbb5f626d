-- A new model's contents, computed from the definition, for any settings.
use Rattle.std.specs.Prelude.{◌≡◌, refl, false, ℕ, ◌<◌, pos, negsuc, length, get_or}
use Rattle.std.proofs.lemmas.List.{length-replicate, get_or-replicate}
use Rattle.std.specs.Float.{nan}
use Rattle.float.specs.Binary64.{zero64}
use Rattle.settings.specs.declared.config.Config.{Config}
use Rattle.infostop.specs.declared.model.Infostop.{Infostop}
use Rattle.infostop.specs.Models.{from_config}

-- Not fitted, without places; each of the 512 labels is -1 and each coordinate is 0.0.
pub record NewModel (c : Config) (m : Infostop) : Type 0 where
  pub settings : m.config ≡ c
  pub not_fitted : m.fitted ≡ false
  pub no_places : m.count ≡ 0
  pub first_label : get_or m.labels 0 (pos 0) ≡ negsuc 0
  pub last_label : get_or m.labels 511 (pos 0) ≡ negsuc 0
  pub labels_long : length m.labels ≡ 512
  pub all_labels : (i : ℕ) → i < 512 → get_or m.labels i (pos 0) ≡ negsuc 0
  pub xs_long : length m.xs ≡ 512
  pub all_xs : (i : ℕ) → i < 512 → get_or m.xs i nan ≡ zero64
  pub ys_long : length m.ys ≡ 512
  pub all_ys : (i : ℕ) → i < 512 → get_or m.ys i nan ≡ zero64

pub new_model : (c : Config) → NewModel c (from_config c).model
unfolding from_config
new_model c = record {
  settings = refl;
  not_fitted = refl;
  no_places = refl;
  first_label = refl;
  last_label = refl;
  labels_long = length-replicate 512 (negsuc 0);
  all_labels = λ i h. get_or-replicate 512 i (negsuc 0) (pos 0) h;
  xs_long = length-replicate 512 zero64;
  all_xs = λ i h. get_or-replicate 512 i zero64 nan h;
  ys_long = length-replicate 512 zero64;
  all_ys = λ i h. get_or-replicate 512 i zero64 nan h;
}
