-- A fit leaves the settings of a model; and two columns of one length agree where all pairs do.
use Rattle.std.proofs.Common.{◌≡◌, Bool, true, false, ◌&&◌, List, [], ◌∷◌, ℤ, length, refl, ap, ◌∙◌, arith}
use Rattle.std.specs.List.{zip, list_all}
use Rattle.std.specs.Float.Ieee.{Float}
use Rattle.float.specs.Binary64.{same_bits}
use lib.Pointwise.{pointwise_long}
use Rattle.infostop.specs.Fit.{Outcome, refused, fitted}
use Rattle.infostop.specs.declared.model.Infostop.{Infostop}
use Rattle.infostop.specs.declared.answer.Fit.{Fit}
use Rattle.infostop.specs.Models.{model_after}
use Rattle.infostop.specs.Ends.{Ended}
use Rattle.replay_model.specs.SameModel.{same_floats}

same_settings : (m : Infostop) (o : Outcome) → (model_after m o).config ≡ m.config
same_settings m (refused e) = refl
same_settings m (fitted f) = refl

pub settings_kept : {m : Infostop} {old : List ℤ} {o : Outcome} {r : Fit} {labels : List ℤ} → Ended m old o r labels → r.model.config ≡ m.config
settings_kept {m} {o = o} e = ap (λ (n : Infostop). n.config) e.model ∙ same_settings m o

pub columns_are : (a b : List Float) → length a ≡ length b → same_floats a b ≡ list_all (λ p. same_bits p.0 p.1) (zip a b)
columns_are [] [] e = refl
columns_are [] (y ∷ b) e = cc
columns_are (x ∷ a) [] e = cc
columns_are (x ∷ a) (y ∷ b) e = ap (λ (r : Bool). same_bits x y && r) (columns_are a b (omega arith))

pub columns_differ : (a b : List Float) → (length a ≡ length b → ⊥) → same_floats a b ≡ false
columns_differ a b h =
    elim (same_floats a b) as (λ r. (r ≡ true → ⊥) → r ≡ false) [ true ↦ λ k. absurd (k refl) | false ↦ λ k. refl ] (λ e. h (pointwise_long same_bits a b e))
