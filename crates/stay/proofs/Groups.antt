-- The groups of a trace: they are the trace, cut; and how they go on with the next fix.
use mathlib.Core.Path.{◌≡◌, refl, sym, ap, ◌∙◌, subst}
use mathlib.Core.Bool.{Bool, true, false, cond}
use mathlib.Core.Option.{Option, none}
use mathlib.Core.List.{List, [], ◌∷◌, ◌++◌, map, append_assoc}
use Prim.Native.Nat.{ℕ, suc, ◌-◌, ◌<◌, ◌≤◌}
use native.Mathlib.Nat.{le_trans}
use native.Mathlib.Omega.{arith}
use lib.ListN.{length, get_or, length-append, length-map}
use lib.Seq.{get_or_at}
use lib.Ieee.{Float}
use Rattle.lists.proofs.Maps.{map_append}
use Rattle.distance.specs.declared.Point.{Point}
use Rattle.settings.specs.declared.config.Config.{Config}
use Rattle.trace.specs.Trace.{Fix, timed}
use Rattle.stay.specs.Stays.{stay_median, joins, groups_from, groups, is_stay, medians_of, stay_medians, first_time, last_time}

-- the groups' fixes, one after the other
abbrev pub concat : List (List Fix) → List Fix
concat [] = []
concat (g ∷ gs) = g ++ concat gs

module _ (dist : Point → Point → Float) (s : Config) where
  pub groups_join : (t : Bool) (g : List Fix) (f : Fix) (fs : List Fix) → joins dist s t g f ≡ true → groups_from dist s t g (f ∷ fs) ≡ groups_from dist s t (g ++ (f ∷ [])) fs
  unfolding groups_from
  groups_join t g f fs h = rw (h, groups_from)

  pub groups_close : (t : Bool) (g : List Fix) (f : Fix) (fs : List Fix) → joins dist s t g f ≡ false → groups_from dist s t g (f ∷ fs) ≡ g ∷ groups_from dist s t (f ∷ []) fs
  unfolding groups_from
  groups_close t g f fs h = rw (h, groups_from)

  pub groups_end : (t : Bool) (g : List Fix) → groups_from dist s t g [] ≡ g ∷ []
  unfolding groups_from
  groups_end t g = refl

  -- each fix lies in exactly one group: the groups, one after the other, are the trace
  concat_from : (t : Bool) (g fs : List Fix) → concat (groups_from dist s t g fs) ≡ g ++ fs
  concat_from t g [] = ap concat (groups_end t g)
  concat_from t g (f ∷ fs) = go (joins dist s t g f) refl (concat_from t (g ++ (f ∷ [])) fs) (concat_from t (f ∷ []) fs)
    where
      go : (b : Bool) → joins dist s t g f ≡ b → concat (groups_from dist s t (g ++ (f ∷ [])) fs) ≡ (g ++ (f ∷ [])) ++ fs
          → concat (groups_from dist s t (f ∷ []) fs) ≡ f ∷ fs → concat (groups_from dist s t g (f ∷ fs)) ≡ g ++ (f ∷ fs)
      go true h a b = ap concat (groups_join t g f fs h) ∙ a ∙ append_assoc g (f ∷ []) fs
      go false h a b = ap concat (groups_close t g f fs h) ∙ ap (λ (l : List Fix). g ++ l) b

  pub concat_groups : (fs : List Fix) → concat (groups dist s fs) ≡ fs
  unfolding groups
  concat_groups [] = refl
  concat_groups (f ∷ fs) = concat_from (timed (f ∷ fs)) (f ∷ []) fs

  -- each group has a fix, so there are no more groups than fixes
  groups_few_from : (t : Bool) (g fs : List Fix) → 0 < length g → length (groups_from dist s t g fs) ≤ length (concat (groups_from dist s t g fs))
  groups_few_from t g [] h =
      subst (λ (gs : List (List Fix)). length gs ≤ length (concat gs)) (sym (groups_end t g)) (simp length-append (omega arith))
  groups_few_from t g (f ∷ fs) h =
      go (joins dist s t g f) refl (groups_few_from t (g ++ (f ∷ [])) fs (simp length-append (omega arith))) (groups_few_from t (f ∷ []) fs (omega arith))
    where
      Few : List (List Fix) → Type 0
      Few gs = length gs ≤ length (concat gs)

      go : (b : Bool) → joins dist s t g f ≡ b → Few (groups_from dist s t (g ++ (f ∷ [])) fs) → Few (groups_from dist s t (f ∷ []) fs) → Few (groups_from dist s t g (f ∷ fs))
      go true e a b = subst Few (sym (groups_join t g f fs e)) a
      go false e a b = subst Few (sym (groups_close t g f fs e)) (simp length-append (omega arith))

  groups_few_concat : (fs : List Fix) → length (groups dist s fs) ≤ length (concat (groups dist s fs))
  unfolding groups
  groups_few_concat [] = omega arith
  groups_few_concat (f ∷ fs) = groups_few_from (timed (f ∷ fs)) (f ∷ []) fs (omega arith)

  medians_of_lem : (t : Bool) (gs : List (List Fix)) → length (medians_of s t gs) ≤ length gs
  unfolding medians_of
  medians_of_lem t [] = omega arith
  medians_of_lem t (g ∷ gs) = go (is_stay s t g) (medians_of_lem t gs)
    where
      go : (b : Bool) → length (medians_of s t gs) ≤ length gs → length (cond b (stay_median s g ∷ medians_of s t gs) (medians_of s t gs)) ≤ suc (length gs)
      go true h = omega arith
      go false h = omega arith

  pub groups_few : (fs : List Fix) → length (groups dist s fs) ≤ length fs
  groups_few fs = subst (λ (n : ℕ). length (groups dist s fs) ≤ n) (ap length (concat_groups fs)) (groups_few_concat fs)

  pub medians_few : (fs : List Fix) → length (stay_medians dist s fs) ≤ length fs
  unfolding stay_medians
  medians_few fs = le_trans (medians_of_lem (timed fs) (groups dist s fs)) (groups_few fs)

-- ---- the first and the last time of a group

pub map_x : (g : List Fix) (f : Fix) → map (λ (h : Fix). h.at.x) (g ++ (f ∷ [])) ≡ map (λ (h : Fix). h.at.x) g ++ (f.at.x ∷ [])
map_x g f = map_append (λ (h : Fix). h.at.x) g (f ∷ [])

pub map_y : (g : List Fix) (f : Fix) → map (λ (h : Fix). h.at.y) (g ++ (f ∷ [])) ≡ map (λ (h : Fix). h.at.y) g ++ (f.at.y ∷ [])
map_y g f = map_append (λ (h : Fix). h.at.y) g (f ∷ [])

pub first_more : (g : List Fix) (f : Fix) → 0 < length g → first_time (g ++ (f ∷ [])) ≡ first_time g
unfolding first_time
first_more [] f h = absurd (omega arith)
first_more (e ∷ g) f h = refl

pub last_more : (g : List Fix) (f : Fix) → last_time (g ++ (f ∷ [])) ≡ f.time
unfolding last_time
last_more g f =
    let times : List Fix → List (Option Float) = map (λ (h : Fix). h.time) in
    let n : length (g ++ (f ∷ [])) - 1 ≡ length g = simp length-append (omega arith) in
    ap (λ (k : ℕ). get_or (times (g ++ (f ∷ []))) k none) n
    ∙ ap (λ (l : List (Option Float)). get_or l (length g) none) (map_append (λ (h : Fix). h.time) g (f ∷ []))
    ∙ get_or_at (times g) f.time [] none (length g) (length-map g (λ (h : Fix). h.time))
