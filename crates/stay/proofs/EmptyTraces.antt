-- An empty trace has no stay: the stays of a list of traces are those of the list without its empty ones.
use mathlib.Core.Path.{◌≡◌, refl, sym, ap, ◌∙◌}
use mathlib.Core.Bool.{Bool, true, false}
use mathlib.Core.List.{List, [], ◌∷◌, ◌++◌}
use Prim.Native.Nat.{ℕ}
use borrow.Author.Tests.{eqb-true, eqb-false}
use lib.Dec.{eqb}
use lib.ListN.{take, drop}
use Rattle.distance.specs.Distance.{Metric}
use Rattle.settings.specs.declared.config.Config.{Config}
use Rattle.trace.specs.Trace.{Fix, total, traces}
use Rattle.trace.specs.WithoutEmpty.{without_empty}
use Rattle.trace.proofs.WithoutEmpty.{out_empty, out_other, out_all}
use Rattle.stay.specs.Stays.{groups, medians_of, fix_medians_of, stay_medians, fix_medians, all_medians, all_fix_medians}

-- What is taken of each trace and put together, nothing of an empty one, is the same without the empty traces.
module _ {A : Type 0} (one : List Fix → List A) (all : List (List Fix) → List A) (nothing : one [] ≡ [])
    (more : (t : List Fix) (ts : List (List Fix)) → all (t ∷ ts) ≡ one t ++ all ts) where
  Same : List ℕ → List Fix → Type 0
  Same lens fs = all (traces (without_empty lens) fs) ≡ all (traces lens fs)

  without : (lens : List ℕ) (fs : List Fix) → Same lens fs
  unfolding traces Same
  without [] fs = unfold without_empty in refl
  without (n ∷ ns) fs = go (eqb n 0) refl (without ns)
    where
      go : (b : Bool) → eqb n 0 ≡ b → ((gs : List Fix) → Same ns gs) → Same (n ∷ ns) fs
      go true e r =
          let z : n ≡ 0 = eqb-true n 0 e in
          ap (λ (l : List ℕ). all (traces l fs)) (out_empty n ns z) ∙ r fs
          ∙ sym (more (take n fs) (traces ns (drop n fs)) ∙ rw (z, nothing))
      go false e r =
          ap (λ (l : List ℕ). all (traces l fs)) (out_other n ns (eqb-false n 0 e))
          ∙ more (take n fs) (traces (without_empty ns) (drop n fs))
          ∙ ap (λ (l : List A). one (take n fs) ++ l) (r (drop n fs))
          ∙ sym (more (take n fs) (traces ns (drop n fs)))

module _ (dist : Metric) (c : Config) where
  pub no_median : stay_medians dist c [] ≡ []
  unfolding stay_medians groups medians_of
  no_median = refl

  no_fix_median : fix_medians dist c [] ≡ []
  unfolding fix_medians groups fix_medians_of
  no_fix_median = refl

  pub same_medians : (lens : List ℕ) (fs : List Fix) → all_medians dist c (traces (without_empty lens) fs) ≡ all_medians dist c (traces lens fs)
  unfolding all_medians Same
  same_medians = without (stay_medians dist c) (all_medians dist c) no_median (λ t ts. refl)

  pub same_fix_medians : (lens : List ℕ) (fs : List Fix) → all_fix_medians dist c (traces (without_empty lens) fs) ≡ all_fix_medians dist c (traces lens fs)
  unfolding all_fix_medians Same
  same_fix_medians = without (fix_medians dist c) (all_fix_medians dist c) no_fix_median (λ t ts. refl)

  -- Of empty traces alone there is none.
  pub all_empty : (lens : List ℕ) (fs : List Fix) → total lens ≡ 0 → all_medians dist c (traces lens fs) ≡ []
  all_empty lens fs e = sym (same_medians lens fs) ∙ ap (λ (l : List ℕ). all_medians dist c (traces l fs)) (out_all lens e) ∙ (unfold traces all_medians in refl)
