-- The stay numbers line up with the groups: each fix has one, it is -1 exactly where the fix lies in no accepted stay, and else it is the
-- place of its stay's median.
use mathlib.Core.Path.{◌≡◌, refl, sym, ap, ap₂, ◌∙◌, subst}
use mathlib.Core.Logic.{◌⊎◌, inl, inr}
use mathlib.Core.Bool.{Bool, true, false, cond}
use mathlib.Core.List.{List, [], ◌∷◌, ◌++◌, map}
use mathlib.Core.Option.{Option, none, some}
use Prim.Native.Nat.{ℕ, zero, suc, ◌+◌, ◌<◌}
use native.Mathlib.Omega.{arith}
use native.Mathlib.Nat.{add-zero}
use lib.IntN.{ℤ, pos, negsuc}
use lib.ListN.{length, get_or, drop, replicate, length-append, length-replicate}
use lib.Seq.{get_or-drop, drop-drop}
use lib.Ieee.{Float}
use Rattle.lists.proofs.Maps.{map_append}
use Rattle.lists.specs.Lists.{minus_one}
use Rattle.distance.specs.declared.Point.{Point}
use Rattle.distance.specs.Steps.{no_point}
use Rattle.settings.specs.declared.config.Config.{Config}
use Rattle.trace.specs.Trace.{Fix, timed}
use Rattle.stay.specs.Stays.{stay_median, is_stay, groups, medians_of, fix_medians_of, stay_medians, fix_medians}
use Rattle.stay.specs.StepsEvents.{event_number, events_from, event_map}
use Rattle.stay.proofs.Groups.{concat, concat_groups}

-- the median at a stay number, none at -1
abbrev pub median_at : List Point → ℤ → Option Point
median_at ps (pos n) = some (get_or ps n no_point)
median_at ps (negsuc n) = none

-- ---- lists

map_replicate : {A B : Type 0} (f : A → B) (n : ℕ) (x : A) → map f (replicate n x) ≡ replicate n (f x)
map_replicate f zero x = refl
map_replicate {A} {B} f (suc n) x = ap (λ (t : List B). f x ∷ t) (map_replicate f n x)

-- e is -1 or a number below m
abbrev pub Number : ℕ → ℤ → Type 0
Number m e = (e ≡ minus_one) ⊎ ((n : ℕ) × (e ≡ pos n) × (n < m))

in_run : (c : ℕ) (v : ℤ) (r : List ℤ) (m i : ℕ) → Number m v → ((j : ℕ) → Number m (get_or r j minus_one)) → Number m (get_or (replicate c v ++ r) i minus_one)
in_run zero v r m i a b = b i
in_run (suc c) v r m zero a b = a
in_run (suc c) v r m (suc i) a b = in_run c v r m i a b

-- a list that goes on with x
at_first : {A : Type 0} (k : ℕ) (l r : List A) (x d : A) → drop k l ≡ x ∷ r → get_or l k d ≡ x
at_first {A} k l r x d e = ap (λ (n : ℕ). get_or l n d) (sym (add-zero k)) ∙ sym (get_or-drop k l 0 d) ∙ ap (λ (z : List A). get_or z 0 d) e

after_first : {A : Type 0} (k : ℕ) (l r : List A) (x : A) → drop k l ≡ x ∷ r → drop (suc k) l ≡ r
after_first {A} k l r x e =
    let one : suc k ≡ k + 1 = omega arith in
    ap (λ (n : ℕ). drop n l) one ∙ sym (drop-drop 1 k l) ∙ ap (drop 1) e

module _ (dist : Point → Point → Float) (s : Config) where
  module _ (t : Bool) where
    -- ---- one number a fix

    events_length : (k : ℕ) (gs : List (List Fix)) → length (events_from s t k gs) ≡ length (concat gs)
    unfolding events_from
    events_length k [] = refl
    events_length k (g ∷ gs) = simp (length-append, length-replicate) (ap (λ (n : ℕ). length g + n) (events_length (cond (is_stay s t g) (suc k) k) gs))

    lies_length : (gs : List (List Fix)) → length (fix_medians_of s t gs) ≡ length (concat gs)
    unfolding fix_medians_of
    lies_length [] = refl
    lies_length (g ∷ gs) = simp (length-append, length-replicate) (ap (λ (n : ℕ). length g + n) (lies_length gs))

    -- ---- a number is that of the median the fix lies at; `all` has the medians from place k on

    events_lie : (k : ℕ) (gs : List (List Fix)) (all rest : List Point) → drop k all ≡ medians_of s t gs ++ rest → map (median_at all) (events_from s t k gs) ≡ fix_medians_of s t gs
    unfolding events_from fix_medians_of medians_of event_number
    events_lie k [] all rest e = refl
    events_lie k (g ∷ gs) all rest e =
        map_append (median_at all) (replicate (length g) (event_number (is_stay s t g) k)) (events_from s t (cond (is_stay s t g) (suc k) k) gs)
        ∙ ap (λ (l : List (Option Point)). l ++ map (median_at all) (events_from s t (cond (is_stay s t g) (suc k) k) gs)) (map_replicate (median_at all) (length g) (event_number (is_stay s t g) k))
        ∙ go (is_stay s t g) e (events_lie (suc k) gs all rest) (events_lie k gs all rest)
      where
        go : (b : Bool) → drop k all ≡ cond b (stay_median s g ∷ medians_of s t gs) (medians_of s t gs) ++ rest
            → (drop (suc k) all ≡ medians_of s t gs ++ rest → map (median_at all) (events_from s t (suc k) gs) ≡ fix_medians_of s t gs)
            → (drop k all ≡ medians_of s t gs ++ rest → map (median_at all) (events_from s t k gs) ≡ fix_medians_of s t gs)
            → replicate (length g) (median_at all (event_number b k)) ++ map (median_at all) (events_from s t (cond b (suc k) k) gs)
            ≡ replicate (length g) (cond b (some (stay_median s g)) none) ++ fix_medians_of s t gs
        go true h a b =
            ap₂ (λ (p : Point) (l : List (Option Point)). replicate (length g) (some p) ++ l) (at_first k all (medians_of s t gs ++ rest) (stay_median s g) no_point h)
            (a (after_first k all (medians_of s t gs ++ rest) (stay_median s g) h))
        go false h a b = ap (λ (l : List (Option Point)). replicate (length g) none ++ l) (b h)

    -- ---- a number is -1 or that of a median

    event_is : (k : ℕ) (gs : List (List Fix)) (i : ℕ) → Number (k + length (medians_of s t gs)) (get_or (events_from s t k gs) i minus_one)
    unfolding events_from medians_of event_number
    event_is k [] i = inl refl
    event_is k (g ∷ gs) i = go (is_stay s t g) (event_is (suc k) gs) (event_is k gs)
      where
        more : suc k + length (medians_of s t gs) ≡ k + suc (length (medians_of s t gs))
        more = omega arith

        go : (b : Bool) → ((j : ℕ) → Number (suc k + length (medians_of s t gs)) (get_or (events_from s t (suc k) gs) j minus_one))
            → ((j : ℕ) → Number (k + length (medians_of s t gs)) (get_or (events_from s t k gs) j minus_one))
            → Number (k + length (cond b (stay_median s g ∷ medians_of s t gs) (medians_of s t gs)))
            (get_or (replicate (length g) (event_number b k) ++ events_from s t (cond b (suc k) k) gs) i minus_one)
        go true a b =
            in_run (length g) (pos k) (events_from s t (suc k) gs) (k + suc (length (medians_of s t gs))) i (inr (k, refl, omega arith))
            (λ j. subst (λ (m : ℕ). Number m (get_or (events_from s t (suc k) gs) j minus_one)) more (a j))
        go false a b = in_run (length g) minus_one (events_from s t k gs) (k + length (medians_of s t gs)) i (inl refl) b

  -- ---- a trace

  pub event_map_length : (k : ℕ) (fs : List Fix) → length (event_map dist s k fs) ≡ length fs
  unfolding event_map
  event_map_length k fs = events_length (timed fs) k (groups dist s fs) ∙ ap length (concat_groups dist s fs)

  pub lies_one_each : (fs : List Fix) → length (fix_medians dist s fs) ≡ length fs
  unfolding fix_medians
  lies_one_each fs = lies_length (timed fs) (groups dist s fs) ∙ ap length (concat_groups dist s fs)

  pub event_map_lies : (k : ℕ) (fs : List Fix) (all rest : List Point) → drop k all ≡ stay_medians dist s fs ++ rest → map (median_at all) (event_map dist s k fs) ≡ fix_medians dist s fs
  unfolding event_map stay_medians fix_medians
  event_map_lies k fs all rest e = events_lie (timed fs) k (groups dist s fs) all rest e

  pub event_map_number : (k : ℕ) (fs : List Fix) (i : ℕ) → Number (k + length (stay_medians dist s fs)) (get_or (event_map dist s k fs) i minus_one)
  unfolding event_map stay_medians
  event_map_number k fs i = event_is (timed fs) k (groups dist s fs) i
