-- Where the fixes of all traces lie, and how many medians there are.
use mathlib.Core.Path.{◌≡◌, refl, sym}
use mathlib.Core.Logic.{◌⊎◌, inl, inr}
use mathlib.Core.Option.{Option, none, some}
use mathlib.Core.Bool.{Bool, true, false, cond}
use mathlib.Core.List.{List, [], ◌∷◌, ◌++◌}
use Prim.Native.Nat.{ℕ, zero, suc, ◌≤◌}
use native.Mathlib.Omega.{arith}
use lib.ListN.{length, get_or, replicate, length-append}
use Rattle.distance.specs.declared.Point.{Point}
use Rattle.settings.specs.declared.config.Config.{Config}
use Rattle.trace.specs.Trace.{Fix, timed, fix_count}
use Rattle.stay.specs.Stays.{is_stay, stay_median, groups, medians_of, fix_medians_of, stay_medians, fix_medians, all_medians, all_fix_medians}
use Rattle.stay.proofs.Groups.{medians_few}
use Rattle.stay.proofs.Lies.{lies_one_each}
use Rattle.distance.specs.Distance.{Metric}
use Rattle.lists.proofs.Items.{Among, among_left, among_right}

-- Some fix lies in a stay with the median m.
abbrev pub SomeAt : List (Option Point) → Point → Type 0
SomeAt [] m = ⊥
SomeAt (x ∷ xs) m = (x ≡ some m) ⊎ SomeAt xs m

some_at : (l : List (Option Point)) (k : ℕ) (m : Point) → get_or l k none ≡ some m → SomeAt l m
some_at [] k m e = absurd (let z : ◌≡◌ {A = ℕ} 0 1 = cc in omega arith)
some_at (x ∷ xs) zero m e = inl e
some_at (x ∷ xs) (suc k) m e = inr (some_at xs k m e)

some_append : (a b : List (Option Point)) (m : Point) → SomeAt (a ++ b) m → SomeAt a m ⊎ SomeAt b m
some_append [] b m h = inr h
some_append (x ∷ a) b m (inl e) = inl (inl e)
some_append (x ∷ a) b m (inr h) = go (some_append a b m h)
  where
    go : SomeAt a m ⊎ SomeAt b m → SomeAt (x ∷ a) m ⊎ SomeAt b m
    go (inl p) = inl (inr p)
    go (inr p) = inr p

some_replicate : (n : ℕ) (x : Option Point) (m : Point) → SomeAt (replicate n x) m → x ≡ some m
some_replicate zero x m h = absurd h
some_replicate (suc n) x m (inl e) = e
some_replicate (suc n) x m (inr h) = some_replicate n x m h

some_injective : (a b : Point) → some a ≡ some b → a ≡ b
some_injective a b e = cc

module _ (dist : Metric) (s : Config) where
  in_groups : (t : Bool) (gs : List (List Fix)) (m : Point) → SomeAt (fix_medians_of s t gs) m → Among (medians_of s t gs) m
  unfolding fix_medians_of medians_of
  in_groups t [] m h = absurd h
  in_groups t (g ∷ gs) m h =
      go (some_append (replicate (length g) (cond (is_stay s t g) (some (stay_median s g)) none)) (fix_medians_of s t gs) m h) (is_stay s t g)
      (some_replicate (length g) (cond (is_stay s t g) (some (stay_median s g)) none) m) (in_groups t gs m)
    where
      go : SomeAt (replicate (length g) (cond (is_stay s t g) (some (stay_median s g)) none)) m ⊎ SomeAt (fix_medians_of s t gs) m → (b : Bool)
          → (SomeAt (replicate (length g) (cond (is_stay s t g) (some (stay_median s g)) none)) m → cond b (some (stay_median s g)) none ≡ some m) → (SomeAt (fix_medians_of s t gs) m → Among (medians_of s t gs) m)
          → Among (cond b (stay_median s g ∷ medians_of s t gs) (medians_of s t gs)) m
      go (inl p) true f ih = inl (sym (some_injective (stay_median s g) m (f p)))
      go (inl p) false f ih = absurd (let e = f p in let z : ◌≡◌ {A = ℕ} 0 1 = cc in omega arith)
      go (inr p) true f ih = inr (ih p)
      go (inr p) false f ih = ih p

  in_trace : (t : List Fix) (m : Point) → SomeAt (fix_medians dist s t) m → Among (stay_medians dist s t) m
  unfolding fix_medians stay_medians
  in_trace t m h = in_groups (timed t) (groups dist s t) m h

  in_traces : (ts : List (List Fix)) (m : Point) → SomeAt (all_fix_medians dist s ts) m → Among (all_medians dist s ts) m
  unfolding all_fix_medians all_medians
  in_traces [] m h = absurd h
  in_traces (t ∷ ts) m h = go (some_append (fix_medians dist s t) (all_fix_medians dist s ts) m h) (in_traces ts m)
    where
      go : SomeAt (fix_medians dist s t) m ⊎ SomeAt (all_fix_medians dist s ts) m → (SomeAt (all_fix_medians dist s ts) m → Among (all_medians dist s ts) m) → Among (stay_medians dist s t ++ all_medians dist s ts) m
      go (inl p) ih = among_left (stay_medians dist s t) (all_medians dist s ts) m (in_trace t m p)
      go (inr p) ih = among_right (stay_medians dist s t) (all_medians dist s ts) m (ih p)

  -- Where a fix lies is one of the medians.
  pub lies_among : (ts : List (List Fix)) (k : ℕ) (m : Point) → get_or (all_fix_medians dist s ts) k none ≡ some m → Among (all_medians dist s ts) m
  lies_among ts k m e = in_traces ts m (some_at (all_fix_medians dist s ts) k m e)

  -- No more medians than fixes.
  pub all_medians_few : (ts : List (List Fix)) → length (all_medians dist s ts) ≤ fix_count ts
  unfolding all_medians fix_count
  all_medians_few [] = omega arith
  all_medians_few (t ∷ ts) =
      let a = length-append (stay_medians dist s t) (all_medians dist s ts) in
      let b = medians_few dist s t in
      let c = all_medians_few ts in
      omega arith

  -- Each fix lies somewhere or nowhere.
  pub all_lies_length : (ts : List (List Fix)) → length (all_fix_medians dist s ts) ≡ fix_count ts
  unfolding all_fix_medians fix_count
  all_lies_length [] = refl
  all_lies_length (t ∷ ts) =
      let a = length-append (fix_medians dist s t) (all_fix_medians dist s ts) in
      let b = lies_one_each dist s t in
      let c = all_lies_length ts in
      omega arith
