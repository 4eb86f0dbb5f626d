-- In every accepted stay lies a fix, so in every place does; and the label of a place is that of any fix that lies in it.
use mathlib.Core.Path.{◌≡◌, refl, sym, subst}
use mathlib.Core.Logic.{◌⊎◌, inl, inr}
use mathlib.Core.Option.{Option, none, some}
use mathlib.Core.Bool.{Bool, true, false, cond}
use mathlib.Core.List.{List, [], ◌∷◌, ◌++◌}
use Prim.Native.Nat.{ℕ, zero, suc, ◌<◌}
use native.Mathlib.Omega.{arith}
use lib.ListN.{length, get_or, replicate, length-append}
use Rattle.distance.specs.declared.Point.{Point}
use Rattle.settings.specs.declared.config.Config.{Config}
use Rattle.trace.specs.Trace.{Fix, timed}
use Rattle.stay.specs.Stays.{is_stay, stay_median, joins, groups_from, groups, medians_of, fix_medians_of, stay_medians, fix_medians, all_medians, all_fix_medians}
use Rattle.stay.proofs.Groups.{groups_join, groups_close, groups_end}
use Rattle.neighbors.specs.Places.{place_of, places}
use Rattle.distance.specs.Distance.{Metric}
use Rattle.lists.proofs.Items.{Among}
use Rattle.neighbors.proofs.Sources.{sources}
use Rattle.stay.proofs.AllMedians.{SomeAt}

-- ---- where in a list

pub record At (l : List (Option Point)) (m : Point) : Type 0 where
  pub fix : ℕ
  pub lies : get_or l fix none ≡ some m

at_some : (l : List (Option Point)) (m : Point) → SomeAt l m → At l m
at_some [] m h = absurd h
at_some (x ∷ xs) m (inl e) = record { fix = 0; lies = e }
at_some (x ∷ xs) m (inr h) = let r = at_some xs m h in record { fix = suc r.fix; lies = r.lies }

some_left : (a b : List (Option Point)) (m : Point) → SomeAt a m → SomeAt (a ++ b) m
some_left [] b m h = absurd h
some_left (x ∷ a) b m (inl e) = inl e
some_left (x ∷ a) b m (inr h) = inr (some_left a b m h)

some_right : (a b : List (Option Point)) (m : Point) → SomeAt b m → SomeAt (a ++ b) m
some_right [] b m h = h
some_right (x ∷ a) b m h = inr (some_right a b m h)

some_first : (n : ℕ) (x : Option Point) (m : Point) → 0 < n → x ≡ some m → SomeAt (replicate n x) m
some_first zero x m h e = absurd (omega arith)
some_first (suc n) x m h e = inl e

among_append : (a b : List Point) (m : Point) → Among (a ++ b) m → Among a m ⊎ Among b m
among_append [] b m h = inr h
among_append (x ∷ a) b m (inl e) = inl (inl e)
among_append (x ∷ a) b m (inr h) = elim (among_append a b m h) [ inl p ↦ inl (inr p) | inr p ↦ inr p ]

-- ---- the groups of a trace

-- Each group has a fix.
abbrev Filled : List (List Fix) → Type 0
Filled [] = Unit {0}
Filled (g ∷ gs) = (0 < length g) × Filled gs

module _ (dist : Metric) (s : Config) where
  filled_from : (t : Bool) (g fs : List Fix) → 0 < length g → Filled (groups_from dist s t g fs)
  filled_from t g [] h = subst Filled (sym (groups_end dist s t g)) (h, tt)
  filled_from t g (f ∷ fs) h = go (joins dist s t g f) refl (filled_from t (g ++ (f ∷ [])) fs (simp length-append (omega arith))) (filled_from t (f ∷ []) fs (omega arith))
    where
      go : (b : Bool) → joins dist s t g f ≡ b → Filled (groups_from dist s t (g ++ (f ∷ [])) fs) → Filled (groups_from dist s t (f ∷ []) fs) → Filled (groups_from dist s t g (f ∷ fs))
      go true e a b = subst Filled (sym (groups_join dist s t g f fs e)) a
      go false e a b = subst Filled (sym (groups_close dist s t g f fs e)) (h, b)

  filled : (fs : List Fix) → Filled (groups dist s fs)
  unfolding groups
  filled [] = tt
  filled (f ∷ fs) = filled_from (timed (f ∷ fs)) (f ∷ []) fs (omega arith)

  in_stay : (t : Bool) (gs : List (List Fix)) (m : Point) → Filled gs → Among (medians_of s t gs) m → SomeAt (fix_medians_of s t gs) m
  unfolding medians_of fix_medians_of
  in_stay t [] m f h = absurd h
  in_stay t (g ∷ gs) m f h = go (is_stay s t g) refl h (in_stay t gs m f.1)
    where
      go : (b : Bool) → is_stay s t g ≡ b → Among (cond b (stay_median s g ∷ medians_of s t gs) (medians_of s t gs)) m → (Among (medians_of s t gs) m → SomeAt (fix_medians_of s t gs) m)
          → SomeAt (replicate (length g) (cond (is_stay s t g) (some (stay_median s g)) none) ++ fix_medians_of s t gs) m
      go true e (inl q) ih = some_left (replicate (length g) (cond (is_stay s t g) (some (stay_median s g)) none)) (fix_medians_of s t gs) m (some_first (length g) _ m f.0 (rw (e, q)))
      go true e (inr k) ih = some_right (replicate (length g) (cond (is_stay s t g) (some (stay_median s g)) none)) (fix_medians_of s t gs) m (ih k)
      go false e k ih = some_right (replicate (length g) (cond (is_stay s t g) (some (stay_median s g)) none)) (fix_medians_of s t gs) m (ih k)

  in_trace : (t : List Fix) (m : Point) → Among (stay_medians dist s t) m → SomeAt (fix_medians dist s t) m
  unfolding stay_medians fix_medians
  in_trace t m h = in_stay (timed t) (groups dist s t) m (filled t) h

  in_traces : (ts : List (List Fix)) (m : Point) → Among (all_medians dist s ts) m → SomeAt (all_fix_medians dist s ts) m
  unfolding all_medians all_fix_medians
  in_traces [] m h = absurd h
  in_traces (t ∷ ts) m h = go (among_append (stay_medians dist s t) (all_medians dist s ts) m h) (in_traces ts m)
    where
      go : Among (stay_medians dist s t) m ⊎ Among (all_medians dist s ts) m → (Among (all_medians dist s ts) m → SomeAt (all_fix_medians dist s ts) m) → SomeAt (fix_medians dist s t ++ all_fix_medians dist s ts) m
      go (inl p) ih = some_left (fix_medians dist s t) (all_fix_medians dist s ts) m (in_trace t m p)
      go (inr p) ih = some_right (fix_medians dist s t) (all_fix_medians dist s ts) m (ih p)

  -- ---- places

  -- Fix k lies in a stay whose median's place is i.
  pub record Inside (ts : List (List Fix)) (i : ℕ) : Type 0 where
    pub fix : ℕ
    pub median : Point
    pub lies : get_or (all_fix_medians dist s ts) fix none ≡ some median
    pub place : place_of (places (all_medians dist s ts)) median ≡ i

  -- In every place lies a fix.
  pub some_inside : (ts : List (List Fix)) (i : ℕ) → i < length (places (all_medians dist s ts)) → Inside ts i
  some_inside ts i h =
      let o = sources (all_medians dist s ts) i h in
      let a = at_some (all_fix_medians dist s ts) o.median (in_traces ts o.median o.among) in
      record { fix = a.fix; median = o.median; lies = a.lies; place = o.place }
