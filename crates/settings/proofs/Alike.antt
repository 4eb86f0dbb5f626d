-- Two checks that answer alike: both accept, or both refuse, with refusals that a relation joins. The walk through checks in their order, and through the
-- check of the settings, is said once here, for every such relation.
use mathlib.Core.Path.{◌≡◌, refl}
use mathlib.Core.Bool.{Bool, true, false}
use mathlib.Core.List.{List, [], ◌∷◌}
use Prim.Native.Nat.{ℕ, suc}
use Rattle.std.specs.Prelude.{Ok, Err}
use Rattle.settings.specs.declared.refusal.Refusal.{Refusal}
use Rattle.settings.specs.declared.refusal.Refusal.TheVariants.{R1, R2, MinStayingTime, MaxTimeBetween, TimeBounds, MinSize, MinSpatialResolution, ResolutionBounds}
use Rattle.settings.specs.declared.config.Config.{Config}
use Rattle.settings.specs.Settings.{check_config, check_time_bounds, check_resolution}
use Rattle.settings.specs.Checks.{Checked, refuse_if, first_of, in_turn, each_of, each_from}
use Rattle.settings.proofs.RefusalNumbers.{in_traces, early}

module _ (R : Refusal → Refusal → Type 0) where
  abbrev pub Alike : Checked → Checked → Type 0
  Alike (Ok u) (Ok v) = Unit {0}
  Alike (Err e) (Err e') = R e e'
  Alike (Ok u) (Err e) = ⊥
  Alike (Err e) (Ok u) = ⊥

  pub alike_if : (b : Bool) (e e' : Refusal) → R e e' → Alike (refuse_if b e) (refuse_if b e')
  unfolding refuse_if
  alike_if true e e' h = h
  alike_if false e e' h = tt

  pub alike_first : (a a' b b' : Checked) → Alike a a' → Alike b b' → Alike (first_of a b) (first_of a' b')
  unfolding first_of
  alike_first (Ok u) (Ok v) b b' p q = q
  alike_first (Err e) (Err e') b b' p q = p
  alike_first (Ok u) (Err e) b b' p q = absurd p
  alike_first (Err e) (Ok u) b b' p q = absurd p

  pub alike_turn : (a a' : Checked) (bs bs' : List Checked) → Alike a a' → Alike (in_turn bs) (in_turn bs') → Alike (in_turn (a ∷ bs)) (in_turn (a' ∷ bs'))
  unfolding in_turn
  alike_turn a a' bs bs' p q = alike_first a a' (in_turn bs) (in_turn bs') p q

  pub alike_end : Alike (in_turn []) (in_turn [])
  unfolding in_turn
  alike_end = tt

  pub alike_each : {A : Type 0} (f f' : A → Checked) → ((x : A) → Alike (f x) (f' x)) → (l : List A) → Alike (each_of f l) (each_of f' l)
  unfolding each_of
  alike_each f f' h [] = tt
  alike_each f f' h (x ∷ l) = alike_first (f x) (f' x) (each_of f l) (each_of f' l) (h x) (alike_each f f' h l)

  pub alike_from : {A : Type 0} (f f' : ℕ → A → Checked) → ((k : ℕ) (x : A) → Alike (f k x) (f' k x)) → (k : ℕ) (l : List A) → Alike (each_from f k l) (each_from f' k l)
  unfolding each_from
  alike_from f f' h k [] = tt
  alike_from f f' h k (x ∷ l) = alike_first (f k x) (f' k x) (each_from f (suc k) l) (each_from f' (suc k) l) (h k x) (alike_from f f' h (suc k) l)

  -- A relation that joins every refusal that comes before stays are looked for, and is about no trace, with itself.
  module _ (same : (e : Refusal) → in_traces e ≡ false → early e ≡ true → R e e) where
    pub alike_plain : (b : Bool) (e : Refusal) → in_traces e ≡ false → early e ≡ true → Alike (refuse_if b e) (refuse_if b e)
    alike_plain b e n h = alike_if b e e (same e n h)

    pub alike_config : (c : Config) → Alike (check_config c) (check_config c)
    unfolding check_config check_time_bounds check_resolution
    alike_config c =
        alike_turn _ _ _ _ (alike_plain _ R1 refl refl)
        (alike_turn _ _ _ _ (alike_plain _ R2 refl refl)
        (alike_turn _ _ _ _
        (alike_turn _ _ _ _ (alike_plain _ MinStayingTime refl refl)
        (alike_turn _ _ _ _ (alike_plain _ MaxTimeBetween refl refl)
        (alike_turn _ _ _ _ (alike_plain _ TimeBounds refl refl)
        (alike_turn _ _ _ _ (alike_plain _ MinSize refl refl) alike_end))))
        (alike_turn _ _ _ _
        (alike_turn _ _ _ _ (alike_plain _ MinSpatialResolution refl refl)
        (alike_turn _ _ _ _ (alike_plain _ ResolutionBounds refl refl) alike_end))
        alike_end)))
