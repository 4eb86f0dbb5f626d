-- The run of the steps over a trace ends in the state that the definition of stays gives.
use mathlib.Core.Path.{◌≡◌, refl, sym, ap, ap₂, ◌∙◌, subst}
use mathlib.Core.Bool.{Bool, true, false, not, ◌&&◌, ◌||◌}
use mathlib.Core.List.{List, [], ◌∷◌, ◌++◌, map, append_assoc, append-nil}
use mathlib.Core.Option.{Option, some}
use Prim.Native.Nat.{ℕ, zero, suc, ◌+◌, ◌-◌, ◌<◌, ◌≤◌}
use native.Mathlib.Nat.{add-zero}
use native.Mathlib.Numerals.{add-one}
use native.Mathlib.Omega.{arith}
use lib.Dec.{leb}
use lib.ListN.{length, get_or, drop, replicate, length-append, drop_of_length-le}
use lib.Seq.{sets, drop-cons}
use lib.Ieee.{Float, nan, le}
use Rattle.distance.specs.declared.Point.{Point}
use Rattle.distance.specs.Grid.{point_on_grid}
use Rattle.settings.specs.declared.config.Config.{Config}
-- Named so that the examples are checked before these lemmas.
use Rattle.stay.specs.Examples
use Rattle.stay.specs.Ordered.{ordered, insert_ordered, median}
use Rattle.trace.specs.Trace.{Fix}
use Rattle.stay.specs.Stays.{middle, stay_median, since, first_time, last_time, joins, is_stay, groups_from, medians_of}
use Rattle.stay.specs.StepsEvents.{event_number, events_from}
use Rattle.stay.specs.Steps.{State, mid_of, with_point, closed_as, closed, step, join_test, stay_test, elapsed}
use Rattle.stay.proofs.Ordered.{ordered_more}
use Rattle.stay.proofs.States.{step_joins, step_closes}
use Rattle.stay.proofs.Groups.{groups_join, groups_close, groups_end, map_x, map_y, first_more, last_more}
use Rattle.trace.proofs.Fixes.{no_fix, point_at, time_at}

abbrev pub px : Point → Float
px p = p.x

abbrev pub py : Point → Float
py p = p.y

module _ (dist : Point → Point → Float) (s : Config) (t : Bool) (ts : List Float) (fs : List Fix) where
  -- the steps of the k fixes from i
  unfoldable pub run : ℕ → ℕ → State → State
  run i zero st = st
  run i (suc k) st = run (suc i) k (step dist s t ts (point_at fs i) i st)

  -- the state's open group before fix i is g
  pub record Holds (i : ℕ) (st : State) (g : List Fix) : Type 0 where
    pub before : st.start < i
    pub size : length g ≡ i - st.start
    pub xs : st.gx ≡ ordered (map (λ (f : Fix). f.at.x) g)
    pub ys : st.gy ≡ ordered (map (λ (f : Fix). f.at.y) g)
    pub first : first_time g ≡ time_at fs st.start
    pub last : last_time g ≡ time_at fs (i - 1)

  -- from the state st on, the groups gs are closed, and then the state is fin
  pub record Ends (st fin : State) (gs : List (List Fix)) : Type 0 where
    pub stays : fin.stays ≡ st.stays + length (medians_of s t gs)
    pub events : fin.events ≡ st.events ++ events_from s t st.stays gs
    pub mx : fin.mx ≡ sets st.mx st.stays (map px (medians_of s t gs))
    pub my : fin.my ≡ sets st.my st.stays (map py (medians_of s t gs))

  ends_none : (st : State) → Ends st st []
  unfolding medians_of events_from
  ends_none st = record { stays = sym (add-zero st.stays); events = sym (append-nil st.events); mx = refl; my = refl }

  mid_of_lem : (i : ℕ) (st : State) (g : List Fix) → Holds i st g → mid_of st ≡ middle g
  unfolding mid_of middle
  mid_of_lem i st g h = ap₂ (λ (a b : List Float). record { x = median a; y = median b }) h.xs h.ys

  -- ---- closing a group

  ends_kept : (i : ℕ) (st fin : State) (g : List Fix) (gs : List (List Fix)) (ok : Bool) (m : Point) → is_stay s t g ≡ ok → stay_median s g ≡ m → length g ≡ i - st.start
      → Ends (closed_as ok m i st) fin gs → Ends st fin (g ∷ gs)
  unfolding closed_as medians_of events_from
  ends_kept i st fin g gs true m p q n e =
      record {
        stays = e.stays ∙ (rw p (let z : st.stays + 1 + length (medians_of s t gs) ≡ st.stays + suc (length (medians_of s t gs)) = omega arith in z));
        events = e.events ∙ rw (p, n, add-one st.stays) (append_assoc st.events (replicate (i - st.start) (event_number true st.stays)) (events_from s t (suc st.stays) gs));
        mx = e.mx ∙ rw (p, ← q, add-one st.stays);
        my = e.my ∙ rw (p, ← q, add-one st.stays);
      }
  ends_kept i st fin g gs false m p q n e =
      record {
        stays = e.stays ∙ rw p;
        events = e.events ∙ rw (p, n) (append_assoc st.events (replicate (i - st.start) (event_number false st.stays)) (events_from s t st.stays gs));
        mx = e.mx ∙ rw p;
        my = e.my ∙ rw p;
      }

  -- ---- the tests of the steps are those of the definition

  -- the times of a timed trace are those of the list
  module _ (timing : t ≡ true → (j : ℕ) → j < length fs → time_at fs j ≡ some (get_or ts j nan)) where
    since_elapsed : t ≡ true → (a b : ℕ) → a < length fs → b < length fs → since (time_at fs a) (time_at fs b) ≡ elapsed t ts a b
    unfolding since elapsed
    since_elapsed e a b h k = rw (timing e a h, timing e b k, e)

    joins_is : (i : ℕ) (st : State) (g : List Fix) → Holds i st g → i < length fs
        → join_test t s (dist (point_at fs i) (mid_of st)) (elapsed t ts (i - 1) i) ≡ joins dist s t g (get_or fs i no_fix)
    unfolding join_test joins
    joins_is i st g h l =
        ap₂ ◌&&◌ (ap (λ (m : Point). le (dist (point_at fs i) m) s.r1) (mid_of_lem i st g h))
        (go t refl)
      where
        go : (b : Bool) → t ≡ b → (not b || le (elapsed t ts (i - 1) i) s.max_time_between) ≡ (not b || le (since (last_time g) (time_at fs i)) s.max_time_between)
        go true e =
            ap (λ (u : Float). le u s.max_time_between)
            (sym (since_elapsed e (i - 1) i (omega (arith, h.before)) l) ∙ ap (λ (o : Option Float). since o (time_at fs i)) (sym h.last))
        go false e = refl

    stay_is : (i : ℕ) (st : State) (g : List Fix) → Holds i st g → i ≤ length fs → stay_test t s (i - st.start) (elapsed t ts st.start (i - 1)) ≡ is_stay s t g
    unfolding stay_test is_stay
    stay_is i st g h l = ap₂ ◌&&◌ (ap (leb s.min_size) (sym h.size)) (go t refl)
      where
        go : (b : Bool) → t ≡ b
            → (not b || le s.min_staying_time (elapsed t ts st.start (i - 1))) ≡ (not b || le s.min_staying_time (since (first_time g) (last_time g)))
        go true e =
            ap (λ (u : Float). le s.min_staying_time u)
            (sym (since_elapsed e st.start (i - 1) (omega (arith, h.before)) (omega (arith, h.before))) ∙ ap₂ since (sym h.first) (sym h.last))
        go false e = refl

    ends_closed : (i : ℕ) (st fin : State) (g : List Fix) (gs : List (List Fix)) → Holds i st g → i ≤ length fs → Ends (closed s t ts i st) fin gs → Ends st fin (g ∷ gs)
    unfolding closed stay_median
    ends_closed i st fin g gs h l e =
        ends_kept i st fin g gs (stay_test t s (i - st.start) (elapsed t ts st.start (i - 1))) (point_on_grid s.min_spatial_resolution (mid_of st)) (sym (stay_is i st g h l))
        (ap (point_on_grid s.min_spatial_resolution) (sym (mid_of_lem i st g h))) h.size e

    -- ---- one fix

    holds_joined : (i : ℕ) (st : State) (g : List Fix) → Holds i st g → Holds (suc i) (with_point (point_at fs i) st) (g ++ (get_or fs i no_fix ∷ []))
    unfolding with_point
    holds_joined i st g h =
        let f = get_or fs i no_fix in
        let some_fix : 0 < length g = omega (arith, h.size, h.before) in
        record {
          before = omega (arith, h.before);
          size = simp length-append (omega (arith, h.size, h.before));
          xs = ap (insert_ordered f.at.x) h.xs ∙ sym (ap ordered (map_x g f) ∙ ordered_more (map (λ (e : Fix). e.at.x) g) f.at.x);
          ys = ap (insert_ordered f.at.y) h.ys ∙ sym (ap ordered (map_y g f) ∙ ordered_more (map (λ (e : Fix). e.at.y) g) f.at.y);
          first = first_more g f some_fix ∙ h.first;
          last = last_more g f ∙ ap (time_at fs) (let z : i ≡ suc i - 1 = omega arith in z);
        }

    holds_opened : (i : ℕ) (st : State) → Holds (suc i) (with_point (point_at fs i) (closed s t ts i st)) (get_or fs i no_fix ∷ [])
    unfolding with_point closed closed_as ordered first_time last_time
    holds_opened i st =
        record {
          before = omega arith;
          size = omega arith;
          xs = refl;
          ys = refl;
          first = refl;
          last = ap (time_at fs) (let z : i ≡ suc i - 1 = omega arith in z);
        }

    -- taking a point in alters none of what `Ends` speaks of
    ends_taken : (p : Point) (st fin : State) (gs : List (List Fix)) → Ends (with_point p st) fin gs → Ends st fin gs
    unfolding with_point
    ends_taken p st fin gs e = record { stays = e.stays; events = e.events; mx = e.mx; my = e.my }

    -- ---- the run

    pub ends : (k i : ℕ) (st : State) (g : List Fix) → i + k ≡ length fs → Holds i st g → Ends st (closed s t ts (length fs) (run i k st)) (groups_from dist s t g (drop i fs))
    unfolding run
    ends zero i st g n h =
        let at : i ≡ length fs = omega arith in
        let none_left : drop i fs ≡ [] = drop_of_length-le fs {i = i} (omega arith) in
        subst (λ (l : List Fix). Ends st (closed s t ts (length fs) st) (groups_from dist s t g l)) (sym none_left)
        (subst (λ (j : ℕ). Ends st (closed s t ts j st) (groups_from dist s t g [])) at
        (subst (λ (gs : List (List Fix)). Ends st (closed s t ts i st) gs) (sym (groups_end dist s t g))
        (ends_closed i st (closed s t ts i st) g [] h (omega arith) (ends_none (closed s t ts i st)))))
    ends (suc k) i st g n h =
        let l : i < length fs = omega arith in
        subst (λ (r : List Fix). Ends st (closed s t ts (length fs) (run (suc i) k (step dist s t ts (point_at fs i) i st))) (groups_from dist s t g r)) (sym (drop-cons fs i no_fix l))
        (go (joins dist s t g (get_or fs i no_fix)) refl (ends k (suc i)))
      where
        go : (b : Bool) → joins dist s t g (get_or fs i no_fix) ≡ b
            → ((st' : State) (g' : List Fix) → suc i + k ≡ length fs → Holds (suc i) st' g' → Ends st' (closed s t ts (length fs) (run (suc i) k st')) (groups_from dist s t g' (drop (suc i) fs)))
            → Ends st (closed s t ts (length fs) (run (suc i) k (step dist s t ts (point_at fs i) i st))) (groups_from dist s t g (get_or fs i no_fix ∷ drop (suc i) fs))
        go true b ih =
            let p = point_at fs i in
            let f = get_or fs i no_fix in
            let e : step dist s t ts p i st ≡ with_point p st = step_joins dist s t ts p i st (joins_is i st g h (omega arith) ∙ b) in
            subst (λ (st' : State). Ends st (closed s t ts (length fs) (run (suc i) k st')) (groups_from dist s t g (f ∷ drop (suc i) fs))) (sym e)
            (subst (λ (gs : List (List Fix)). Ends st (closed s t ts (length fs) (run (suc i) k (with_point p st))) gs) (sym (groups_join dist s t g f (drop (suc i) fs) b))
            (ends_taken p st (closed s t ts (length fs) (run (suc i) k (with_point p st))) (groups_from dist s t (g ++ (f ∷ [])) (drop (suc i) fs))
            (ih (with_point p st) (g ++ (f ∷ [])) (omega arith) (holds_joined i st g h))))
        go false b ih =
            let p = point_at fs i in
            let f = get_or fs i no_fix in
            let c = closed s t ts i st in
            let e : step dist s t ts p i st ≡ with_point p c = step_closes dist s t ts p i st (joins_is i st g h (omega arith) ∙ b) in
            subst (λ (st' : State). Ends st (closed s t ts (length fs) (run (suc i) k st')) (groups_from dist s t g (f ∷ drop (suc i) fs))) (sym e)
            (subst (λ (gs : List (List Fix)). Ends st (closed s t ts (length fs) (run (suc i) k (with_point p c))) gs) (sym (groups_close dist s t g f (drop (suc i) fs) b))
            (ends_closed i st (closed s t ts (length fs) (run (suc i) k (with_point p c))) g (groups_from dist s t (f ∷ []) (drop (suc i) fs)) h (omega arith)
            (ends_taken p c (closed s t ts (length fs) (run (suc i) k (with_point p c))) (groups_from dist s t (f ∷ []) (drop (suc i) fs))
            (ih (with_point p c) (f ∷ []) (omega arith) (holds_opened i st)))))
