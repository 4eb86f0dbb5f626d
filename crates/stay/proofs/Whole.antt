-- A whole trace: what the run is sound for at each fix, and what it has found at the end.
use mathlib.Core.Path.{◌≡◌, refl, sym, ap, ap₂, ◌∙◌, subst}
use mathlib.Core.Bool.{Bool, true, false, cond}
use mathlib.Core.List.{List, [], ◌∷◌, map}
use Prim.Native.Nat.{ℕ, suc, ◌+◌, ◌-◌, ◌*◌, ◌/◌, ◌<◌, ◌≤◌}
use native.Mathlib.Numerals.{add-one}
use native.Mathlib.Omega.{arith}
use lib.IntN.{ℤ}
use lib.ListN.{length, get_or, take, drop}
use lib.Seq.{take_all, sets}
use lib.Ieee.{Float, nan}
use Rattle.distance.specs.declared.Point.{Point}
use Rattle.distance.specs.Distance.{euclidean, points}
use Rattle.distance.specs.Steps.{point_at as read_at}
use Rattle.distance.proofs.Columns.{length_points, point_read}
use Rattle.settings.specs.declared.config.Config.{Config}
use Rattle.stay.specs.declared.Open.{Open}
use Rattle.stay.specs.StepsOrdered.{in_order}
use Rattle.stay.specs.Ordered.{ordered}
use Rattle.lists.specs.StepsParts.{part}
use Rattle.stay.specs.StepsRegions.{insert_both}
use Rattle.trace.specs.Trace.{Fix, fixes, timed}
use Rattle.stay.specs.Stays.{groups_from, groups, first_time, last_time, stay_medians, medians_of}
use Rattle.stay.specs.StepsEvents.{event_map, events_from}
use Rattle.stay.specs.Steps.{State, state_of, with_point, closed_as, closed, step, join_test, stay_test, elapsed, mid_of}
use Rattle.trace.specs.Steps.{all_marked}
use Rattle.stay.specs.StepsFound.{Found}
use Rattle.stay.proofs.Ordered.{insert_in_order}
use Rattle.stay.proofs.Regions.{both_above}
use Rattle.stay.proofs.States.{grown_state}
use Rattle.trace.proofs.Fixes.{no_fix, point_at, fixes_length, fixes_at, timed_marked, time_at_lem}
use Rattle.stay.proofs.Run.{px, py, run, Holds, Ends, ends}

-- ---- at each fix

-- before fix i: the open group starts before i, there are no more stays than fixes before it, and its coordinates are in order
pub record Sound (found i : ℕ) (st : State) : Type 0 where
  pub before : st.start < i
  pub few : st.stays ≤ found + st.start
  pub x_order : in_order st.gx ≡ true
  pub y_order : in_order st.gy ≡ true

sound_taken : (found i : ℕ) (p : Point) (st : State) → st.start ≤ i → st.stays ≤ found + st.start → in_order st.gx ≡ true → in_order st.gy ≡ true → Sound found (suc i) (with_point p st)
unfolding with_point
sound_taken found i p st h f x y =
    record { before = omega arith; few = f; x_order = insert_in_order p.x st.gx x; y_order = insert_in_order p.y st.gy y }

sound_closed : (s : Config) (t : Bool) (ts : List Float) (p : Point) (found i : ℕ) (st : State) → Sound found i st → Sound found (suc i) (with_point p (closed s t ts i st))
unfolding closed closed_as in_order
sound_closed s t ts p found i st h =
    sound_taken found i p (closed s t ts i st) (omega arith) (more (stay_test t s (i - st.start) (elapsed t ts st.start (i - 1)))) refl refl
  where
    more : (ok : Bool) → cond ok (st.stays + 1) st.stays ≤ found + i
    more true = omega (arith, h.few, h.before)
    more false = omega (arith, h.few, h.before)

pub sound_step : (dist : Point → Point → Float) (s : Config) (t : Bool) (ts : List Float) (p : Point) (found i : ℕ) (st : State)
    → Sound found i st → Sound found (i + 1) (step dist s t ts p i st)
unfolding step
sound_step dist s t ts p found i st h =
    subst (λ (k : ℕ). Sound found k (step dist s t ts p i st)) (sym (add-one i)) (go (join_test t s (dist p (mid_of st)) (elapsed t ts (i - 1) i)))
  where
    go : (b : Bool) → Sound found (suc i) (with_point p (cond b st (closed s t ts i st)))
    go true = sound_taken found i p st (omega (arith, h.before)) h.few h.x_order h.y_order
    go false = sound_closed s t ts p found i st h

-- one turn of the run, and its end
pub run_on : (dist : Point → Point → Float) (s : Config) (t : Bool) (ts : List Float) (fs : List Fix) (i n : ℕ) (st st' : State) → i < n
    → st' ≡ step dist s t ts (point_at fs i) i st → run dist s t ts fs (i + 1) (n - (i + 1)) st' ≡ run dist s t ts fs i (n - i) st
unfolding run
run_on dist s t ts fs i n st st' h e =
    let k : n - i ≡ suc (n - (i + 1)) = omega arith in
    rw (k, e, add-one i)

pub run_end : (dist : Point → Point → Float) (s : Config) (t : Bool) (ts : List Float) (fs : List Fix) (i n : ℕ) (st : State) → n ≤ i → run dist s t ts fs i (n - i) st ≡ st
unfolding run
run_end dist s t ts fs i n st h =
    let k : n - i ≡ 0 = omega arith in
    rw k

-- ---- at the start and at the end

module _ (s : Config) (xs ys ts : List Float) (ms : List ℕ) (ly : length ys ≡ length xs) (lt : length ts ≡ length xs) (lm : length ms ≡ length xs) (found : ℕ) where
  abbrev fs : List Fix
  fs = fixes xs ys ts ms

  abbrev t : Bool
  t = all_marked ms

  -- the point that the code reads
  pub read_is : (i : ℕ) → i < length xs → (ps : List Point) → ps ≡ points xs ys → read_at ps i ≡ record { x = get_or xs i nan; y = get_or ys i nan }
  read_is i h ps e = rw e (sym (point_read xs ys i ly (omega (arith, length_points xs ys ly))))

  pub point_is : (i : ℕ) → i < length xs → record { x = get_or xs i nan; y = get_or ys i nan } ≡ point_at fs i
  point_is i h = sym (ap (λ (f : Fix). f.at) (fixes_at xs ys ts ms i ly lt lm h))

  module _ (some_fix : 0 < length xs) (q : ℕ) (w : List Float) (l : List ℤ) (some_room : 0 < q) (fits : 4 * q ≤ length w) where
    abbrev before : State
    before = state_of q 0 w l (record { start = 0; stays = found })

    abbrev pub first_state : State
    first_state = state_of q 1 (insert_both q 0 (get_or xs 0 nan) (get_or ys 0 nan) w) l (record { start = 0; stays = found })

    first_taken : first_state ≡ with_point (point_at fs 0) before
    first_taken =
        grown_state q 0 0 w l (record { start = 0; stays = found }) (record { x = get_or xs 0 nan; y = get_or ys 0 nan }) (omega arith) (omega arith) some_room fits
        ∙ ap (λ (p : Point). with_point p before) (point_is 0 some_fix)

    pub sound_first : Sound found 1 first_state
    unfolding state_of in_order
    sound_first = subst (Sound found 1) (sym first_taken) (sound_taken found 0 (point_at fs 0) before (omega arith) (omega arith) refl refl)

    holds_first : Holds euclidean s t ts fs 1 first_state (get_or fs 0 no_fix ∷ [])
    unfolding with_point state_of ordered first_time last_time
    holds_first =
        subst (λ (st : State). Holds euclidean s t ts fs 1 st (get_or fs 0 no_fix ∷ [])) (sym first_taken)
        (record { before = omega arith; size = omega arith; xs = refl; ys = refl; first = refl; last = refl })

    -- the groups of a trace that has a fix
    groups_first : (gs : List Fix) → 0 < length gs → groups euclidean s gs ≡ groups_from euclidean s (timed gs) (get_or gs 0 no_fix ∷ []) (drop 1 gs)
    unfolding groups
    groups_first [] h = absurd (omega arith)
    groups_first (f ∷ gs) h = refl

    size_is : length fs ≡ length xs
    size_is = fixes_length xs ys ts ms ly lt lm

    groups_are : groups euclidean s fs ≡ groups_from euclidean s t (get_or fs 0 no_fix ∷ []) (drop 1 fs)
    groups_are =
        groups_first fs (omega (arith, size_is)) ∙ ap (λ (b : Bool). groups_from euclidean s b (get_or fs 0 no_fix ∷ []) (drop 1 fs)) (sym (timed_marked xs ys ts ms ly lt lm))

    all_ends : Ends euclidean s t ts fs first_state (closed s t ts (length xs) (run euclidean s t ts fs 1 (length xs - 1) first_state)) (groups euclidean s fs)
    all_ends =
        subst
        (λ (gs : List (List Fix)). Ends euclidean s t ts fs first_state
        (closed s t ts (length xs) (run euclidean s t ts fs 1 (length xs - 1) first_state)) gs)
        (sym groups_are)
        (subst
        (λ (n : ℕ). Ends euclidean s t ts fs first_state (closed s t ts n (run euclidean s t ts fs 1 (length xs - 1) first_state))
        (groups_from euclidean s t (get_or fs 0 no_fix ∷ []) (drop 1 fs)))
        size_is
        (ends euclidean s t ts fs (λ e j h. time_at_lem xs ys ts ms ly lt lm e j (omega (arith, size_is))) (length xs - 1) 1 first_state
        (get_or fs 0 no_fix ∷ []) (omega (arith, size_is)) holds_first))

    -- the state after the last fix, closed
    pub last_state : (tm : Bool) (w₁ v v' : List Float) (e e' : List ℤ) (o o' : Open) (i : ℕ) → tm ≡ t → w₁ ≡ insert_both q 0 (get_or xs 0 nan) (get_or ys 0 nan) w → length xs ≤ i → i ≤ length xs
        → run euclidean s tm ts fs i (length xs - i) (state_of q i v e o) ≡ run euclidean s tm ts fs 1 (length xs - 1) (state_of q 1 w₁ l (record { start = 0; stays = found }))
        → state_of q (length xs) v' e' o' ≡ closed s tm ts (length xs) (state_of q (length xs) v e o)
        → state_of q (length xs) v' e' o' ≡ closed s t ts (length xs) (run euclidean s t ts fs 1 (length xs - 1) first_state)
    last_state tm w₁ v v' e e' o o' i te we h k r c =
        let at : i ≡ length xs = omega arith in
        let here : state_of q (length xs) v e o ≡ state_of q i v e o = ap (λ (j : ℕ). state_of q j v e o) (sym at) in
        c ∙ ap (closed s tm ts (length xs)) (here ∙ sym (run_end euclidean s tm ts fs i (length xs) (state_of q i v e o) h) ∙ r)
        ∙ ap₂ (λ (b : Bool) (u : List Float). closed s b ts (length xs) (run euclidean s b ts fs 1 (length xs - 1) (state_of q 1 u l (record { start = 0; stays = found })))) te we

    abbrev pub Last : List Float → List ℤ → Open → Type 0
    Last v e o = state_of q (length xs) v e o ≡ closed s t ts (length xs) (run euclidean s t ts fs 1 (length xs - 1) first_state)

    stays_are : (v : List Float) (e : List ℤ) (o : Open) → Last v e o → o.stays ≡ found + length (medians_of s t (groups euclidean s fs))
    unfolding state_of
    stays_are v e o st = ap (λ (z : State). z.stays) st ∙ all_ends.stays

    pub enough : (v : List Float) (e : List ℤ) (o : Open) → Last v e o → found ≤ o.stays
    enough v e o st = omega (arith, stays_are v e o st)

    -- the medians' parts are as they were before the first insertion
    above : (b : ℕ) (ps : List Float) → q + q ≤ b → sets (part b q (insert_both q 0 (get_or xs 0 nan) (get_or ys 0 nan) w)) found ps ≡ sets (part b q w) found ps
    above b ps h = ap (λ (r : List Float). sets (take q r) found ps) (both_above q 0 (get_or xs 0 nan) (get_or ys 0 nan) w (omega arith) some_room b h)

    -- what the last state says is found
    pub whole : (v : List Float) (e : List ℤ) (o : Open) → q ≡ length w / 4 → length v ≡ length w → length e ≡ length xs → Last v e o → Found s fs found w v e (o.stays - found)
    unfolding state_of closed closed_as stay_medians event_map
    whole v e o qe lv le st =
        let timing : timed fs ≡ t = sym (timed_marked xs ys ts ms ly lt lm) in
        let start : o.start ≡ length xs = ap (λ (z : State). z.start) st in
        let ps = medians_of s t (groups euclidean s fs) in
        record {
          count = rw timing (omega (arith, stays_are v e o st));
          numbered = rw timing (sym (take_all o.start e (omega (arith, start, le))) ∙ ap (λ (z : State). z.events) st ∙ all_ends.events);
          medians_x = rw (lv, ← qe, timing) (ap (λ (z : State). z.mx) st ∙ all_ends.mx ∙ above (2 * q) (map px ps) (omega arith));
          medians_y = rw (lv, ← qe, timing) (ap (λ (z : State). z.my) st ∙ all_ends.my ∙ above (3 * q) (map py ps) (omega arith));
        }

-- a trace without a fix
pub nothing : (s : Config) (xs ys ts : List Float) (ms : List ℕ) (found : ℕ) (w : List Float) (e : List ℤ) → length xs ≡ 0 → length e ≡ 0 → Found s (fixes xs ys ts ms) found w w e 0
unfolding fixes stay_medians event_map groups medians_of events_from
nothing s [] ys ts ms found w [] h k = record { count = refl; numbered = refl; medians_x = refl; medians_y = refl }
nothing s [] ys ts ms found w (v ∷ e) h k = absurd (omega arith)
nothing s (x ∷ xs) ys ts ms found w e h k = absurd (omega arith)
