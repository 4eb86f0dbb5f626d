-- The state that the slices stand for, after each step of the code.
use mathlib.Core.Path.{◌≡◌, refl, sym, ap, ◌∙◌}
use mathlib.Core.Bool.{Bool, true, false}
use mathlib.Core.List.{List, ◌++◌, append_assoc}
use Prim.Native.Nat.{ℕ, ◌+◌, ◌-◌, ◌*◌, ◌<◌, ◌≤◌}
use native.Mathlib.Nat.{sub_self}
use native.Mathlib.Omega.{arith}
use lib.IntN.{ℤ, pos, negsuc}
use lib.ListN.{length, drop, take, set, replicate, length-append, length-replicate}
use lib.Seq.{take_at, length-take-le}
use lib.Ieee.{Float}
use Rattle.std.specs.Prelude.{Option, is_some, IfSome}
use Rattle.std.specs.Bool.{then_some}
use Rattle.std.specs.Borrow.{Bor}
use Rattle.distance.specs.declared.Point.{Point}
use Rattle.settings.specs.declared.config.Config.{Config}
use Rattle.stay.specs.declared.Open.{Open}
use Rattle.stay.specs.StepsRegions.{insert_both, middle_in}
use Rattle.stay.specs.StepsEvents.{event_number}
use Rattle.stay.specs.Steps.{State, state_of, mid_of, with_point, closed_as, kept, closed, step, join_test, elapsed, times_in, Room}
use Rattle.lists.proofs.Parts.{part_set, part_set_above, part_set_below}
use Rattle.stay.proofs.Regions.{grown_x, grown_y, both_above}

-- the median of the code is that of the state
pub mid_is : (q i : ℕ) (w : List Float) (l : List ℤ) (o : Open) → middle_in q (i - o.start) w ≡ mid_of (state_of q i w l o)
unfolding middle_in mid_of state_of
mid_is q i w l o = refl

module _ (q i : ℕ) (w : List Float) (l : List ℤ) (o : Open) (m : Point) (room : Room q i o (length w) (length l)) where
  events_closed : (v : ℤ) → take i (take o.start l ++ (replicate (i - o.start) v ++ drop (i - o.start) (drop o.start l))) ≡ take o.start l ++ replicate (i - o.start) v
  events_closed v =
      ap (take i) (sym (append_assoc (take o.start l) (replicate (i - o.start) v) (drop (i - o.start) (drop o.start l))))
      ∙ take_at (take o.start l ++ replicate (i - o.start) v) (drop (i - o.start) (drop o.start l)) i
      (simp (length-append, length-replicate) (omega (arith, length-take-le o.start l (omega arith))))

  pub kept_stay : {d : List ℤ} → d ≡ replicate (i - o.start) (pos o.stays)
      → state_of q i (set (set w (2 * q + o.stays) m.x) (3 * q + o.stays) m.y) (take o.start l ++ (d ++ drop (i - o.start) (drop o.start l))) (record { start = i; stays = o.stays + 1 })
      ≡ closed_as true m i (state_of q i w l o)
  unfolding state_of closed_as event_number
  kept_stay e =
      rw (
        sub_self i,
        e,
        events_closed (pos o.stays),
        part_set_above (2 * q) q (3 * q + o.stays) m.y (set w (2 * q + o.stays) m.x) (omega arith),
        part_set (2 * q) q o.stays m.x w room.median,
        part_set (3 * q) q o.stays m.y (set w (2 * q + o.stays) m.x) room.median,
        part_set_below (3 * q) q (2 * q + o.stays) m.x w (omega arith),
      )

  pub kept_none : {d : List ℤ} → d ≡ replicate (i - o.start) (negsuc 0)
      → state_of q i w (take o.start l ++ (d ++ drop (i - o.start) (drop o.start l))) (record { start = i; stays = o.stays }) ≡ closed_as false m i (state_of q i w l o)
  unfolding state_of closed_as event_number
  kept_none e = rw (sub_self i, e, events_closed (negsuc 0))

-- a group closed where it passes a test, and the median handed over only there
pub kept_where : (ok : Bool) (m : Point) (i : ℕ) (st : State) → kept (then_some ok m) i st ≡ closed_as ok m i st
unfolding kept
kept_where true m i st = refl
kept_where false m i st = unfold closed_as in refl

-- a point taken in
pub grown_state : (q i len : ℕ) (w : List Float) (l : List ℤ) (o : Open) (p : Point) → o.start ≤ i → len ≡ i - o.start → len < q → 4 * q ≤ length w
    → state_of q (i + 1) (insert_both q len p.x p.y w) l o ≡ with_point p (state_of q i w l o)
unfolding state_of with_point
grown_state q i len w l o p s e h f =
    let more : i + 1 - o.start ≡ len + 1 = omega arith in
    rw (
      grown_x q len p.x p.y w (omega arith) h (i + 1 - o.start) more,
      grown_y q len p.x p.y w (omega arith) h (i + 1 - o.start) more,
      both_above q len p.x p.y w (omega arith) h (2 * q) (omega arith),
      both_above q len p.x p.y w (omega arith) h (3 * q) (omega arith),
      e,
    )

-- ---- the step

-- what holds of the times holds of them where they are handed over
pub if_handed : (b : Bool) {ts : Bor (List Float)} {o : Option (Bor (List Float))} (P : Bor (List Float) → Type 0) → o ≡ then_some b ts → P ts → IfSome o P
if_handed b {ts} P e h = rw e (go b)
  where
    go : (c : Bool) → IfSome (then_some c ts) P
    go true = h
    go false = tt

-- a step and the closing look at the times handed over only where the trace is timed
module _ {t b : Bool} (ts : Bor (List Float)) {o : Option (Bor (List Float))} (timing : b ≡ t) (handed : o ≡ then_some b ts) where
  pub step_seen : (dist : Point → Point → Float) (s : Config) (p : Point) (i : ℕ) (st : State) → step dist s (is_some o) (times_in o) p i st ≡ step dist s t ts.now p i st
  step_seen dist s p i st = rw (handed, timing) (go t)
    where
      go : (c : Bool) → step dist s (is_some (then_some c ts)) (times_in (then_some c ts)) p i st ≡ step dist s c ts.now p i st
      go true = unfold times_in in refl
      go false = unfold times_in step closed elapsed in refl

  pub closed_seen : (s : Config) (i : ℕ) (st : State) → closed s (is_some o) (times_in o) i st ≡ closed s t ts.now i st
  closed_seen s i st = rw (handed, timing) (go t)
    where
      go : (c : Bool) → closed s (is_some (then_some c ts)) (times_in (then_some c ts)) i st ≡ closed s c ts.now i st
      go true = unfold times_in in refl
      go false = unfold times_in closed elapsed in refl

module _ (dist : Point → Point → Float) (s : Config) (t : Bool) (ts : List Float) (p : Point) (i : ℕ) where
  pub step_joins : (st : State) → join_test t s (dist p (mid_of st)) (elapsed t ts (i - 1) i) ≡ true → step dist s t ts p i st ≡ with_point p st
  unfolding step
  step_joins st h = rw h

  pub step_closes : (st : State) → join_test t s (dist p (mid_of st)) (elapsed t ts (i - 1) i) ≡ false → step dist s t ts p i st ≡ with_point p (closed s t ts i st)
  unfolding step
  step_closes st h = rw h

  -- the test of the code is the test of the definition
  pub test_is : (q : ℕ) (w : List Float) (l : List ℤ) (o : Open) {m : Point} {d e : Float} {r b : Bool}
      → m ≡ middle_in q (i - o.start) w → d ≡ dist p m → e ≡ elapsed t ts (i - 1) i → r ≡ join_test t s d e → r ≡ b
      → join_test t s (dist p (mid_of (state_of q i w l o))) (elapsed t ts (i - 1) i) ≡ b
  test_is q w l o pm pd pe pr pb = rw (← mid_is q i w l o, ← pm, ← pd, ← pe) (sym pr ∙ pb)

  -- a fix that does not join: the group closed before it, and the point taken into the next
  pub step_closed : (q : ℕ) (w w₁ w₂ : List Float) (l l₁ : List ℤ) (o o₁ : Open) (m : Point) (d e : Float) {r : Bool} → w₂ ≡ insert_both q 0 p.x p.y w₁ → state_of q i w₁ l₁ o₁ ≡ closed s t ts i (state_of q i w l o)
      → m ≡ middle_in q (i - o.start) w → d ≡ dist p m → e ≡ elapsed t ts (i - 1) i → r ≡ join_test t s d e → r ≡ false → 0 < q → 4 * q ≤ length w₁
      → state_of q (i + 1) w₂ l₁ o₁ ≡ step dist s t ts p i (state_of q i w l o)
  unfolding closed closed_as state_of
  step_closed q w w₁ w₂ l l₁ o o₁ m d e h c pm pd pe pr pf few room =
      let at : o₁.start ≡ i = ap (λ (z : State). z.start) c in
      rw h
      (grown_state q i 0 w₁ l₁ o₁ p (omega arith) (omega arith) few room ∙ ap (with_point p) c ∙ sym (step_closes (state_of q i w l o) (test_is q w l o pm pd pe pr pf)))
