-- Serves the contracts of this crate's own functions; no public contract reaches it.
-- What the steps of `stays` ensure: the state that its slices stand for, and what each step makes of it.
use Rattle.std.specs.Prelude.{ℕ, ◌+◌, ◌-◌, ◌*◌, ◌≤◌, ◌<◌, ◌^◌, ◌≡◌, Bool, true, false, not, ◌&&◌, ◌||◌, cond, List, [], ◌++◌, leb, ℤ, length, take, set, get_or, replicate, Float, Option, None, Some}
use Rattle.std.specs.Borrow.{Bor}
use Rattle.std.specs.Float.{nan}
use Rattle.std.specs.Float.Ieee.{le}
use Rattle.float.specs.Binary64.{sub64, zero64}
use Rattle.distance.specs.declared.Point.{Point}
use Rattle.distance.specs.Grid.{point_on_grid}
use Rattle.settings.specs.declared.config.Config.{Config}
use Rattle.stay.specs.declared.Open.{Open}
use Rattle.stay.specs.Ordered.{insert_ordered, median}
use Rattle.stay.specs.StepsOrdered.{in_order}
use Rattle.lists.specs.StepsParts.{part}
use Rattle.stay.specs.StepsEvents.{event_number}

-- The times handed over: none of a trace that is not timed.
unfoldable pub times_in : Option (Bor (List Float)) → List Float
times_in None = []
times_in (Some ts) = ts.now

-- The time at b less that at a. Times are not looked at unless all are marked.
unfoldable pub elapsed : Bool → List Float → ℕ → ℕ → Float
elapsed t ts a b = cond t (sub64 (get_or ts b nan) (get_or ts a nan)) zero64

-- The tests of joining and of acceptance, on numbers.
unfoldable pub join_test : Bool → Config → Float → Float → Bool
join_test t s d e = le d s.r1 && (not t || le e s.max_time_between)

unfoldable pub stay_test : Bool → Config → ℕ → Float → Bool
stay_test t s n e = leb s.min_size n && (not t || le s.min_staying_time e)

-- The run's state: where the open group starts, how many stays are before it, its coordinates in order, the numbers of the fixes before it,
-- and the medians' coordinates.
pub record State : Type 0 where
  pub start : ℕ
  pub stays : ℕ
  pub gx : List Float
  pub gy : List Float
  pub events : List ℤ
  pub mx : List Float
  pub my : List Float

-- The state that the slices stand for before fix i.
unfoldable pub state_of : ℕ → ℕ → List Float → List ℤ → Open → State
state_of q i w l o =
    record {
      start = o.start;
      stays = o.stays;
      gx = take (i - o.start) (part 0 q w);
      gy = take (i - o.start) (part q q w);
      events = take o.start l;
      mx = part (2 * q) q w;
      my = part (3 * q) q w;
    }

-- The open group's median.
unfoldable pub mid_of : State → Point
mid_of st = record { x = median st.gx; y = median st.gy }

-- A point taken in.
unfoldable pub with_point : Point → State → State
with_point p st =
    record {
      start = st.start;
      stays = st.stays;
      gx = insert_ordered p.x st.gx;
      gy = insert_ordered p.y st.gy;
      events = st.events;
      mx = st.mx;
      my = st.my;
    }

-- The open group closed before fix i, as a stay with the median m or as none.
unfoldable pub closed_as : Bool → Point → ℕ → State → State
closed_as ok m i st =
    record {
      start = i;
      stays = cond ok (st.stays + 1) st.stays;
      gx = [];
      gy = [];
      events = st.events ++ replicate (i - st.start) (event_number ok st.stays);
      mx = cond ok (set st.mx st.stays m.x) st.mx;
      my = cond ok (set st.my st.stays m.y) st.my;
    }

-- The same where the median is there only for a stay.
unfoldable pub kept : Option Point → ℕ → State → State
kept None i st = closed_as false (record { x = zero64; y = zero64 }) i st
kept (Some m) i st = closed_as true m i st

-- With its median on the grid, as a stay where it passes the test.
unfoldable pub closed : Config → Bool → List Float → ℕ → State → State
closed s t ts i st = closed_as (stay_test t s (i - st.start) (elapsed t ts st.start (i - 1))) (point_on_grid s.min_spatial_resolution (mid_of st)) i st

-- One fix: it joins the open group, or closes it and opens the next.
unfoldable pub step : (Point → Point → Float) → Config → Bool → List Float → Point → ℕ → State → State
step dist s t ts p i st = with_point p (cond (join_test t s (dist p (mid_of st)) (elapsed t ts (i - 1) i)) st (closed s t ts i st))

-- The slices hold the open group, its label places and one more median.
pub record Room (q i : ℕ) (o : Open) (work events : ℕ) : Type 0 where
  pub before : o.start < i
  pub group : i ≤ q
  pub places : i ≤ events
  pub parts : 4 * q ≤ work
  pub median : o.stays < q
  pub number : o.stays < 2 ^ 31

-- And the open group, in order, can grow.
pub record Ready (q i : ℕ) (o : Open) (w : List Float) (events : ℕ) : Type 0 where
  pub room : Room q i o (length w) events
  pub more : i < q
  pub x_order : in_order (take (i - o.start) (part 0 q w)) ≡ true
  pub y_order : in_order (take (i - o.start) (part q q w)) ≡ true
