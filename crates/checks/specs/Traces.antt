-- The checks of one trace, of number k: the rules' refusals 12 to 16. An empty trace has none of them. Definitions only.
use Rattle.std.specs.Prelude.{ℕ, Bool, true, false, not, ◌&&◌, List, [], ◌∷◌, Float}
use Rattle.std.proofs.Math.Option.{Option, none, some}
use Rattle.std.specs.Float.Ieee.{lt}
use Rattle.float.specs.Binary64.{finite}
use Rattle.distance.specs.declared.Point.{Point}
use Rattle.distance.specs.Limit.{in_limit}
use Rattle.trace.specs.Trace.{Fix, has_time, timed}
use Rattle.settings.specs.declared.refusal.Refusal.TheVariants.{Coordinate, Timestamp, PartlyTimed, TimeOrder, CoordinateSize}
use Rattle.settings.specs.Checks.{Checked, refuse_if, in_turn, each_of}

-- Both coordinates are finite.
unfoldable pub finite_point : Point → Bool
finite_point p = finite p.x && finite p.y

-- A time that is there is finite.
unfoldable pub finite_time : Option Float → Bool
finite_time none = true
finite_time (some t) = finite t

-- One fix: 12 before 13.
unfoldable pub check_fix : ℕ → Fix → Checked
check_fix k f = in_turn (refuse_if (not (finite_point f.at)) (Coordinate k) ∷ refuse_if (not (finite_time f.time)) (Timestamp k) ∷ [])

-- No fix is timed.
unfoldable pub untimed : List Fix → Bool
untimed [] = true
untimed (f ∷ fs) = not (has_time f.time) && untimed fs

-- Some fixes are timed, some not.
unfoldable pub partly_timed : List Fix → Bool
partly_timed t = not (timed t) && not (untimed t)

-- A time above the next.
unfoldable pub above : Option Float → Option Float → Bool
above none u = false
above (some t) none = false
above (some t) (some u) = lt u t

unfoldable pub above_first : Option Float → List Fix → Bool
above_first t [] = false
above_first t (f ∷ fs) = above t f.time

-- No time is above the next.
unfoldable pub in_time_order : List Fix → Bool
in_time_order [] = true
in_time_order (f ∷ fs) = not (above_first f.time fs) && in_time_order fs

-- 14, 15.
unfoldable pub check_times : ℕ → List Fix → Checked
check_times k t = in_turn (refuse_if (partly_timed t) (PartlyTimed k) ∷ refuse_if (not (in_time_order t)) (TimeOrder k) ∷ [])

-- One trace: fix by fix 12 before 13, then 14, 15.
unfoldable pub check_trace : ℕ → List Fix → Checked
check_trace k t = in_turn (each_of (check_fix k) t ∷ check_times k t ∷ [])

-- One fix: 16. The size limit is a constant of crate `distance`.
unfoldable pub check_fix_size : ℕ → Fix → Checked
check_fix_size k f = refuse_if (not (in_limit f.at)) (CoordinateSize k)

unfoldable pub check_size : ℕ → List Fix → Checked
check_size k t = each_of (check_fix_size k) t
