-- What a text in the house form says: settings, and fixes with their traces; and the columns that a fit is given.
use Rattle.std.specs.Prelude.{ℕ, zero, suc, List, [], ◌∷◌, map, ◌==◌, slice_index_or, Float}
use Rattle.std.proofs.Math.Option.{Option, none, some}
use Rattle.float.specs.Binary64.{zero64, whole64}
use Rattle.settings.specs.declared.config.Config.{Config}
use Rattle.text.specs.Fields.{Field, bad, size_of, float_of, field_time}
use Rattle.text.specs.Form.{Lines, lines_of, trace_number}

-- r1 r2 single stay gap size seed. The grid is off.
unfoldable pub config_of : List Field → Config
config_of fs = record {
  r1 = float_of (slice_index_or fs 0 bad);
  r2 = float_of (slice_index_or fs 1 bad);
  label_singleton = (size_of (slice_index_or fs 2 bad) == 1);
  min_staying_time = float_of (slice_index_or fs 3 bad);
  max_time_between = float_of (slice_index_or fs 4 bad);
  min_size = size_of (slice_index_or fs 5 bad);
  min_spatial_resolution = zero64;
  seed = size_of (slice_index_or fs 6 bad);
}

pub record FixLine : Type 0 where
  pub trace : ℕ
  pub x : Float
  pub y : Float
  pub time : Option Float

-- trace x y time.
unfoldable pub fix_of : List Field → FixLine
fix_of fs = record { trace = trace_number fs; x = float_of (slice_index_or fs 1 bad); y = float_of (slice_index_or fs 2 bad); time = field_time (slice_index_or fs 3 bad) }

-- A text is outside the form, or it says this.
pub data Read : Type 0 where
  outside : Read
  inside : Config → List FixLine → Read

unfoldable pub values_of : Option Lines → Read
values_of none = outside
values_of (some l) = inside (config_of l.settings) (map fix_of l.fixes)

unfoldable pub read : List ℕ → Read
read t = values_of (lines_of t)

-- ---- the columns

unfoldable pub time_value : Option Float → Float
time_value none = whole64 0
time_value (some t) = t

unfoldable pub time_mark : Option Float → ℕ
time_mark none = 0
time_mark (some t) = 1

abbrev pub xs_of : List FixLine → List Float
xs_of = map (λ (l : FixLine). l.x)

abbrev pub ys_of : List FixLine → List Float
ys_of = map (λ (l : FixLine). l.y)

abbrev pub times_of : List FixLine → List Float
times_of = map (λ (l : FixLine). time_value l.time)

abbrev pub marks_of : List FixLine → List ℕ
marks_of = map (λ (l : FixLine). time_mark l.time)

-- Trace lengths with one fix more in trace t, the next one or one that is there.
unfoldable pub with_fix : List ℕ → ℕ → List ℕ
with_fix [] t = 1 ∷ []
with_fix (n ∷ ns) zero = suc n ∷ ns
with_fix (n ∷ ns) (suc t) = n ∷ with_fix ns t

unfoldable pub lengths_from : List ℕ → List FixLine → List ℕ
lengths_from ns [] = ns
lengths_from ns (l ∷ ls) = lengths_from (with_fix ns l.trace) ls

-- The lengths of the traces: each line is a fix of its trace.
unfoldable pub lengths_of : List FixLine → List ℕ
lengths_of ls = lengths_from [] ls

-- The slices that take the columns.
pub record Columns : Type 0 where
  pub xs : List Float
  pub ys : List Float
  pub times : List Float
  pub marks : List ℕ
  pub lens : List ℕ

abbrev pub columns : List Float → List Float → List Float → List ℕ → List ℕ → Columns
columns xs ys times marks lens = record { xs = xs; ys = ys; times = times; marks = marks; lens = lens }
