-- The machine that takes a text byte by byte, as the code does. `Form` and `Values` say in lines and fields what it takes, and proofs/Reading.antt joins
-- the two.
use Rattle.std.specs.Prelude.{◌≡◌, ℕ, ◌+◌, ◌-◌, ◌*◌, Bool, true, false, cond, not, ◌&&◌, ◌||◌, List, [], ◌∷◌, length, replicate, ◌==◌, nat_le, nat_lt, slice_index, slice_index_or, set, Float, Some, None, is_some, is_none, unwrap_or}
use Rattle.std.specs.Float.Ieee.{neg}
use Rattle.float.specs.Binary64.{zero64, whole64}
use Rattle.settings.specs.declared.config.Config.{Config}
use Rattle.text.specs.declared.Reader.{Reader}
use Rattle.text.specs.declared.state.State.{State}
use Rattle.text.specs.declared.state.Stage.{Stage}
use Rattle.text.specs.declared.state.Stage.TheVariants.{SettingNames, Settings, FixNames, Fixes, Outside}
use Rattle.text.specs.declared.field.Sign.{Sign}
use Rattle.text.specs.declared.field.Sign.TheVariants.{Natural, Negative, Dash, Empty}
use Rattle.text.specs.declared.field.Field.{Field}
use Rattle.text.specs.Bytes.{is_digit, line_feed, space, minus_sign}
use Rattle.text.specs.Form.{setting_names, fix_names}
use Rattle.text.specs.Values.{Columns}

-- ---- the state

-- Before the first byte.
unfoldable pub initial : State
initial = record { stage = SettingNames; k = 0; minus = false; value = None; fixes = 0; traces = 0; len = 0 }

-- Not in the form, from here on.
unfoldable pub refused : State → State
refused s = record { stage = Outside; k = s.k; minus = s.minus; value = s.value; fixes = s.fixes; traces = s.traces; len = s.len }

-- At the start of field or byte k of the stage g.
unfoldable pub begun : State → Stage → ℕ → State
begun s g k = record { stage = g; k = k; minus = false; value = None; fixes = s.fixes; traces = s.traces; len = s.len }

-- After a minus.
unfoldable pub signed : State → State
signed s = record { stage = s.stage; k = s.k; minus = true; value = s.value; fixes = s.fixes; traces = s.traces; len = s.len }

-- After digits of value v.
unfoldable pub grown : State → ℕ → State
grown s v = record { stage = s.stage; k = s.k; minus = s.minus; value = Some v; fixes = s.fixes; traces = s.traces; len = s.len }

-- The stage of the settings, and that of the fixes.
abbrev pub in_settings : Stage → Bool
in_settings SettingNames = false
in_settings Settings = true
in_settings FixNames = false
in_settings Fixes = false
in_settings Outside = false

abbrev pub in_fixes : Stage → Bool
in_fixes SettingNames = false
in_fixes Settings = false
in_fixes FixNames = false
in_fixes Fixes = true
in_fixes Outside = false

-- The text may end here: after the names of a fix, or after a fix.
unfoldable pub ended : State → Bool
ended s = in_fixes s.stage && s.k == 7 && not s.minus && is_none s.value

-- ---- a byte of a line

-- Byte k of a line of names, after which field k₁ of the stage g begins.
unfoldable pub name_byte : List ℕ → Stage → ℕ → State → ℕ → State
name_byte names g k₁ s b =
    cond (nat_lt s.k (length names) && b == slice_index names s.k)
    (cond (nat_lt (s.k + 1) (length names)) (begun s s.stage (s.k + 1)) (begun s g k₁))
    (refused s)

-- The value of a field's digits with the digit b behind them; before the first digit they count as 0.
abbrev pub with_digit : State → ℕ → ℕ
with_digit s b = unwrap_or s.value 0 * 10 + (b - 48)

-- A byte within a field: a minus at its start, or a digit.
unfoldable pub field_byte : State → ℕ → State
field_byte s b =
    cond (b == minus_sign)
    (cond (s.minus || is_some s.value) (refused s) (signed s))
    (cond (is_digit b && nat_le (with_digit s b) 1000000000) (grown s (with_digit s b)) (refused s))

-- How a field ends: a number that is not negative (-0 is one), a negative one, a minus alone, or nothing.
unfoldable pub field_sign : State → Sign
field_sign s = elim s.value [ Some v ↦ cond (s.minus && not (v == 0)) Negative Natural | None ↦ cond s.minus Dash Empty ]

-- A number, negative or not.
abbrev pub whole_sign : Sign → Bool
whole_sign Natural = true
whole_sign Negative = true
whole_sign Dash = false
whole_sign Empty = false

abbrev pub natural_sign : Sign → Bool
natural_sign Natural = true
natural_sign Negative = false
natural_sign Dash = false
natural_sign Empty = false

abbrev pub empty_sign : Sign → Bool
empty_sign Natural = false
empty_sign Negative = false
empty_sign Dash = false
empty_sign Empty = true

-- The byte that ends field k of a line whose last field is `last`, and the field after it.
unfoldable pub end_of : ℕ → ℕ → ℕ
end_of last k = cond (nat_lt k last) space line_feed

unfoldable pub after : ℕ → ℕ → ℕ
after last k = cond (nat_lt k last) (k + 1) (last + 1)

unfoldable pub ends : ℕ → State → ℕ → Bool
ends last s b = b == end_of last s.k

-- A byte of a line of values, and the fields after it.
unfoldable pub row_byte : ℕ → State → ℕ → State
row_byte last s b =
    cond (ends last s b)
    (cond (empty_sign (field_sign s)) (refused s) (begun s s.stage (after last s.k)))
    (field_byte s b)

unfoldable pub row_fields : ℕ → State → ℕ → List Field → List Field
row_fields last s b l = cond (ends last s b) (set l s.k (record { size = unwrap_or s.value 0; sign = field_sign s })) l

-- A byte by its stage. Fields 0 to 6 are the settings, 7 to 10 those of a fix.
unfoldable pub lexed : State → ℕ → State
lexed s b = elim s.stage [
  | SettingNames ↦ name_byte setting_names Settings 0 s b
  | Settings ↦ row_byte 6 s b
  | FixNames ↦ name_byte fix_names Fixes 7 s b
  | Fixes ↦ row_byte 10 s b
  | Outside ↦ s
]

unfoldable pub lexed_fields : State → ℕ → List Field → List Field
lexed_fields s b l = elim s.stage [
  | SettingNames ↦ l
  | Settings ↦ row_fields 6 s b l
  | FixNames ↦ l
  | Fixes ↦ row_fields 10 s b l
  | Outside ↦ l
]

-- ---- a line, when it is whole

unfoldable pub set_line : State → Bool
set_line s = in_settings s.stage && s.k == 7

unfoldable pub fix_line : State → Bool
fix_line s = in_fixes s.stage && s.k == 11

-- A field before it was read.
abbrev pub unread : Field
unread = record { size = 0; sign = Natural }

abbrev pub field_at : List Field → ℕ → Field
field_at fs i = slice_index_or fs i unread

-- The settings: no field is a minus alone; `single` (2) is 0 or 1, `size` (5) and `seed` (6) are not negative.
unfoldable pub settings_ok : List Field → Bool
settings_ok fs =
    whole_sign (field_at fs 0).sign && whole_sign (field_at fs 1).sign && natural_sign (field_at fs 2).sign && nat_le (field_at fs 2).size 1
    && whole_sign (field_at fs 3).sign && whole_sign (field_at fs 4).sign && natural_sign (field_at fs 5).sign && natural_sign (field_at fs 6).sign

unfoldable pub settled : List Field → State → State
settled fs s = cond (settings_ok fs) (begun s FixNames 0) (refused s)

-- A fix: trace, x and y are numbers, and the trace is the next one, or the last again.
unfoldable pub fix_ok : List Field → State → Bool
fix_ok fs s =
    nat_le (field_at fs 7).size 1000000000 && natural_sign (field_at fs 7).sign && whole_sign (field_at fs 8).sign && whole_sign (field_at fs 9).sign
    && ((field_at fs 7).size == s.traces || (field_at fs 7).size + 1 == s.traces)

-- One more, up to 769, which stands for more than 768.
unfoldable pub more : ℕ → ℕ
more n = cond (nat_lt n 769) (n + 1) n

-- After a fix of trace t: the number of fixes, of traces, and of fixes in the last trace.
unfoldable pub counted : ℕ → State → State
counted t s =
    record { stage = Fixes; k = 7; minus = false; value = None; fixes = more s.fixes; traces = t + 1; len = cond (t == s.traces) 1 (more s.len) }

unfoldable pub noted : List Field → State → State
noted fs s = cond (fix_ok fs s) (counted (field_at fs 7).size s) (refused s)

unfoldable pub judged : List Field → State → State
judged fs s = cond (set_line s) (settled fs s) (cond (fix_line s) (noted fs s) s)

-- A fix was taken, one of the first 768.
unfoldable pub stored : State → State → Bool
stored t r = fix_line t && in_fixes r.stage && nat_lt t.fixes 768

-- ---- the machine

-- A field as a float; and the time mark of one.
unfoldable pub signed_whole : Field → Float
signed_whole f = elim f.sign [ Natural ↦ whole64 f.size | Negative ↦ neg (whole64 f.size) | Dash ↦ whole64 f.size | Empty ↦ whole64 f.size ]

unfoldable pub sign_mark : Sign → ℕ
sign_mark Natural = 1
sign_mark Negative = 1
sign_mark Dash = 0
sign_mark Empty = 1

-- The state, the fields of the settings and of the last fix line, and the tracks.
pub record Machine : Type 0 where
  pub at : State
  pub fields : List Field
  pub xs : List Float
  pub ys : List Float
  pub times : List Float
  pub marks : List ℕ
  pub lens : List ℕ

abbrev pub machine : State → List Field → List Float → List Float → List Float → List ℕ → List ℕ → Machine
machine s fields xs ys times marks lens = record { at = s; fields = fields; xs = xs; ys = ys; times = times; marks = marks; lens = lens }

-- Set, where the test holds.
unfoldable pub set_if : {A : Type 0} → Bool → List A → ℕ → A → List A
set_if true l i a = set l i a
set_if false l i a = l

-- One byte.
unfoldable pub step : Machine → ℕ → Machine
step m b =
    let t = lexed m.at b in
    let fs = lexed_fields m.at b m.fields in
    let r = judged fs t in
    record {
      at = r;
      fields = fs;
      xs = set_if (stored t r) m.xs t.fixes (signed_whole (field_at fs 8));
      ys = set_if (stored t r) m.ys t.fixes (signed_whole (field_at fs 9));
      times = set_if (stored t r) m.times t.fixes (signed_whole (field_at fs 10));
      marks = set_if (stored t r) m.marks t.fixes (sign_mark (field_at fs 10).sign);
      lens = set_if (stored t r) m.lens (field_at fs 7).size r.len;
    }

-- A text.
unfoldable pub run : Machine → List ℕ → Machine
run m [] = m
run m (b ∷ bs) = run (step m b) bs

-- ---- the reader

-- Before the first byte.
unfoldable pub start_reader : Reader
unfolding initial
start_reader = record { state = initial; fields = replicate 11 unread }

-- The reader with the slices that it fills.
abbrev pub holding : Reader → Columns → Machine
holding r c = machine r.state r.fields c.xs c.ys c.times c.marks c.lens

-- From the slices c the reader has been given the text t, in however many pieces, and holds r and the slices c'.
pub record Fed (c : Columns) (t : List ℕ) (r : Reader) (c' : Columns) : Type 0 where
  pub fed : holding r c' ≡ run (holding start_reader c) t

-- The settings that it holds.
unfoldable pub config_in : List Field → Config
config_in fs = record {
  r1 = signed_whole (field_at fs 0);
  r2 = signed_whole (field_at fs 1);
  label_singleton = ((field_at fs 2).size == 1);
  min_staying_time = signed_whole (field_at fs 3);
  max_time_between = signed_whole (field_at fs 4);
  min_size = (field_at fs 5).size;
  min_spatial_resolution = zero64;
  seed = (field_at fs 6).size;
}
