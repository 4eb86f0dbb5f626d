-- Texts that the definitions are tried on: the rules' example, and the edges of the form. Proved by computing.
use Rattle.std.specs.Prelude.{◌≡◌, ℕ, true, false, List, [], ◌∷◌, ◌++◌, refl, Float, Ok, Err}
use Rattle.std.proofs.Math.Option.{none, some, bind}
use Prim.Native.String.{String}
use Rattle.std.specs.Float.Ieee.{neg, le, of_int, of_bits}
use Rattle.float.specs.Binary64.{whole64, zero64, finite}
use Rattle.lists.specs.Lists.{overlay}
use Rattle.settings.specs.declared.config.Config.{Config}
use Rattle.settings.specs.declared.refusal.Refusal.TheVariants.{R1, Counts, Text}
use Rattle.settings.specs.Checks.{refuse_if, first_of, in_turn}
use Rattle.settings.specs.Settings.{unusable, negative, out_of_bounds, check_time_bounds, check_resolution, check_config}
use Rattle.settings.specs.Tries.{settings}
use Rattle.text.specs.Bytes.{bytes, is_digit}
use Rattle.text.specs.Fields.{all_digits, size_from, digits_of, after_minus, field_of, is_whole, is_natural, is_field, size_of, float_of, field_time}
use Rattle.text.specs.Form.{only_if, setting_names, fix_names, past, cut, row_of, setting_ends, fix_ends, settings_in, fix_in, unless_ended, fix_lines, lines_of}
use Rattle.text.specs.Values.{config_of, fix_of, Read, outside, inside, values_of, read, time_value, time_mark, with_fix, lengths_from, lengths_of, columns}
use Rattle.text.specs.Parsed.{Parsed, too_many, unless_many, at_most768, parsed, into, with_columns, filled}

-- What a text says, and what parsing hands back.
reads : List ℕ → Read
unfolding read values_of config_of fix_of lines_of fix_lines unless_ended fix_in settings_in fix_ends setting_ends row_of cut past only_if bind fix_names setting_names
    field_time float_of size_of is_field is_natural is_whole field_of after_minus digits_of size_from all_digits is_digit bytes neg of_int of_bits
reads t = read t

parses : List ℕ → Parsed
unfolding reads parsed at_most768 unless_many too_many lengths_of lengths_from with_fix check_config check_time_bounds check_resolution unusable negative out_of_bounds in_turn first_of refuse_if finite le
parses t = parsed (reads t)

-- Names and settings as in docs/RULES.md, and these lines of fixes.
fixes_of : String → List ℕ
unfolding bytes
fixes_of s = bytes "r1 r2 single stay gap size seed\n10 10 1 300 86400 2 42\ntrace x y time\n" ++ bytes s

-- These settings, and no fix.
settings_of : String → List ℕ
unfolding bytes
settings_of s = bytes "r1 r2 single stay gap size seed\n" ++ bytes s ++ bytes "trace x y time\n"

abbrev w : ℕ → Float
w = whole64

-- ---- the rules' example

example : List ℕ
unfolding bytes
example = bytes "r1 r2 single stay gap size seed\n10 10 1 300 86400 2 42\ntrace x y time\n0 0 0 -\n0 3 4 -\n"

example_reads : reads example ≡ inside settings (record { trace = 0; x = w 0; y = w 0; time = none } ∷ record { trace = 0; x = w 3; y = w 4; time = none } ∷ [])
unfolding reads example
example_reads = refl

example_parses : parses example ≡ Ok (record { config = settings; fixes = 2; traces = 1 })
unfolding parses example
example_parses = refl

-- The slices: two fixes of one trace, without times; behind them stays what was there.
example_slices : filled (parses example) (reads example) (columns (w 7 ∷ w 7 ∷ w 7 ∷ []) (w 8 ∷ w 8 ∷ []) (w 9 ∷ w 9 ∷ w 9 ∷ []) (7 ∷ 7 ∷ 7 ∷ []) (5 ∷ 5 ∷ []))
    ≡ columns (w 0 ∷ w 3 ∷ w 7 ∷ []) (w 0 ∷ w 4 ∷ []) (w 0 ∷ w 0 ∷ w 9 ∷ []) (0 ∷ 0 ∷ 7 ∷ []) (2 ∷ 5 ∷ [])
unfolding parses reads example filled with_columns into overlay time_value time_mark lengths_of lengths_from with_fix
example_slices = refl

-- ---- numbers

-- -0 is 0.0; zeros in front are digits; a time may be negative. Two traces.
minus_zero : reads (fixes_of "0 -0 007 -12\n1 1 1 5\n")
    ≡ inside settings (record { trace = 0; x = zero64; y = w 7; time = some (neg (w 12)) } ∷ record { trace = 1; x = w 1; y = w 1; time = some (w 5) } ∷ [])
unfolding reads fixes_of
minus_zero = refl

largest : reads (fixes_of "0 1000000000 -1000000000 -\n") ≡ inside settings (record { trace = 0; x = w 1000000000; y = neg (w 1000000000); time = none } ∷ [])
unfolding reads fixes_of
largest = refl

-- ---- not in the form

abbrev Outside : List ℕ → Type 0
Outside t = reads t ≡ outside

empty : Outside []
unfolding reads
empty = refl

too_large : Outside (fixes_of "0 1000000001 0 -\n")
unfolding reads fixes_of
too_large = refl

no_last_feed : Outside (fixes_of "0 0 0 -")
unfolding reads fixes_of
no_last_feed = refl

two_spaces : Outside (fixes_of "0  0 0 -\n")
unfolding reads fixes_of
two_spaces = refl

empty_field : Outside (fixes_of "0 0  -\n")
unfolding reads fixes_of
empty_field = refl

space_at_end : Outside (fixes_of "0 0 0 - \n")
unfolding reads fixes_of
space_at_end = refl

empty_line : Outside (fixes_of "\n")
unfolding reads fixes_of
empty_line = refl

three_fields : Outside (fixes_of "0 0 0\n0 -\n")
unfolding reads fixes_of
three_fields = refl

plus_sign : Outside (fixes_of "0 +1 0 -\n")
unfolding reads fixes_of
plus_sign = refl

-- Only a time may be a minus alone.
no_x : Outside (fixes_of "0 - 0 -\n")
unfolding reads fixes_of
no_x = refl

-- Traces rise from 0 without gaps.
trace_gap : Outside (fixes_of "0 0 0 -\n2 3 4 -\n")
unfolding reads fixes_of
trace_gap = refl

first_trace_1 : Outside (fixes_of "1 0 0 -\n")
unfolding reads fixes_of
first_trace_1 = refl

trace_back : Outside (fixes_of "0 0 0 -\n1 0 0 -\n0 0 0 -\n")
unfolding reads fixes_of
trace_back = refl

single_2 : Outside (settings_of "10 10 2 300 86400 2 42\n")
unfolding reads settings_of
single_2 = refl

negative_size : Outside (settings_of "10 10 1 300 86400 -2 42\n")
unfolding reads settings_of
negative_size = refl

negative_seed : Outside (settings_of "10 10 1 300 86400 2 -42\n")
unfolding reads settings_of
negative_seed = refl

names_swapped : Outside (bytes "r1 r2 single stay gap seed size\n10 10 1 300 86400 2 42\ntrace x y time\n")
unfolding reads bytes
names_swapped = refl

outside_parses : parses (fixes_of "0 0 0 -") ≡ Err Text
unfolding parses fixes_of
outside_parses = refl

-- ---- in the form

-- No fix line: a fit answers 7.
no_fix : parses (settings_of "10 10 1 300 86400 2 42\n") ≡ Ok (record { config = settings; fixes = 0; traces = 0 })
unfolding parses settings_of
no_fix = refl

-- Settings that the check refuses are in the form: -1, 0 and size 0.
negative_r1 : reads (settings_of "-1 0 0 300 86400 0 0\n")
    ≡ inside (record { r1 = neg (w 1); r2 = w 0; label_singleton = false; min_staying_time = w 300; max_time_between = w 86400; min_size = 0; min_spatial_resolution = zero64; seed = 0 }) []
unfolding reads settings_of
negative_r1 = refl

-- 769 fixes are 9, unless the settings are refused.
many : Config → Parsed
unfolding at_most768 unless_many too_many check_config check_time_bounds check_resolution unusable negative out_of_bounds in_turn first_of refuse_if finite le of_int of_bits
many c = at_most768 c 769 1

one_too_many : many settings ≡ Err Counts
unfolding many
one_too_many = refl

settings_first : many (record { r1 = w 0; r2 = w 10; label_singleton = true; min_staying_time = w 300; max_time_between = w 86400; min_size = 2; min_spatial_resolution = zero64; seed = 42 }) ≡ Err R1
unfolding many
settings_first = refl
