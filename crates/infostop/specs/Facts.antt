-- The rules' starred facts, those of the grid and of empty traces among them, proved together about the definitions by computing them.
use Rattle.std.specs.Prelude.{◌≡◌, refl, true, [], ◌∷◌, pos}
use Rattle.std.specs.Float.{binary64}
use Rattle.std.specs.Float.Ieee.{eq, ne, neg, of_bits, to_bits, is_nan}
use Rattle.float.specs.Binary64.{whole64, zero64, one64, finite, same_bits}
use Rattle.float.specs.Root.{root}
use Rattle.float.specs.Examples as float_examples
use Rattle.float.specs.Ln.{ln}
use Rattle.distance.specs.Limit.{within, in_limit}
use Rattle.distance.specs.Grid.{on_grid}
use Rattle.stay.specs.Ordered.{median}
use Rattle.stay.specs.Examples.{median_2_5}
use Rattle.trace.specs.Trace.{time_of, fixes, total, traces, fix_count}
use Rattle.stay.specs.Stays.{stay_medians, fix_medians, all_medians, all_fix_medians}
use Rattle.neighbors.specs.Places.{same_place, sighted, sighted_all, places, place_of}
use Rattle.rng.specs.Facts.{from_state_1, seeds_42_43}
use Rattle.rng.specs.Rng.{seeded, next_u64}
use Rattle.cluster.specs.Examples.{cluster_computed}
use Rattle.cluster.specs.Cluster.{none_labelled}
use Rattle.settings.specs.declared.refusal.Refusal.TheVariants.{TimeOrder}
use Rattle.settings.specs.Checks.{refuse_if, first_of, in_turn, each_of, each_from}
use Rattle.settings.specs.Tries.{with_step}
use Rattle.settings.specs.Settings.{unusable, negative, out_of_bounds, check_time_bounds, check_resolution, check_config}
use Rattle.checks.specs.Traces.{finite_point, finite_time, check_fix, untimed, partly_timed, above, above_first, in_time_order, check_times, check_trace, check_fix_size, check_size}
use Rattle.checks.specs.Tracks.{same_lengths, check_lengths, check_counts, check_work, check_mark, check_contents, check_tracks}
use Rattle.cluster.specs.FixLabels.{label_for, fix_labels}
use Rattle.infostop.specs.Fit.{refused, unless_none, given_by, from_places, from_medians, fit_traces, unless_refused, fit}
use Rattle.infostop.specs.Tries.{at, at_time, twice, fit_with, fit_of, number, labels, result_of, places_of, place_count, pair_links}

-- Of numbers.
pub record NumberFacts : Type 0 where
  -- sqrt(25) = 5; sqrt(2) has bits 3FF6A09E667F3BCD.
  pub root_25 : root binary64 (of_bits binary64 0x4039_0000_0000_0000) ≡ of_bits binary64 0x4014_0000_0000_0000
  pub root_2 : to_bits binary64 (root binary64 (of_bits binary64 0x4000_0000_0000_0000)) ≡ 0x3FF6_A09E_667F_3BCD
  -- ln(1) = 0.
  pub ln_1 : ln one64 ≡ zero64
  -- From state 1 the generator gives 1082269761.
  pub generator : next_u64 1 ≡ 1082269761
  -- Seeds 42 and 43 agree (lowest bit set).
  pub seeds : seeded 42 ≡ seeded 43
  -- Median of 1, 2, 3, 10 is 2.5.
  pub middle : median (whole64 1 ∷ whole64 2 ∷ whole64 3 ∷ whole64 10 ∷ []) ≡ of_bits binary64 0x4004_0000_0000_0000

-- Of tracks: the settings are 10 10 1 300 86400 2 42.
pub record TrackFacts : Type 0 where
  -- (0,0),(6,8): 0 0.
  pub near : result_of (fit_of ((at 0 0 ∷ at 6 8 ∷ []) ∷ [])) ≡ labels (pos 0 ∷ pos 0 ∷ [])
  -- (0,0),(6,9): 18.
  pub far : result_of (fit_of ((at 0 0 ∷ at 6 9 ∷ []) ∷ [])) ≡ number 18
  -- One fix: 18.
  pub one : result_of (fit_of ((at 0 0 ∷ []) ∷ [])) ≡ number 18
  -- (0,0) twice, times 0, 300: 0 0; 0, 299: 18; 0, 86400: 0 0.
  pub after_300 : result_of (fit_of ((at_time 0 0 0 ∷ at_time 0 0 300 ∷ []) ∷ [])) ≡ labels (pos 0 ∷ pos 0 ∷ [])
  pub after_299 : result_of (fit_of ((at_time 0 0 0 ∷ at_time 0 0 299 ∷ []) ∷ [])) ≡ number 18
  pub after_86400 : result_of (fit_of ((at_time 0 0 0 ∷ at_time 0 0 86400 ∷ []) ∷ [])) ≡ labels (pos 0 ∷ pos 0 ∷ [])
  -- Two traces of (0,0) twice: one place, all 0.
  pub one_place : place_count (fit_of (twice (at 0 0) ∷ twice (at 0 0) ∷ [])) ≡ 1
  pub all_zero : result_of (fit_of (twice (at 0 0) ∷ twice (at 0 0) ∷ [])) ≡ labels (pos 0 ∷ pos 0 ∷ pos 0 ∷ pos 0 ∷ [])
  -- (0,0) twice; (10,0) twice: two places, linked, all 0.
  pub two_places : place_count (fit_of (twice (at 0 0) ∷ twice (at 10 0) ∷ [])) ≡ 2
  pub they_link : pair_links (fit_of (twice (at 0 0) ∷ twice (at 10 0) ∷ [])) ≡ true
  pub linked_pair_lem : result_of (fit_of (twice (at 0 0) ∷ twice (at 10 0) ∷ [])) ≡ labels (pos 0 ∷ pos 0 ∷ pos 0 ∷ pos 0 ∷ [])

-- Of the grid.
pub record GridFacts : Type 0 where
  -- With step 1: 2.5 gives 3, -2.5 gives -3, -0.3 gives -0.0, 0.49999999999999994 gives 0.0.
  pub half : on_grid one64 (of_bits binary64 0x4004_0000_0000_0000) ≡ whole64 3
  pub minus_half : on_grid one64 (of_bits binary64 0xC004_0000_0000_0000) ≡ neg (whole64 3)
  pub minus_zero : on_grid one64 (of_bits binary64 0xBFD3_3333_3333_3333) ≡ of_bits binary64 0x8000_0000_0000_0000
  pub below_half : on_grid one64 (of_bits binary64 0x3FDF_FFFF_FFFF_FFFF) ≡ zero64
  -- (8,0) twice; (10,0) twice, with step 7: one place, (7,0), with count 2, and all 0. With the grid off: two places.
  pub together : places_of (fit_with (with_step (whole64 7)) (twice (at 8 0) ∷ twice (at 10 0) ∷ [])) ≡ record { at = record { x = whole64 7; y = zero64 }; count = 2 } ∷ []
  pub one_label : result_of (fit_with (with_step (whole64 7)) (twice (at 8 0) ∷ twice (at 10 0) ∷ [])) ≡ labels (pos 0 ∷ pos 0 ∷ pos 0 ∷ pos 0 ∷ [])
  pub apart : place_count (fit_of (twice (at 8 0) ∷ twice (at 10 0) ∷ [])) ≡ 2

-- Of empty traces.
pub record EmptyFacts : Type 0 where
  -- An empty trace; (0,0) twice; an empty trace: 0 0.
  pub around : result_of (fit_of ([] ∷ twice (at 0 0) ∷ [] ∷ [])) ≡ labels (pos 0 ∷ pos 0 ∷ [])
  -- Two empty traces: 18. No trace: 7.
  pub only_empty : result_of (fit_of ([] ∷ [] ∷ [])) ≡ number 18
  pub no_trace : result_of (fit_of []) ≡ number 7
  -- An empty trace; (0,0) twice at times 10, 9: 15, trace 1.
  pub counted : fit_of ([] ∷ (at_time 0 0 10 ∷ at_time 0 0 9 ∷ []) ∷ []) ≡ refused (TimeOrder 1)

pub numbers : NumberFacts
numbers = record { root_25 = float_examples.root_25; root_2 = float_examples.root_2; ln_1 = float_examples.ln_1; generator = from_state_1; seeds = seeds_42_43; middle = median_2_5 }

-- What is computed: to unfold this is to unfold all that it names.
unfoldable pub fit_computed : Unit {0}
unfolding cluster_computed eq ne to_bits is_nan finite same_bits within in_limit time_of fixes total traces fix_count stay_medians fix_medians all_medians
    all_fix_medians same_place sighted sighted_all places place_of label_for fix_labels none_labelled refuse_if first_of in_turn each_of each_from unusable
    negative out_of_bounds check_time_bounds check_resolution check_config finite_point finite_time check_fix untimed partly_timed above above_first in_time_order check_times check_trace check_fix_size
    check_size same_lengths check_lengths check_counts check_work check_mark check_contents check_tracks unless_none given_by from_places from_medians fit_traces
    unless_refused fit
fit_computed = tt

pub tracks : TrackFacts
unfolding fit_computed
tracks =
    record {
      near = refl;
      far = refl;
      one = refl;
      after_300 = refl;
      after_299 = refl;
      after_86400 = refl;
      one_place = refl;
      all_zero = refl;
      two_places = refl;
      they_link = refl;
      linked_pair_lem = refl;
    }

pub grid : GridFacts
unfolding fit_computed
grid = record { half = refl; minus_half = refl; minus_zero = refl; below_half = refl; together = refl; one_label = refl; apart = refl }

pub empty : EmptyFacts
unfolding fit_computed
empty = record { around = refl; only_empty = refl; no_trace = refl; counted = refl }
