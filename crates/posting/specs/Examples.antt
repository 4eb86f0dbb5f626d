-- The posting sheet of a few labels, its pages and its refusals. Proved by computing.
use Rattle.std.specs.Prelude.{◌≡◌, refl, ℕ, ◌*◌, pos, negsuc, length, replicate, Ok, Err}
use mathlib.Core.List.{List, [], ◌∷◌, flatten}
use Rattle.lists.specs.Lists.{from, upto}
use Rattle.settings.specs.declared.refusal.Refusal.TheVariants.{NoTrace, Lengths, Counts, Output}
use Rattle.settings.specs.Checks.{refuse_if, first_of, in_turn}
use Rattle.trace.specs.Trace.{total}
use Rattle.checks.specs.Tracks.{same_lengths, check_lengths, check_counts}
use Rattle.text.specs.Bytes.{bytes}
use Rattle.print.specs.Lines.{digits, decimal, label_text}
use Rattle.posting.specs.Sheet.{entry, trace_entries, entries, right_aligned, entry_line, heading, page, page_count, pages, sheet}
use Rattle.posting.specs.Posted.{in_column, all_in_column, check_sheet}
use Rattle.posting.specs.Meaning.{line_at}

-- What is computed below: to unfold this is to unfold all that it names.
unfoldable computed : Unit {0}
unfolding from upto flatten bytes digits decimal label_text trace_entries entries right_aligned entry_line heading page page_count pages sheet in_column all_in_column
    refuse_if first_of in_turn total same_lengths check_lengths check_counts check_sheet
computed = tt

-- ---- lines

one_fix : sheet (1 ∷ []) (pos 0 ∷ []) ≡ bytes "TRC   FIX LBL\n  0     0   0\n"
unfolding computed
one_fix = refl

-- Fix counts within its trace, and an empty trace has no line.
three_traces : sheet (2 ∷ 0 ∷ 1 ∷ []) (pos 9 ∷ negsuc 0 ∷ pos 10 ∷ []) ≡ bytes "TRC   FIX LBL\n  0     0   9\n  0     1  -1\n  2     0  10\n"
unfolding computed
three_traces = refl

widest : entry_line (entry 255 65535 (pos 511)) ≡ bytes "255 65535 511\n"
unfolding computed
widest = refl

-- ---- pages

zeros : ℕ → List ℕ
unfolding computed
zeros n = sheet (n ∷ []) (replicate n (pos 0))

full_page : length (zeros 60) ≡ 14 * 61
unfolding zeros
full_page = refl

-- The 61st fix stands on the second page, below its heading.
second_page : length (zeros 61) ≡ 14 * 63
unfolding zeros
second_page = refl

second_heading : line_at 61 (zeros 61) ≡ bytes "TRC   FIX LBL\n"
unfolding zeros bytes
second_heading = refl

sixty_first : line_at 62 (zeros 61) ≡ bytes "  0    60   0\n"
unfolding zeros bytes
sixty_first = refl

-- Without a fix there is no page.
no_fix : sheet (0 ∷ []) [] ≡ []
unfolding computed
no_fix = refl

-- ---- refusals

-- 7; 8; 8 where the lengths wrap to the number of labels; 9 for 257 traces; 21 for an output that is a byte short, and for labels outside -1 to 511
no_trace : check_sheet [] [] 0 ≡ Err NoTrace
unfolding computed
no_trace = refl

lengths_differ : check_sheet (2 ∷ []) (pos 0 ∷ []) 42 ≡ Err Lengths
unfolding computed
lengths_differ = refl

lengths_wrap : check_sheet (18446744073709551615 ∷ 2 ∷ []) (pos 0 ∷ []) 42 ≡ Err Lengths
unfolding computed
lengths_wrap = refl

many_traces : check_sheet (replicate 257 0) [] 42 ≡ Err Counts
unfolding computed
many_traces = refl

enough : check_sheet (1 ∷ []) (pos 511 ∷ []) 28 ≡ Ok tt
unfolding computed
enough = refl

byte_short : check_sheet (1 ∷ []) (pos 511 ∷ []) 27 ≡ Err Output
unfolding computed
byte_short = refl

label_512 : check_sheet (1 ∷ []) (pos 512 ∷ []) 28 ≡ Err Output
unfolding computed
label_512 = refl

label_below : check_sheet (1 ∷ []) (negsuc 1 ∷ []) 28 ≡ Err Output
unfolding computed
label_below = refl

-- An empty sheet is given to an output without room.
empty_sheet : check_sheet (0 ∷ []) [] 0 ≡ Ok tt
unfolding computed
empty_sheet = refl
