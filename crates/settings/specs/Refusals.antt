-- The numbers of docs/RULES.md, "When no labels are given", for each refusal, and the trace that it carries. Definitions only.
use Rattle.std.specs.Prelude.{ℕ}
use Rattle.settings.specs.declared.refusal.Refusal.{Refusal}
use Rattle.settings.specs.declared.refusal.Refusal.TheVariants.{R1, R2, MinStayingTime, MaxTimeBetween, TimeBounds, MinSize, NoTrace, Lengths, Counts, Work}
use Rattle.settings.specs.declared.refusal.Refusal.TheVariants.{Coordinate, Timestamp, PartlyTimed, TimeOrder, CoordinateSize, TimeMark, NoStop, TooManyPlaces, NotFitted, Output, Text, MinSpatialResolution, ResolutionBounds}

-- The first column of the table: in its words,
abbrev pub number_of : Refusal → ℕ
number_of R1 = 1  -- `r1` not finite or <= 0
number_of R2 = 2  -- `r2` likewise
number_of MinStayingTime = 3  -- `min_staying_time` likewise
number_of MaxTimeBetween = 4  -- `max_time_between` likewise
number_of TimeBounds = 5  -- `max_time_between` <= `min_staying_time`
number_of MinSize = 6  -- `min_size` <= 1
number_of NoTrace = 7  -- no trace
number_of Lengths = 8  -- fix slices or label slice differ in length, or trace lengths don't sum to it
number_of Counts = 9  -- over 256 traces or 65,536 fixes; `places` 0 or over 512
number_of Work = 10  -- work slice short
-- 11 is missing: it was that of an empty trace, which now means that nobody walked and is taken as it is (proofs/RefusalNumbers.antt: no refusal has it).
number_of (Coordinate k) = 12  -- coordinate not finite
number_of (Timestamp k) = 13  -- timestamp not finite
number_of (PartlyTimed k) = 14  -- some fixes timed, some not
number_of (TimeOrder k) = 15  -- a time above the next
number_of (CoordinateSize k) = 16  -- coordinate size over 10^9
number_of TimeMark = 17  -- time mark neither 0 nor 1
number_of NoStop = 18  -- no stop found
number_of TooManyPlaces = 19  -- more distinct medians than `places`
number_of NotFitted = 20  -- model not fitted
number_of Output = 21  -- output slice short, a trace number not in the list, or a label of a posting sheet outside -1 to 511
number_of Text = 22  -- text not in the program's form
number_of MinSpatialResolution = 23  -- `min_spatial_resolution` not finite or below zero
number_of ResolutionBounds = 24  -- `min_spatial_resolution` between zero and 2^-10, both excluded, or above 10^6

-- The trace number: 0 unless 12 to 16. It counts the empty traces.
abbrev pub trace_of : Refusal → ℕ
trace_of R1 = 0
trace_of R2 = 0
trace_of MinStayingTime = 0
trace_of MaxTimeBetween = 0
trace_of TimeBounds = 0
trace_of MinSize = 0
trace_of NoTrace = 0
trace_of Lengths = 0
trace_of Counts = 0
trace_of Work = 0
trace_of (Coordinate k) = k
trace_of (Timestamp k) = k
trace_of (PartlyTimed k) = k
trace_of (TimeOrder k) = k
trace_of (CoordinateSize k) = k
trace_of TimeMark = 0
trace_of NoStop = 0
trace_of TooManyPlaces = 0
trace_of NotFitted = 0
trace_of Output = 0
trace_of Text = 0
trace_of MinSpatialResolution = 0
trace_of ResolutionBounds = 0
