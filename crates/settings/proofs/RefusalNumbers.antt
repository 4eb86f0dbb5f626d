-- What the numbers of refusals say: none is 11, since an empty trace is taken as it is; 12 to 16 alone are about a trace; 18 and 19 alone come behind the checks.
-- A refusal of whatever call is one of the cases of `Refusal`, and its number is `number_of`.
use mathlib.Core.Path.{◌≡◌, refl, sym}
use mathlib.Core.Bool.{Bool, true, false, not, ◌&&◌, false≢true}
use mathlib.Core.Logic.{◌≢◌}
use borrow.Author.Tests.{eqb-true, eqb-false}
use lib.Dec.{eqb, leb}
use Rattle.settings.specs.declared.refusal.Refusal.{Refusal}
use Rattle.settings.specs.declared.refusal.Refusal.TheVariants.{R1, R2, MinStayingTime, MaxTimeBetween, TimeBounds, MinSize, NoTrace, Lengths, Counts, Work}
use Rattle.settings.specs.declared.refusal.Refusal.TheVariants.{Coordinate, Timestamp, PartlyTimed, TimeOrder, CoordinateSize, TimeMark, NoStop, TooManyPlaces, NotFitted, Output, Text, MinSpatialResolution, ResolutionBounds}
use Rattle.settings.specs.Refusals.{number_of, trace_of}

another : (e : Refusal) → eqb (number_of e) 11 ≡ false
another R1 = refl
another R2 = refl
another MinStayingTime = refl
another MaxTimeBetween = refl
another TimeBounds = refl
another MinSize = refl
another NoTrace = refl
another Lengths = refl
another Counts = refl
another Work = refl
another (Coordinate k) = refl
another (Timestamp k) = refl
another (PartlyTimed k) = refl
another (TimeOrder k) = refl
another (CoordinateSize k) = refl
another TimeMark = refl
another NoStop = refl
another TooManyPlaces = refl
another NotFitted = refl
another Output = refl
another Text = refl
another MinSpatialResolution = refl
another ResolutionBounds = refl

pub no_eleven : (e : Refusal) → number_of e ≢ 11
no_eleven e = eqb-false (number_of e) 11 (another e)

-- One of 12 to 16.
abbrev pub in_traces : Refusal → Bool
in_traces e = leb 12 (number_of e) && leb (number_of e) 16

-- Neither 18 nor 19.
abbrev pub early : Refusal → Bool
early e = not (eqb (number_of e) 18) && not (eqb (number_of e) 19)

pub no_trace : (e : Refusal) → in_traces e ≡ false → trace_of e ≡ 0
no_trace R1 h = refl
no_trace R2 h = refl
no_trace MinStayingTime h = refl
no_trace MaxTimeBetween h = refl
no_trace TimeBounds h = refl
no_trace MinSize h = refl
no_trace NoTrace h = refl
no_trace Lengths h = refl
no_trace Counts h = refl
no_trace Work h = refl
no_trace (Coordinate k) h = absurd (false≢true (sym h))
no_trace (Timestamp k) h = absurd (false≢true (sym h))
no_trace (PartlyTimed k) h = absurd (false≢true (sym h))
no_trace (TimeOrder k) h = absurd (false≢true (sym h))
no_trace (CoordinateSize k) h = absurd (false≢true (sym h))
no_trace TimeMark h = refl
no_trace NoStop h = refl
no_trace TooManyPlaces h = refl
no_trace NotFitted h = refl
no_trace Output h = refl
no_trace Text h = refl
no_trace MinSpatialResolution h = refl
no_trace ResolutionBounds h = refl

pub late_apart : (e : Refusal) → early e ≡ false → in_traces e ≡ false
late_apart e h = go (eqb (number_of e) 18) (eqb (number_of e) 19) refl refl h
  where
    go : (a b : Bool) → eqb (number_of e) 18 ≡ a → eqb (number_of e) 19 ≡ b → (not a && not b) ≡ false → in_traces e ≡ false
    go true b p q r = rw (eqb-true (number_of e) 18 p) refl
    go false true p q r = rw (eqb-true (number_of e) 19 q) refl
    go false false p q r = absurd (false≢true (sym r))
