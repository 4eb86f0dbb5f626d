-- Serves the contracts of this crate's own functions; no public contract reaches it.
-- What is read of the head of a case. Definitions only.
use Rattle.std.specs.Prelude.{◌≡◌, ℕ, List, Option, Some, None, cond, eqb}
use Rattle.replay.specs.Numbers.{skip, number_at}
use Rattle.replay_case.specs.Case.{settings_at}
use Rattle.replay_visits.specs.declared.read.Head.{Head}
use Rattle.replay_visits.specs.declared.read.Slice.{Slice}
use Rattle.replay_visits.specs.declared.read.Slice.TheVariants.{Xs, Ys, Times, Marks, AllColumns, Floats, Words, SecondOutput, Labels}

-- The slice that the list writes as n: no slice where n is 0 or above 9.
unfoldable pub slice_of : ℕ → Option Slice
slice_of n =
    cond (eqb n 1) (Some Xs)
    (cond (eqb n 2) (Some Ys)
    (cond (eqb n 3) (Some Times)
    (cond (eqb n 4) (Some Marks)
    (cond (eqb n 5) (Some AllColumns)
    (cond (eqb n 6) (Some Floats)
    (cond (eqb n 7) (Some Words)
    (cond (eqb n 8) (Some SecondOutput)
    (cond (eqb n 9) (Some Labels) None))))))))

-- Settings, and the numbers behind them in their order, from the place i of the text t on; `next` is the place after them.
pub record HeadRead (t : List ℕ) (i : ℕ) (h : Head) (next : ℕ) : Type 0 where
  pub config : h.config ≡ settings_at t i
  pub trace : h.trace ≡ number_at t i 8
  pub room : h.room ≡ number_at t i 9
  pub short : h.short ≡ slice_of (number_at t i 10)
  pub traces : h.traces ≡ number_at t i 11
  pub fitted : h.fitted ≡ number_at t i 12
  pub until : h.until ≡ number_at t i 13
  pub place : next ≡ skip t i 14
