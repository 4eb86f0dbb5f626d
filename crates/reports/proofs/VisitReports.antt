-- What the visits of a trace are written from, by what the checks say.
use mathlib.Core.Path.{◌≡◌}
use mathlib.Core.List.{List}
use Prim.Native.Nat.{ℕ, ◌*◌, ◌≤◌}
use native.Mathlib.Omega.{arith}
use lib.ListN.{length}
use lib.Ieee.{Float}
use Rattle.std.specs.Prelude.{Ok}
use Rattle.checks.specs.Tracks.{check_report_tracks}
use Rattle.checks.proofs.Lengths.{Agreed}
use Rattle.checks.proofs.Accepted.{report_accepted}

-- Columns and trace lengths agree, and there is room for work.
pub record Fitting (xs ys ts : List Float) (ms lens : List ℕ) (floats words : ℕ) : Type 0 where
  pub agreed : Agreed lens (length xs) (length ys) (length ts) (length ms) (length xs)
  pub few : length xs ≤ 65536
  pub floats_room : 4 * length xs ≤ floats
  pub words_room : 4 * length xs ≤ words

pub fitting : (xs ys ts : List Float) (ms lens : List ℕ) (floats words : ℕ) → check_report_tracks xs ys ts ms lens floats words ≡ Ok tt
    → Fitting xs ys ts ms lens floats words
fitting xs ys ts ms lens floats words h =
    let a = report_accepted xs ys ts ms lens floats words h in
    record {
      agreed = a.0.agreed;
      few = a.0.few_fixes;
      floats_room = omega (arith, a.1.floats_length);
      words_room = omega (arith, a.1.words_length);
    }
