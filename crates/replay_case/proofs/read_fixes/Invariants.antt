-- `replay_case::read_fixes` meets its contract: the fixes so far are in the columns.
use Rattle.std.proofs.Common.{◌≡◌, ◌+◌, ◌*◌}
use Rattle.replay.specs.Numbers.{number_at, past}
use Rattle.replay_case.specs.Case.{float_at, mark_of, filled}
use Rattle.replay_case.proofs.read_fixes.Given as goal

abbrev pub invariant-loop-i : goal.invariant-loop-i
invariant-loop-i l = let t = l.fn.list.text.now in let at = l.fn.list.at in record {
  xs_read : l.xs ≡ filled (λ k. float_at t at (4 * k)) l.i l.fn.xs;
  ys_read : l.ys ≡ filled (λ k. float_at t at (4 * k + 1)) l.i l.fn.ys;
  marks_read : l.marks ≡ filled (λ k. mark_of (number_at t at (4 * k + 2))) l.i l.fn.marks;
  times_read : l.times ≡ filled (λ k. float_at t at (4 * k + 3)) l.i l.fn.times;
  place : l.list ≡ past l.fn.list (4 * l.i);
}
