-- `posting::columns::put_fix` meets its contract.
-- Kept: the check does not find what stands here, also with the lemmas named on the function.
use mir.Facts.{to_z-of_z}
use Rattle.print.specs.Steps.{Wrote}
use Rattle.print.proofs.Pushes.{wrote_then}
use Rattle.posting.specs.Sheet.{heading, entry, entry_line}
use Rattle.posting.proofs.LinesFrom.{first_of_page, within_page}
use Rattle.posting.proofs.columns.put_fix.Goals.{then-i-eq0, else-i-eq0}
use Rattle.posting.proofs.columns.put_fix.Goals as goal

pub returns : goal.returns
unfolding heading
returns c =
    let line : Wrote c.if-i-eq0.out c.put_line.new.out (entry_line (entry c.args.t c.args.f c.args.l)) = rw (to_z-of_z c.ranges.l) at c.put_line.ensures in
    elim c.if-i-eq0.branch [
      | then-i-eq0 w ↦ rw (first_of_page _ _ w.if-i-eq0.true) (wrote_then _ _ _ _ _ w.push_all.ensures (rw w.out-is at line))
      | else-i-eq0 w ↦ rw (within_page _ _ w.if-i-eq0.false) (rw w.out-is at line)
    ]
