-- `posting::lines::put_trace` meets its contract.
-- Kept: the check does not find what stands here, also with the lemmas named on the function.
use native.Mathlib.Omega.{arith}
use lib.ListN.{get_or}
use lib.IntN.{pos}
use mir.Facts.{to_z-of_z}
use mir.Syntax.{w32}
use mir.Val.{SFits}
use borrow.Author.Rules.{rules}
use Rattle.posting.proofs.Within.{label_at}
use Rattle.posting.proofs.lines.put_trace.Goals as goal

pub put_fix-requires : goal.put_fix-requires
put_fix-requires c =
    let fits : SFits w32 (get_or c.args.labels.now c.loop-f.f (pos 0)) = search rules in
    let labels = c.args.labels.now in
    let f = c.loop-f.f in
    rw (to_z-of_z {w = w32} fits)
    record {
      trace_within = c.requires.few_traces;
      fix_within = omega (arith, c.requires.few_fixes, c.loop-f-test.true);
      label_within = label_at labels f c.requires.labels_within c.loop-f-test.true;
    }
