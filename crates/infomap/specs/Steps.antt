-- Serves the contracts of this crate's own functions; no public contract reaches it.
use Rattle.std.specs.Prelude.{ℕ, List}
use Rattle.infomap.specs.Infomap.{Grouping, mark_of}
use Rattle.infomap.specs.declared.Kept.{Kept}

-- What the code's slice and answer stand for.
abbrev pub grouping_of : List ℕ → Kept → Grouping
grouping_of part k = record { partition = part; mark = mark_of k.mark; rounds = k.rounds; codelength = k.codelength }
