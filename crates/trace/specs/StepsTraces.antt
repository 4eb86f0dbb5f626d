-- Serves the contracts of this crate's own functions; no public contract reaches it.
-- The traces that an iterator over traces has still to give.
use Rattle.std.specs.Prelude.{ℕ, ◌+◌, List, [], ◌∷◌, take, drop}
use Rattle.trace.specs.declared.traces.Traces.{Traces}
use Rattle.trace.specs.Trace.{Fix}
use Rattle.trace.specs.Given.{fixes_in}

-- The traces, each with the place of its first fix, where the first of them begins at `at`.
unfoldable pub placed : ℕ → List ℕ → List Fix → List (ℕ × List Fix)
placed at [] fs = []
placed at (n ∷ ns) fs = (at, take n fs) ∷ placed (at + n) ns (drop n fs)

-- Those that are still to come.
abbrev pub left : Traces → List (ℕ × List Fix)
left s = placed s.at s.lens.now (drop s.at (fixes_in s.of.tracks))
