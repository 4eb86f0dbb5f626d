-- The fixes and the traces that the columns handed over stand for. Definitions only.
use Rattle.std.specs.Prelude.{List}
use Rattle.trace.specs.declared.Trace.{Trace}
use Rattle.trace.specs.declared.Tracks.{Tracks}
use Rattle.trace.specs.Trace.{Fix, fixes, traces}

-- The fixes of one trace.
abbrev pub fixes_of : Trace → List Fix
fixes_of t = fixes t.xs.now t.ys.now t.times.now t.marks.now

-- The fixes of all traces.
abbrev pub fixes_in : Tracks → List Fix
fixes_in t = fixes t.xs.now t.ys.now t.times.now t.marks.now

-- The traces.
abbrev pub traces_of : Tracks → List (List Fix)
traces_of t = traces t.lens.now (fixes_in t)
