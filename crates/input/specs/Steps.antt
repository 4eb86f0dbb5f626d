-- Serves the contracts of this crate's own functions; no public contract reaches it.
use Rattle.std.specs.Prelude.{◌≡◌, List}
use Rattle.text.specs.declared.Reader.{Reader}
use Rattle.text.specs.Values.{Columns}
use Rattle.text.specs.Parsed.{Parsed}
use Rattle.text.specs.Machine.{Fed}
use Rattle.input.specs.declared.Next.TheVariants.{End}
use Rattle.input.specs.declared.Piece.{Piece}
use Rattle.input.specs.Calls.{Call, Taken, Heard, whole, broken, heard, ReadFrom}

-- `Taken` of a call as a whole.
abbrev pub Took : Call → Reader → Columns → Piece → Columns → Type 0
Took g r c p c' = Taken g.count g.buffer r c p c'

-- What p and the slices c' hold of what was heard: the whole text, and its end was told; or it is broken, and no end was told.
abbrev pub HoldsHeard : Heard → Columns → Piece → Columns → Type 0
HoldsHeard (whole t) c p c' = (p.next ≡ End) × Fed c t p.reader c'
HoldsHeard broken c p c' = p.next ≡ End → ⊥

-- p and the slices c' are what the calls gs leave.
pub record Told (c : Columns) (gs : List Call) (p : Piece) (c' : Columns) : Type 0 where
  pub held : HoldsHeard (heard gs) c p c'

-- Whatever calls left p, q is what was read of what they told together.
pub record Ends (p : Piece) (q : Parsed) : Type 0 where
  pub end : {c c' : Columns} {gs : List Call} → Told c gs p c' → ReadFrom (heard gs) c q c'
