-- What calls of `read` give, one by one and together.
use Rattle.std.specs.Prelude.{◌≡◌, ℕ, zero, suc, ◌≤◌, List, [], ◌∷◌, ◌++◌, length, take, Option, Some, None, Err}
use Rattle.settings.specs.declared.refusal.Refusal.TheVariants.{Text}
use Rattle.text.specs.declared.Reader.{Reader}
use Rattle.text.specs.Values.{Columns}
use Rattle.text.specs.Parsed.{Parsed}
use Rattle.text.specs.Pieces.{Feeds, ReadAs}
use Rattle.input.specs.declared.Next.{Next}
use Rattle.input.specs.declared.Next.TheVariants.{More, End, Failed}
use Rattle.input.specs.declared.Piece.{Piece}

-- ---- one call

-- What a call that is handed n bytes may answer: how many bytes it moved, at most n, or none where it failed.
abbrev pub Moved : ℕ → Option ℕ → Type 0
Moved n (Some k) = k ≤ n
Moved n None = Unit {0}

-- What a call gave: its answer, which is at most the length of the buffer or that it failed, and the buffer after it.
pub record Call : Type 0 where
  pub count : Option ℕ
  pub buffer : List ℕ
  pub could : Moved (length buffer) count

-- The bytes that it gave: the first of the buffer, as many as it answered, and none where it failed.
unfoldable pub given : Option ℕ → List ℕ → List ℕ
given (Some n) buf = take n buf
given None buf = []

-- What it told: 0 bytes are the end of the input.
unfoldable pub next_of : Option ℕ → Next
next_of (Some zero) = End
next_of (Some (suc n)) = More
next_of None = Failed

-- Of a call that answered n and left the buffer so: the reader r and the slices c became p and c'. All bytes given were read, and no other.
pub record Taken (n : Option ℕ) (buf : List ℕ) (r : Reader) (c : Columns) (p : Piece) (c' : Columns) : Type 0 where
  pub read : Feeds (given n buf) r c p.reader c'
  pub next : p.next ≡ next_of n

-- ---- all calls

-- What they told of the input together: its text, or that a call failed before the end.
pub data Heard : Type 0 where
  whole : List ℕ → Heard
  broken : Heard

-- A piece, and what was heard behind it.
unfoldable pub behind : List ℕ → Heard → Heard
behind t (whole u) = whole (t ++ u)
behind t broken = broken

unfoldable pub heard_next : Next → List ℕ → Heard → Heard
heard_next More t h = behind t h
heard_next End t h = whole []
heard_next Failed t h = broken

-- The pieces one behind the other, none left out, up to the call that told the end. The input is broken where a call failed before that, or no call
-- told the end.
unfoldable pub heard : List Call → Heard
heard [] = broken
heard (g ∷ gs) = let h = heard gs in heard_next (next_of g.count) (given g.count g.buffer) h

-- ---- what was read

-- From the slices c what was heard was read: a whole text as `ReadAs` says, and 22 where it is broken.
abbrev pub ReadFrom : Heard → Columns → Parsed → Columns → Type 0
ReadFrom (whole t) c p c' = ReadAs c t p c'
ReadFrom broken c p c' = p ≡ Err Text
