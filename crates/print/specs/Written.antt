-- A text written into a slice of bytes.
use Rattle.std.specs.Prelude.{◌≡◌, ℕ, List, length, take}
use Rattle.text.specs.Parsed.{into}

-- The slice `out` gets the text from its start, as far as there is room, and keeps what is behind; r bytes are written.
pub record Writes (text out : List ℕ) (r : ℕ) (out' : List ℕ) : Type 0 where
  pub bytes : out' ≡ into out text
  pub count : r ≡ length (take (length out) text)
