-- A text that comes in pieces. `start` has been given nothing, each `feed` one piece more, and `finish` tells what was read of all pieces joined:
-- `ReadAs`, by the form alone. `Fed c t r c'` stands for: from the slices c the text t was given, in however many pieces, to a reader that now is r, with the
-- slices c'. The three hand it on to each other, and to use them on a text nothing else has to be known of it.
use Rattle.std.specs.Prelude.{◌≡◌, ℕ, Bool, true, false, List, [], ◌++◌, take, Err}
use Rattle.settings.specs.declared.config.Config.{Config}
use Rattle.text.specs.declared.Reader.{Reader}
use Rattle.settings.specs.declared.refusal.Refusal.TheVariants.{Text}
use Rattle.text.specs.Values.{FixLine, inside, read, Columns}
use Rattle.text.specs.Parsed.{Parsed, at_most768, parsed, with_columns}
use Rattle.text.specs.Machine.{ended, start_reader, holding, run, Fed, config_in}

-- The slices get the first 768 fixes, before the answer is known.
unfoldable pub first_fixes : List FixLine → List FixLine
first_fixes ls = take 768 ls

-- From the slices c the text t was read: p is its answer, and where it is in the form the slices c' hold its first 768 fixes.
pub record ReadAs (c : Columns) (t : List ℕ) (p : Parsed) (c' : Columns) : Type 0 where
  pub answer : p ≡ parsed (read t)
  pub slices : (s : Config) (ls : List FixLine) → read t ≡ inside s ls → c' ≡ with_columns c (first_fixes ls)

-- What a reader has read, where the text ends here.
unfoldable pub finished_if : Bool → Reader → Parsed
finished_if true r = at_most768 (config_in r.fields) r.state.fixes r.state.traces
finished_if false r = Err Text

unfoldable pub finished : Reader → Parsed
finished r = finished_if (ended r.state) r

-- Each of the three says what it does with any reader, one that a caller made by hand too, by the machine; and what that comes to for a reader
-- that was given a text.

-- r has been given nothing.
pub record Starts (r : Reader) : Type 0 where
  pub equation : r ≡ start_reader
  pub start : (c : Columns) → Fed c [] r c

-- Whatever text r and the slices c were given, q and the slices c' were given it and the piece u behind it.
pub record Feeds (u : List ℕ) (r : Reader) (c : Columns) (q : Reader) (c' : Columns) : Type 0 where
  pub equation : holding q c' ≡ run (holding r c) u
  pub more : {first : Columns} {t : List ℕ} → Fed first t r c → Fed first (t ++ u) q c'

-- Whatever text r was given, p is what was read of it.
pub record Finishes (r : Reader) (p : Parsed) : Type 0 where
  pub equation : p ≡ finished r
  pub end : {c c' : Columns} {t : List ℕ} → Fed c t r c' → ReadAs c t p c'
