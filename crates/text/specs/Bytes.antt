-- Texts as lists of bytes.
use Rattle.std.specs.Prelude.{ℕ, Bool, ◌&&◌, List, [], ◌∷◌, nat_le}
use Prim.Native.Char.{code}
use Prim.Native.String.{String, [] as empty, ◌∷◌ as ◌then◌}

-- The bytes of a quoted text; of letters, digits, signs, spaces and line feeds each is one byte.
unfoldable pub bytes : String → List ℕ
bytes empty = []
bytes (c then s) = code c ∷ bytes s

abbrev pub line_feed : ℕ
line_feed = 10

abbrev pub space : ℕ
space = 32

abbrev pub minus_sign : ℕ
minus_sign = 45

unfoldable pub is_digit : ℕ → Bool
is_digit b = nat_le 48 b && nat_le b 57
