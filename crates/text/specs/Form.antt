-- The house form by lines and fields (docs/RULES.md, "Program `stops`"): a line of names, a line of settings, a line of names, a line for each fix.
-- Each part reads the front of a text and hands on what follows it; `none` where the text is not in the form.
use Rattle.std.specs.Prelude.{ℕ, zero, suc, ◌+◌, Bool, true, false, cond, ◌&&◌, ◌||◌, List, [], ◌∷◌, length, ◌==◌, nat_le, slice_index_or}
use Rattle.std.proofs.Math.Option.{Option, none, some, bind, map}
use Rattle.text.specs.Bytes.{bytes, line_feed, space}
use Rattle.text.specs.Fields.{Field, bad, field_of, is_whole, is_natural, is_field, size_of}

-- What was read, where the test holds.
unfoldable pub only_if : {A : Type 0} → Bool → Option A → Option A
only_if true o = o
only_if false o = none

-- ---- a line of names

unfoldable pub setting_names : List ℕ
unfolding bytes
setting_names = bytes "r1 r2 single stay gap size seed\n"

unfoldable pub fix_names : List ℕ
unfolding bytes
fix_names = bytes "trace x y time\n"

-- What follows the names, where the text begins with them.
unfoldable pub past : List ℕ → List ℕ → Option (List ℕ)
past [] t = some t
past (c ∷ cs) [] = none
past (c ∷ cs) (b ∷ t) = only_if (b == c) (past cs t)

-- ---- a line of values

-- A text up to its first byte e, and what follows that byte.
unfoldable pub cut : ℕ → List ℕ → Option (List ℕ × List ℕ)
cut e [] = none
cut e (b ∷ t) = cond (b == e) (some ([], t)) (map (λ (c : List ℕ × List ℕ). (b ∷ c.0, c.1)) (cut e t))

-- The fields that these bytes end, each a number or a minus alone, and what follows them.
unfoldable pub row_of : List ℕ → List ℕ → Option (List Field × List ℕ)
row_of [] t = some ([], t)
row_of (e ∷ es) t =
    bind (cut e t) (λ c. only_if (is_field (field_of c.0)) (map (λ (r : List Field × List ℕ). (field_of c.0 ∷ r.0, r.1)) (row_of es c.1)))

-- One space between fields, a line feed after the last.
unfoldable pub setting_ends : List ℕ
setting_ends = space ∷ space ∷ space ∷ space ∷ space ∷ space ∷ line_feed ∷ []

unfoldable pub fix_ends : List ℕ
fix_ends = space ∷ space ∷ space ∷ line_feed ∷ []

-- r1 r2 single stay gap size seed: `single` is 0 or 1, `size` and `seed` are not negative.
unfoldable pub settings_in : List Field → Bool
settings_in fs =
    is_whole (slice_index_or fs 0 bad) && is_whole (slice_index_or fs 1 bad) && is_natural (slice_index_or fs 2 bad) && nat_le (size_of (slice_index_or fs 2 bad)) 1
    && is_whole (slice_index_or fs 3 bad) && is_whole (slice_index_or fs 4 bad) && is_natural (slice_index_or fs 5 bad) && is_natural (slice_index_or fs 6 bad)

-- The number of a fix line's trace.
abbrev pub trace_number : List Field → ℕ
trace_number fs = size_of (slice_index_or fs 0 bad)

-- trace x y time, after n traces: the trace is the next one, or the last again. A time is a number or a minus alone, as every field is.
unfoldable pub fix_in : ℕ → List Field → Bool
fix_in n fs = is_natural (slice_index_or fs 0 bad) && is_whole (slice_index_or fs 1 bad) && is_whole (slice_index_or fs 2 bad) && (trace_number fs == n || trace_number fs + 1 == n)

-- ---- the text

-- No line where the text has ended, and otherwise those that follow.
unfoldable pub unless_ended : List ℕ → Option (List (List Field)) → Option (List (List Field))
unless_ended [] o = some []
unless_ended (b ∷ t) o = o

-- The lines of fixes to the end of the text, each as its fields, after n traces; at most l of them.
unfoldable pub fix_lines : ℕ → ℕ → List ℕ → Option (List (List Field))
fix_lines zero n t = unless_ended t none
fix_lines (suc l) n t =
    unless_ended t
    (bind (row_of fix_ends t) (λ r. only_if (fix_in n r.0) (map (λ (fs : List (List Field)). r.0 ∷ fs) (fix_lines l (trace_number r.0 + 1) r.1))))

-- The fields of a text's settings, and of each of its fixes.
pub record Lines : Type 0 where
  pub settings : List Field
  pub fixes : List (List Field)

-- The lines of a text.
unfoldable pub lines_of : List ℕ → Option Lines
lines_of t =
    bind (past setting_names t) (λ t₁.
    bind (row_of setting_ends t₁) (λ s.
    only_if (settings_in s.0) (
    bind (past fix_names s.1) (λ t₂.
    map (λ (fs : List (List Field)). record { settings = s.0; fixes = fs }) (fix_lines (length t₂) 0 t₂)))))
