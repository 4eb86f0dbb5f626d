-- The machine reads a text as the form does: it ends well exactly where the text is in the form, and then holds what its lines say.
use Rattle.std.proofs.Common.{◌≡◌, ℕ, zero, suc, ◌+◌, ◌≤◌, Bool, true, false, List, [], ◌∷◌, map, length, sym, refl, ap, ◌∙◌, subst, arith}
use mathlib.Core.Option
use mathlib.Core.Option.{Option, none, some, bind}
use lib.Ieee.{Float}
use Rattle.text.specs.declared.state.State.{State}
use Rattle.text.specs.declared.state.Stage.{Stage}
use Rattle.text.specs.declared.state.Stage.TheVariants.{SettingNames, Settings, FixNames, Fixes}
use Rattle.text.specs.declared.field.Field.{Field as Kept}
use Rattle.text.specs.Fields.{Field}
use Rattle.text.specs.Form.{only_if, setting_names, fix_names, past, row_of, setting_ends, fix_ends, settings_in, trace_number, fix_in, unless_ended, fix_lines, Lines, lines_of}
use Rattle.text.specs.Values.{fix_of}
use Rattle.text.specs.Machine.{Machine, machine, field_at, initial, begun, settings_ok, fix_ok, counted, run, ended}
use Rattle.text.proofs.Fields.{moved, ends_well, stuck, blank}
use Rattle.text.proofs.Rows.{finish, fields_noted, Row, RowTold}
use Rattle.text.proofs.Names.{NamesTold, names_told, setting_names_lem, fix_names_lem}
use Rattle.text.proofs.Judged.{Sound, fields_length, settings_judged, fix_judged}
use Rattle.text.proofs.Finished.{fix_at, as_moved, counted_begun, counted_traces, refused_stage, finish_fields, fix_row, fix_sound, fix_names_long, setting_names_long, settings_on, settings_off, setting_row, setting_sound}
use Rattle.text.proofs.Noted.{Holds, Contents, holds_on, holds_none, counted_fixes, counted_len, contents_on, first_size}

-- What a reading by the form says of the machine n after the text: where there is none the text may not end here; otherwise it may, and n holds it.
unfoldable pub Says : {A : Type 0} → (A → Machine → Type 0) → Option A → Machine → Type 0
Says P none n = ended n.at ≡ false
Says P (some a) n = (ended n.at ≡ true) × P a n

says_map : {A B : Type 0} (P : A → Machine → Type 0) (Q : B → Machine → Type 0) (f : A → B) (n : Machine) → ((a : A) → P a n → Q (f a) n) → (o : Option A)
    → Says P o n → Says Q (Option.map f o) n
unfolding Says
says_map P Q f n i none h = h
says_map P Q f n i (some a) h = (h.0, i a h.1)

-- ---- the fixes

abbrev HoldsFixes : Machine → State → List (List Field) → Machine → Type 0
HoldsFixes m s fs n = Holds m s (map fix_of fs) n

-- Of texts of at most l bytes.
Fixes_read : ℕ → Type 0
Fixes_read l = (t : List ℕ) (m : Machine) (s : State) → length t ≤ l → length m.fields ≡ 11
    → Says (HoldsFixes m s) (fix_lines l s.traces t) (run (moved m (begun s Fixes 7)) t)

-- One fix line, and those after it.
line_read : (l : ℕ) → Fixes_read l → (t : List ℕ) (m : Machine) (s : State) → blank (begun s Fixes 7) t ≡ false → length t ≤ suc l → length m.fields ≡ 11
    → (R : Row) → RowTold Fixes 10 m s 7 t R → Sound 4 t R
    → Says (HoldsFixes m s) (bind R (λ r. only_if (fix_in s.traces r.0) (Option.map (λ (fs : List (List Field)). r.0 ∷ fs) (fix_lines l (trace_number r.0 + 1) r.1)))) (run (moved m (begun s Fixes 7)) t)
unfolding Fixes_read Says RowTold Sound bind only_if begun ends_well
line_read l i t m s b h z none p q = p b
line_read l i t m s b h z (some (fs, r)) p q = go (fix_in s.traces fs) refl where
  M : Machine
  M = fields_noted m 7 fs

  X : Machine
  X = finish Fixes 10 M s

  S : State
  S = counted (field_at M.fields 7).size (begun s Fixes 11)

  judge : fix_ok M.fields (begun s Fixes 11) ≡ fix_in s.traces fs
  judge = fix_judged fs m (begun s Fixes 11) q.0 q.2 z

  first : (field_at M.fields 7).size ≡ trace_number fs
  first = first_size fs m q.0 z

  traces : S.traces ≡ trace_number fs + 1
  traces = counted_traces (field_at M.fields 7).size (begun s Fixes 11) ∙ ap (λ (u : ℕ). u + 1) first

  go : (x : Bool) → fix_in s.traces fs ≡ x
      → Says (HoldsFixes m s) (only_if x (Option.map (λ (gs : List (List Field)). fs ∷ gs) (fix_lines l (trace_number fs + 1) r))) (run (moved m (begun s Fixes 7)) t)
  go false e = ap (λ (u : Machine). ended u.at) p ∙ stuck X r (ap (λ (u : State). u.stage) (fix_at M s false (judge ∙ e)) ∙ refused_stage (begun s Fixes 11))
  go true e =
      let a : X.at ≡ begun S Fixes 7 = fix_at M s true (judge ∙ e) ∙ counted_begun (field_at M.fields 7).size (begun s Fixes 11) in
      let n : run (moved m (begun s Fixes 7)) t ≡ run (moved X (begun S Fixes 7)) r = p ∙ ap (λ (u : Machine). run u r) (as_moved X (begun S Fixes 7) a) in
      let k = fields_length fs m 7 in
      let later : Says (HoldsFixes X S) (fix_lines l S.traces r) (run (moved X (begun S Fixes 7)) r) =
      i r X S (omega (arith, q.1)) (ap length (finish_fields Fixes 10 M s) ∙ k ∙ z) in
      subst (λ (u : Machine). Says (HoldsFixes m s) (Option.map (λ (gs : List (List Field)). fs ∷ gs) (fix_lines l (trace_number fs + 1) r)) u) (sym n)
      (says_map (HoldsFixes X S) (HoldsFixes m s) (λ gs. fs ∷ gs) (run (moved X (begun S Fixes 7)) r)
      (λ gs. holds_on fs (map fix_of gs) m s S (run (moved X (begun S Fixes 7)) r) q.0 z e (judge ∙ e) (counted_fixes (field_at M.fields 7).size s) traces (counted_len (field_at M.fields 7).size s (trace_number fs) first))
      (fix_lines l (trace_number fs + 1) r)
      (subst (λ (u : ℕ). Says (HoldsFixes X S) (fix_lines l u r) (run (moved X (begun S Fixes 7)) r)) traces later))

blank_more : (s : State) (b : ℕ) (t : List ℕ) → blank s (b ∷ t) ≡ false
unfolding blank
blank_more s b t = refl

may_end : (m : Machine) (s : State) → ended (moved m (begun s Fixes 7)).at ≡ true
unfolding ended moved begun
may_end m s = refl

fixes_read : (l : ℕ) → Fixes_read l
unfolding Fixes_read Says fix_lines unless_ended run
fixes_read zero [] m s h z = (may_end m s, holds_none m s)
fixes_read zero (b ∷ t) m s h z = absurd (omega arith)
fixes_read (suc l) [] m s h z = (may_end m s, holds_none m s)
fixes_read (suc l) (b ∷ t) m s h z = line_read l (fixes_read l) (b ∷ t) m s (blank_more (begun s Fixes 7) b t) h z (row_of fix_ends (b ∷ t)) (fix_row (b ∷ t) m s) (fix_sound (b ∷ t))

-- ---- names, and what follows them

after_names : {A : Type 0} (P : A → Machine → Type 0) (rest : List ℕ → Option A) (g h : Stage) (k : ℕ) (m : Machine) (s : State) (t : List ℕ) (R : Option (List ℕ))
    → NamesTold g h k m s 0 t R
    → ((r : List ℕ) → Says P (rest r) (run (moved m (begun s h k)) r)) → Says P (bind R rest) (run (moved m (begun s g 0)) t)
unfolding Says NamesTold bind ends_well
after_names P rest g h k m s t none p i = p
after_names P rest g h k m s t (some r) p i = subst (λ (u : Machine). Says P (rest r) u) (sym p) (i r)

-- ---- the settings

abbrev HoldsText : Machine → State → Lines → Machine → Type 0
HoldsText m s l n = Contents m s l.settings (map fix_of l.fixes) n

-- The fixes behind the settings fs.
abbrev fixes_after : List Field → List ℕ → Option Lines
fixes_after fs t = bind (past fix_names t) (λ r. Option.map (λ (gs : List (List Field)). record { settings = fs; fixes = gs }) (fix_lines (length r) 0 r))

setting_blank : (s : State) (t : List ℕ) → blank (begun s Settings 0) t ≡ false
unfolding blank ended begun
setting_blank s [] = refl
setting_blank s (b ∷ t) = refl

settings_read : (t : List ℕ) (m : Machine) (s : State) → s.traces ≡ 0 → length m.fields ≡ 11 → (R : Row) → RowTold Settings 6 m s 0 t R → Sound 7 t R
    → Says (HoldsText m s) (bind R (λ f. only_if (settings_in f.0) (fixes_after f.0 f.1))) (run (moved m (begun s Settings 0)) t)
unfolding Says RowTold Sound bind only_if ends_well Fixes_read
settings_read t m s e z none p q = p (setting_blank s t)
settings_read t m s e z (some (fs, r)) p q = go (settings_in fs) refl where
  M : Machine
  M = fields_noted m 0 fs

  judge : settings_ok M.fields ≡ settings_in fs
  judge = settings_judged fs m q.0 z

  rest : (v : List ℕ)
      → Says (HoldsText m s) (Option.map (λ (gs : List (List Field)). record { settings = fs; fixes = gs }) (fix_lines (length v) 0 v)) (run (moved M (begun s Fixes 7)) v)
  rest v =
      let k = fields_length fs m 0 in
      says_map (HoldsFixes M s) (HoldsText m s) (λ gs. record { settings = fs; fixes = gs }) (run (moved M (begun s Fixes 7)) v)
      (λ gs. contents_on fs m s (map fix_of gs) (run (moved M (begun s Fixes 7)) v) q.0 z)
      (fix_lines (length v) 0 v)
      (subst (λ (n : ℕ). Says (HoldsFixes M s) (fix_lines (length v) n v) (run (moved M (begun s Fixes 7)) v)) e (fixes_read (length v) v M s (omega arith) (k ∙ z)))

  go : (x : Bool) → settings_in fs ≡ x → Says (HoldsText m s) (only_if x (fixes_after fs r)) (run (moved m (begun s Settings 0)) t)
  go false h = ap (λ (u : Machine). ended u.at) p ∙ stuck (finish Settings 6 M s) r (settings_off M s (judge ∙ h))
  go true h =
      subst (λ (u : Machine). Says (HoldsText m s) (fixes_after fs r) u) (sym (p ∙ ap (λ (u : Machine). run u r) (settings_on M s (judge ∙ h))))
      (after_names (HoldsText m s) _ FixNames Fixes 7 M s r (past fix_names r) (names_told FixNames Fixes 7 fix_names fix_names_lem r M s 0 fix_names_long) rest)

-- ---- from the first byte

-- A text is taken byte by byte exactly where it is in the form, and its settings and fixes are then in the machine, whatever the slices held.
pub text_read : (t : List ℕ) (fields : List Kept) (xs ys times : List Float) (marks lens : List ℕ) → length fields ≡ 11
    → Says (HoldsText (machine initial fields xs ys times marks lens) initial) (lines_of t) (run (machine initial fields xs ys times marks lens) t)
unfolding lines_of initial moved begun
text_read t fields xs ys times marks lens z =
    let m = machine initial fields xs ys times marks lens in
    after_names (HoldsText m initial) _ SettingNames Settings 0 m initial t (past setting_names t) (names_told SettingNames Settings 0 setting_names setting_names_lem t m initial 0 setting_names_long)
    (λ r. settings_read r m initial refl z (row_of setting_ends r) (setting_row r m initial) (setting_sound r))
