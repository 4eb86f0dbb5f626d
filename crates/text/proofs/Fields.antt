-- A field in a text: `run` of `Machine` against `cut` of `Form`.
use Rattle.std.proofs.Common.{◌≡◌, ℕ, ◌≤◌, Bool, true, false, cond, not, ◌&&◌, ◌||◌, eqb, leb, ◌⊎◌, List, [], ◌∷◌, sym, refl, ap, ◌∙◌, inl, inr, ⊎_elim, arith, ne_eqb, eqb-true, is_some}
use mathlib.Core.Bool.{and-false}
use mathlib.Core.Option.{Option, none, some, map}
use Rattle.text.specs.declared.state.State.{State}
use Rattle.text.specs.declared.state.Stage.{Stage}
use Rattle.text.specs.declared.state.Stage.TheVariants.{Settings, Fixes, Outside}
use Rattle.text.specs.declared.field.Field.{Field}
use Rattle.text.proofs.Stages.{lexed_settings, lexed_fixes, lexed_outside, fields_settings, fields_fixes}
use Rattle.text.proofs.Numbers.{field_bytes, refused_stays}
use Rattle.text.specs.Bytes.{is_digit}
use Rattle.text.specs.Form.{cut}
use Rattle.text.specs.Machine.{Machine, in_settings, in_fixes, refused, signed, grown, with_digit, field_byte, ends, end_of, row_byte, row_fields, lexed, lexed_fields, judged, set_line, fix_line, stored, set_if, step, run, ended}

-- The machine at another state.
unfoldable pub moved : Machine → State → Machine
moved m s = record { at = s; fields = m.fields; xs = m.xs; ys = m.ys; times = m.times; marks = m.marks; lens = m.lens }

-- Whether the text may end after t.
unfoldable pub ends_well : Machine → List ℕ → Bool
ends_well m t = ended (run m t).at

-- ---- what is refused stays so

pub idle : (fs : List Field) (s : State) → set_line s ≡ false → fix_line s ≡ false → judged fs s ≡ s
unfolding judged
idle fs s p q = simp (p, q)

pub set_other : (s : State) → in_settings s.stage ≡ false → set_line s ≡ false
unfolding set_line
set_other s h = simp h

pub fix_other : (s : State) → in_fixes s.stage ≡ false → fix_line s ≡ false
unfolding fix_line
fix_other s h = simp h

pub set_field : (s : State) → (s.k ≡ 7 → ⊥) → set_line s ≡ false
unfolding set_line
set_field s h = rw (ne_eqb s.k 7 h) (and-false (in_settings s.stage))

pub fix_field : (s : State) → (s.k ≡ 11 → ⊥) → fix_line s ≡ false
unfolding fix_line
fix_field s h = rw (ne_eqb s.k 11 h) (and-false (in_fixes s.stage))

stuck_step : (m : Machine) (b : ℕ) → m.at.stage ≡ Outside → (step m b).at ≡ m.at
unfolding step
stuck_step m b e =
    rw (lexed_outside m.at b e) (idle _ m.at (set_other m.at (ap in_settings e)) (fix_other m.at (ap in_fixes e)))

pub stuck : (m : Machine) (t : List ℕ) → m.at.stage ≡ Outside → ends_well m t ≡ false
unfolding ends_well run ended
stuck m [] e = simp (ap in_fixes e)
stuck m (b ∷ t) e = stuck (step m b) t (ap (λ (s : State). s.stage) (stuck_step m b e) ∙ e)

-- ---- one byte within a field

byte_k : (s : State) (b : ℕ) → (field_byte s b).k ≡ s.k
unfolding field_byte refused signed grown
byte_k s b = go (eqb b 45) (s.minus || is_some s.value) (is_digit b && leb (with_digit s b) 1000000000) where
  go : (t u v : Bool) → (cond t (cond u (refused s) (signed s)) (cond v (grown s (with_digit s b)) (refused s))).k ≡ s.k
  go true true v = refl
  go true false v = refl
  go false u true = refl
  go false u false = refl

byte_stage : (s : State) (b : ℕ) → ((field_byte s b).stage ≡ s.stage) ⊎ ((field_byte s b).stage ≡ Outside)
unfolding field_byte refused signed grown
byte_stage s b = go (eqb b 45) (s.minus || is_some s.value) (is_digit b && leb (with_digit s b) 1000000000) where
  go : (t u v : Bool)
      → ((cond t (cond u (refused s) (signed s)) (cond v (grown s (with_digit s b)) (refused s))).stage ≡ s.stage) ⊎ ((cond t (cond u (refused s) (signed s)) (cond v (grown s (with_digit s b)) (refused s))).stage ≡ Outside)
  go true true v = inr refl
  go true false v = inl refl
  go false u true = inl refl
  go false u false = inr refl

-- After a byte of a field the text cannot end.
byte_ended : (s : State) (b : ℕ) → ended (field_byte s b) ≡ false
unfolding field_byte refused signed grown ended
byte_ended s b = go (eqb b 45) (s.minus || is_some s.value) (is_digit b && leb (with_digit s b) 1000000000) where
  go : (t u v : Bool) → ended (cond t (cond u (refused s) (signed s)) (cond v (grown s (with_digit s b)) (refused s))) ≡ false
  go true true v = refl
  go true false v = rw (and-false (in_fixes s.stage && eqb s.k 7))
  go false u true = and-false (in_fixes s.stage && eqb s.k 7 && not s.minus)
  go false u false = refl

-- A line of values: the settings, whose last field is 6, or a fix, whose last field is 10.
pub record Line (g : Stage) (last : ℕ) : Type 0 where
  pub lexes : (s : State) (b : ℕ) → s.stage ≡ g → lexed s b ≡ row_byte last s b
  pub fields : (s : State) (b : ℕ) (l : List Field) → s.stage ≡ g → lexed_fields s b l ≡ row_fields last s b l
  pub within : (s : State) → s.k ≤ last → (s.stage ≡ g) ⊎ (s.stage ≡ Outside) → (set_line s ≡ false) × (fix_line s ≡ false)
  pub unlike : g ≡ Outside → ⊥

pub settings_line : Line Settings 6
settings_line = record {
  lexes = lexed_settings;
  fields = fields_settings;
  within = λ s. λ h. λ g. (set_field s (λ q. omega arith), fix_field s (λ q. omega arith));
  unlike = λ q. cc;
}

pub fix_line_lem : Line Fixes 10
fix_line_lem = record {
  lexes = lexed_fixes;
  fields = fields_fixes;
  within = λ s. λ h. λ g. (set_other s (⊎_elim (λ a. ap in_settings a) (λ a. ap in_settings a) g), fix_field s (λ q. omega arith));
  unlike = λ q. cc;
}

module _ (g : Stage) (last : ℕ) (line : Line g last) where
  -- A byte that does not end the field.
  byte_step : (m : Machine) (b : ℕ) → m.at.stage ≡ g → m.at.k ≤ last → ends last m.at b ≡ false → step m b ≡ moved m (field_byte m.at b)
  unfolding step moved row_byte row_fields stored set_if
  byte_step m b e h n =
      let p : lexed m.at b ≡ field_byte m.at b = line.lexes m.at b e ∙ rw n in
      let z : lexed_fields m.at b m.fields ≡ m.fields = line.fields m.at b m.fields e ∙ rw n in
      let w = line.within (field_byte m.at b) (rw (byte_k m.at b) h) (⊎_elim (λ a. inl (a ∙ e)) (λ a. inr a) (byte_stage m.at b)) in
      rw (p, z, idle m.fields (field_byte m.at b) w.0 w.1, w.1)

-- The text ends here, at a place where it may.
unfoldable pub blank : State → List ℕ → Bool
blank s [] = ended s
blank s (b ∷ t) = false

blank_byte : (s : State) (b : ℕ) (t : List ℕ) → blank (field_byte s b) t ≡ false
unfolding blank
blank_byte s b [] = byte_ended s b
blank_byte s b (c ∷ t) = refl

-- What a field's bytes f, with what follows them, say of the run; e ends the field.
unfoldable pub Told : Stage → ℕ → Machine → List ℕ → Option (List ℕ × List ℕ) → Type 0
Told g e m t none = blank m.at t ≡ false → ends_well m t ≡ false
Told g e m t (some (f, r)) = ((field_bytes m.at f).stage ≡ g → run m t ≡ run (step (moved m (field_bytes m.at f)) e) r) × ((field_bytes m.at f).stage ≡ Outside → ends_well m t ≡ false)

differ : {A : Type 0} (a b : Stage) → (a ≡ b → ⊥) → {c : Stage} → c ≡ a → c ≡ b → A
differ a b h p q = absurd (h (sym p ∙ q))

module _ (g : Stage) (last : ℕ) (line : Line g last) where
  pub told : (t : List ℕ) (m : Machine) (k : ℕ) → m.at.stage ≡ g → m.at.k ≡ k → k ≤ last → Told g (end_of last k) m t (cut (end_of last k) t)
  unfolding Told cut ends_well run blank field_bytes moved ends
  told [] m k e d h = λ q. q
  told (b ∷ t) m k e d h = go (eqb b (end_of last k)) refl (cut (end_of last k) t) (λ w. told t (moved m (field_byte m.at b)) k w (byte_k m.at b ∙ d) h) where
    go_step : eqb b (end_of last k) ≡ false → step m b ≡ moved m (field_byte m.at b)
    go_step q = byte_step g last line m b e (rw d h) (ap (λ (j : ℕ). eqb b (end_of last j)) d ∙ q)

    gone : {A : Type 0} (f : List ℕ) → (field_byte m.at b).stage ≡ Outside → (field_bytes (field_byte m.at b) f).stage ≡ g → A
    gone f a w = differ Outside g (λ z. line.unlike (sym z)) (refused_stays (field_byte m.at b) f a) w

    go : (x : Bool) → eqb b (end_of last k) ≡ x → (c : Option (List ℕ × List ℕ))
        → ((field_byte m.at b).stage ≡ g → Told g (end_of last k) (moved m (field_byte m.at b)) t c)
        → Told g (end_of last k) m (b ∷ t) (cond x (some ([], t)) (map (λ (c : List ℕ × List ℕ). (b ∷ c.0, c.1)) c))
    go true q c i = (λ w. rw (eqb-true b (end_of last k) q), λ w. differ g Outside line.unlike e w)
    go false q none i = λ y. ap (λ (n : Machine). ended (run n t).at) (go_step q) ∙ (⊎_elim
        (λ a. i (a ∙ e) (blank_byte m.at b t))
        (λ a. stuck (moved m (field_byte m.at b)) t a)
        (byte_stage m.at b))
    go false q (some (f, r)) i = (
      λ w. ap (λ (n : Machine). run n t) (go_step q) ∙ (⊎_elim (λ a. (i (a ∙ e)).0 w) (λ a. gone f a w) (byte_stage m.at b)),
      λ w. ap (λ (n : Machine). ended (run n t).at) (go_step q) ∙ (⊎_elim (λ a. (i (a ∙ e)).1 w) (λ a. stuck (moved m (field_byte m.at b)) t a) (byte_stage m.at b)),
    )
