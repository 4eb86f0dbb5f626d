-- A line of names in a text: `run` of `Machine` against `past` of `Form`.
use Rattle.std.proofs.Common.{◌≡◌, ℕ, suc, ◌+◌, ◌<◌, ◌≤◌, Bool, true, false, eqb, ltb, List, [], ◌∷◌, length, get_or, drop, sym, refl, ap, ◌∙◌, subst, add-one, arith, drop_of_length-le, drop-cons, ltb-false, ltb-true, le-ltb, lt-ltb}
use mathlib.Core.Option.{Option, none, some}
use Rattle.text.specs.declared.state.State.{State}
use Rattle.text.specs.declared.state.Stage.{Stage}
use Rattle.text.specs.declared.state.Stage.TheVariants.{SettingNames, Settings, FixNames, Fixes}
use Rattle.text.specs.declared.field.Field.{Field}
use Rattle.text.proofs.Stages.{lexed_setting_names, lexed_fix_names, fields_setting_names, fields_fix_names}
use Rattle.text.proofs.Fields.{moved, ends_well, stuck, idle, set_other, fix_other}
use Rattle.text.specs.Form.{setting_names, fix_names, only_if, past}
use Rattle.text.specs.Machine.{Machine, in_fixes, refused, begun, name_byte, lexed, lexed_fields, set_line, fix_line, stored, set_if, step, run, ended}

-- A line of names: at stage g, and then field k₁ of stage h.
pub record Names (g h : Stage) (k₁ : ℕ) (names : List ℕ) : Type 0 where
  pub lexes : (s : State) (b : ℕ) → s.stage ≡ g → lexed s b ≡ name_byte names h k₁ s b
  pub fields : (s : State) (b : ℕ) (l : List Field) → s.stage ≡ g → lexed_fields s b l ≡ l
  pub here : (s : State) (k : ℕ) → (set_line (begun s g k) ≡ false) × (fix_line (begun s g k) ≡ false)
  pub next : (s : State) → (set_line (begun s h k₁) ≡ false) × (fix_line (begun s h k₁) ≡ false)
  pub early : in_fixes g ≡ false

pub setting_names_lem : Names SettingNames Settings 0 setting_names
unfolding begun set_line fix_line
setting_names_lem = record { lexes = lexed_setting_names; fields = fields_setting_names; here = λ s. λ k. (refl, refl); next = λ s. (refl, refl); early = refl }

pub fix_names_lem : Names FixNames Fixes 7 fix_names
unfolding begun set_line fix_line
fix_names_lem = record { lexes = lexed_fix_names; fields = fields_fix_names; here = λ s. λ k. (refl, refl); next = λ s. (refl, refl); early = refl }

-- What a line of names says of the run.
unfoldable pub NamesTold : Stage → Stage → ℕ → Machine → State → ℕ → List ℕ → Option (List ℕ) → Type 0
NamesTold g h k₁ m s k t none = ends_well (moved m (begun s g k)) t ≡ false
NamesTold g h k₁ m s k t (some r) = run (moved m (begun s g k)) t ≡ run (moved m (begun s h k₁)) r

st : (s : State) (g : Stage) (k : ℕ) → (begun s g k).stage ≡ g
unfolding begun
st s g k = refl

-- A byte of the names.
byte_no : (names : List ℕ) (g h : Stage) (k₁ k : ℕ) (s : State) (b : ℕ) → k < length names → eqb b (get_or names k 0) ≡ false
    → name_byte names h k₁ (begun s g k) b ≡ refused (begun s g k)
unfolding name_byte begun
byte_no names g h k₁ k s b l e = simp (lt-ltb k (length names) l, e)

byte_on : (names : List ℕ) (g h : Stage) (k₁ k : ℕ) (s : State) (b : ℕ) → k + 1 < length names → eqb b (get_or names k 0) ≡ true
    → name_byte names h k₁ (begun s g k) b ≡ begun s g (suc k)
unfolding name_byte begun
byte_on names g h k₁ k s b l e = simp (lt-ltb k (length names) (omega arith), e, lt-ltb (k + 1) (length names) l) (rw (add-one k))

byte_last : (names : List ℕ) (g h : Stage) (k₁ k : ℕ) (s : State) (b : ℕ) → k < length names → length names ≤ k + 1 → eqb b (get_or names k 0) ≡ true
    → name_byte names h k₁ (begun s g k) b ≡ begun s h k₁
unfolding name_byte begun
byte_last names g h k₁ k s b l n e = simp (lt-ltb k (length names) l, e, le-ltb (k + 1) (length names) n)

not_ended : (s : State) (g : Stage) (k : ℕ) → in_fixes g ≡ false → ended (begun s g k) ≡ false
unfolding ended begun
not_ended s g k h = simp h

module _ (g h : Stage) (k₁ : ℕ) (names : List ℕ) (line : Names g h k₁ names) where
  name_step : (m : Machine) (s S : State) (k b : ℕ) → name_byte names h k₁ (begun s g k) b ≡ S → set_line S ≡ false → fix_line S ≡ false
      → step (moved m (begun s g k)) b ≡ moved m S
  unfolding step moved stored set_if
  name_step m s S k b n p q =
      let e : lexed (begun s g k) b ≡ S = line.lexes (begun s g k) b (st s g k) ∙ n in
      rw (line.fields (begun s g k) b m.fields (st s g k), e, idle m.fields S p q, q)

  same_rest : (m : Machine) (s : State) (k b : ℕ) (t : List ℕ) → step (moved m (begun s g k)) b ≡ moved m (begun s g (suc k)) → (R : Option (List ℕ))
      → NamesTold g h k₁ m s (suc k) t R → NamesTold g h k₁ m s k (b ∷ t) R
  unfolding NamesTold ends_well run
  same_rest m s k b t e none i = ap (λ (n : Machine). ended (run n t).at) e ∙ i
  same_rest m s k b t e (some r) i = ap (λ (n : Machine). run n t) e ∙ i

  refuses : (m : Machine) (s : State) (k b : ℕ) (t : List ℕ) → k < length names → eqb b (get_or names k 0) ≡ false → ends_well (moved m (begun s g k)) (b ∷ t) ≡ false
  unfolding ends_well run moved refused
  refuses m s k b t l q =
      ap (λ (n : Machine). ended (run n t).at) (name_step m s (refused (begun s g k)) k b (byte_no names g h k₁ k s b l q) (set_other (refused (begun s g k)) refl) (fix_other (refused (begun s g k)) refl))
      ∙ stuck (moved m (refused (begun s g k))) t refl

  pub names_told : (t : List ℕ) (m : Machine) (s : State) (k : ℕ) → k < length names → NamesTold g h k₁ m s k t (past (drop k names) t)
  unfolding NamesTold ends_well run moved past only_if
  names_told [] m s k l = rw (drop-cons names k 0 l, past) (not_ended s g k line.early)
  names_told (b ∷ t) m s k l =
      subst (λ (N : List ℕ). NamesTold g h k₁ m s k (b ∷ t) (past N (b ∷ t))) (sym (drop-cons names k 0 l))
      (go (λ z. names_told t m s (suc k) z) (eqb b (get_or names k 0)) refl (ltb (k + 1) (length names)) refl) where
        go : (suc k < length names → NamesTold g h k₁ m s (suc k) t (past (drop (suc k) names) t)) → (x : Bool) → eqb b (get_or names k 0) ≡ x → (y : Bool)
            → ltb (k + 1) (length names) ≡ y → NamesTold g h k₁ m s k (b ∷ t) (only_if x (past (drop (suc k) names) t))
        go i false q y w = refuses m s k b t l q
        go i true q true w =
            let z : k + 1 < length names = ltb-true _ _ w in
            same_rest m s k b t (name_step m s (begun s g (suc k)) k b (byte_on names g h k₁ k s b z q) (line.here s (suc k)).0 (line.here s (suc k)).1) (past (drop (suc k) names) t) (i (omega arith))
        go i true q false w =
            let z : length names ≤ k + 1 = ltb-false _ _ w in
            rw (drop_of_length-le names {i = suc k} (omega arith), past)
            (ap (λ (n : Machine). run n t) (name_step m s (begun s h k₁) k b (byte_last names g h k₁ k s b l z q) (line.next s).0 (line.next s).1))
