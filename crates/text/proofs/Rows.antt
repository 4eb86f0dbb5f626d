-- A line of values in a text: `run` of `Machine` against `row_of` of `Form`.
use Rattle.std.proofs.Common.{◌≡◌, ℕ, zero, suc, ◌+◌, ◌<◌, ◌≤◌, Bool, true, false, ◌⊎◌, List, [], ◌∷◌, set, sym, refl, ap, ◌∙◌, subst, inl, inr, ⊎_elim, add-one, arith, le-ltb, lt-ltb, eq-eqb, unwrap_or}
use mathlib.Core.Option.{Option, none, some, bind, map}
use Rattle.text.specs.declared.state.State.{State}
use Rattle.text.specs.declared.state.Stage.{Stage}
use Rattle.text.specs.declared.state.Stage.TheVariants.{Outside}
use Rattle.text.specs.declared.field.Sign.{Sign}
use Rattle.text.specs.declared.field.Field.{Field as Kept}
use Rattle.text.proofs.Numbers.{field_bytes, sign_of, Ok, Reads, field_read}
use Rattle.text.proofs.Fields.{moved, ends_well, stuck, Line, Told, told, blank, idle}
use Rattle.text.specs.Fields.{Field, bad, field_of, size_of, is_field, number, dash}
use Rattle.text.specs.Form.{only_if, cut, row_of}
use Rattle.text.specs.Machine.{Machine, refused, begun, field_sign, empty_sign, ends, end_of, after, row_byte, row_fields, lexed, lexed_fields, field_at, judged, stored, set_if, signed_whole, sign_mark, step, run, ended}

-- A machine after a byte that leads to the state t and the fields fs.
unfoldable pub settle : Machine → State → List Kept → Machine
settle m t fs =
    let r = judged fs t in
    record {
      at = r;
      fields = fs;
      xs = set_if (stored t r) m.xs t.fixes (signed_whole (field_at fs 8));
      ys = set_if (stored t r) m.ys t.fixes (signed_whole (field_at fs 9));
      times = set_if (stored t r) m.times t.fixes (signed_whole (field_at fs 10));
      marks = set_if (stored t r) m.marks t.fixes (sign_mark (field_at fs 10).sign);
      lens = set_if (stored t r) m.lens (field_at fs 7).size r.len;
    }

-- A field as it is kept.
unfoldable pub kept : Field → Kept
kept F = record { size = size_of F; sign = sign_of F }

same_kept : (v w : ℕ) (g h : Sign) → v ≡ w → g ≡ h → ◌≡◌ {A = Kept} (record { size = v; sign = g }) (record { size = w; sign = h })
same_kept v w g h p q = rw (p, q)

-- Field k noted.
unfoldable pub field_noted : Machine → ℕ → Field → Machine
field_noted m k F = record { at = m.at; fields = set m.fields k (kept F); xs = m.xs; ys = m.ys; times = m.times; marks = m.marks; lens = m.lens }

-- A line taken whole.
unfoldable pub finish : Stage → ℕ → Machine → State → Machine
finish g last m s = settle m (begun s g (last + 1)) m.fields

step_is : (m : Machine) (b : ℕ) → step m b ≡ settle m (lexed m.at b) (lexed_fields m.at b m.fields)
unfolding step settle
step_is m b = refl

row_end : (last : ℕ) (S : State) (b : ℕ) → ends last S b ≡ true → empty_sign (field_sign S) ≡ false → row_byte last S b ≡ begun S S.stage (after last S.k)
unfolding row_byte
row_end last S b e h = simp (e, h)

row_bad : (last : ℕ) (S : State) (b : ℕ) → ends last S b ≡ true → empty_sign (field_sign S) ≡ true → row_byte last S b ≡ refused S
unfolding row_byte
row_bad last S b e h = simp (e, h)

row_fields_lem : (last : ℕ) (S : State) (b : ℕ) (l : List Kept) → ends last S b ≡ true → row_fields last S b l ≡ set l S.k (record { size = unwrap_or S.value 0; sign = field_sign S })
unfolding row_fields
row_fields_lem last S b l e = simp e

ends_here : (last k : ℕ) (S : State) → S.k ≡ k → ends last S (end_of last k) ≡ true
unfolding ends
ends_here last k S e = rw e (eq-eqb (end_of last k) (end_of last k) refl)

bad_run : (m n : Machine) (t r : List ℕ) → run m t ≡ run n r → n.at.stage ≡ Outside → ends_well m t ≡ false
unfolding ends_well
bad_run m n t r p h = ap (λ (q : Machine). ended q.at) p ∙ stuck n r h

module _ (g : Stage) (last : ℕ) (line : Line g last) where
  -- The byte that ends a field.
  end_step : (m : Machine) (s : State) (k : ℕ) (F : Field) (S : State) → Ok s g k F S → empty_sign (sign_of F) ≡ false
      → step (moved m S) (end_of last k) ≡ settle (field_noted m k F) (begun s g (after last k)) (field_noted m k F).fields
  unfolding moved field_noted kept settle
  end_step m s k F S o h =
      let n = ends_here last k S o.field in
      let p : lexed S (end_of last k) ≡ begun s g (after last k) = line.lexes S (end_of last k) o.stage ∙ row_end last S (end_of last k) n (ap empty_sign o.sign ∙ h) ∙ o.same S.stage (after last S.k) ∙ rw (o.stage, o.field) in
      let z : lexed_fields S (end_of last k) m.fields ≡ set m.fields k (kept F) =
      line.fields S (end_of last k) m.fields o.stage
      ∙ row_fields_lem last S (end_of last k) m.fields n
      ∙ ap (λ (f : Kept). set m.fields S.k f) (same_kept _ _ _ _ o.size o.sign)
      ∙ ap (λ (j : ℕ). set m.fields j (kept F)) o.field in
      step_is (moved m S) (end_of last k)
      ∙ ap (λ (t : State). settle m t (lexed_fields S (end_of last k) m.fields)) p
      ∙ ap (λ (l : List Kept). settle m (begun s g (after last k)) l) z

  -- The byte that ends what is no field.
  bad_step : (m : Machine) (k : ℕ) (S : State) → S.stage ≡ g → S.k ≡ k → k ≤ last → empty_sign (field_sign S) ≡ true → (step (moved m S) (end_of last k)).at.stage ≡ Outside
  unfolding step moved refused
  bad_step m k S e d h b =
      let p : lexed S (end_of last k) ≡ refused S = line.lexes S (end_of last k) e ∙ row_bad last S (end_of last k) (ends_here last k S d) b in
      let w = line.within (refused S) (rw d h) (inr refl) in
      rw p (rw (idle _ (refused S) w.0 w.1) refl)

  -- A field: it is taken, or the text is refused.
  pub Fielded : Machine → State → ℕ → List ℕ → List ℕ → List ℕ → Type 0
  Fielded m s k t f r =
      ((empty_sign (sign_of (field_of f)) ≡ false) × (run (moved m (begun s g k)) t ≡ run (settle (field_noted m k (field_of f)) (begun s g (after last k)) (field_noted m k (field_of f)).fields) r))
      ⊎ ((empty_sign (sign_of (field_of f)) ≡ true) × (ends_well (moved m (begun s g k)) t ≡ false))

  fielded : (m : Machine) (s : State) (k : ℕ) → k ≤ last → (t f r : List ℕ) → Told g (end_of last k) (moved m (begun s g k)) t (some (f, r)) → Fielded m s k t f r
  unfolding Fielded Told moved begun field_bytes field_of sign_of field_sign Reads
  fielded m s k h t [] r T = inr (refl, bad_run (moved m (begun s g k)) (step (moved m (begun s g k)) (end_of last k)) t r (T.0 refl) (bad_step m k (begun s g k) refl refl h refl))
  fielded m s k h t (x ∷ f) r T = ⊎_elim
      (λ o. go o (empty_sign (sign_of (field_of (x ∷ f)))) refl)
      (λ w. inr (ap (λ (F : Field). empty_sign (sign_of F)) w.0, T.1 w.1))
      (field_read s g k (x ∷ f) (λ q. cc)) where
        go : Ok s g k (field_of (x ∷ f)) (field_bytes (begun s g k) (x ∷ f)) → (b : Bool) → empty_sign (sign_of (field_of (x ∷ f))) ≡ b → Fielded m s k t (x ∷ f) r
        go o false e = inl (e, T.0 o.stage ∙ ap (λ (n : Machine). run n r) (end_step m s k (field_of (x ∷ f)) (field_bytes (begun s g k) (x ∷ f)) o e))
        go o true e = inr (
          e,
          bad_run (moved m (begun s g k)) (step (moved m (field_bytes (begun s g k) (x ∷ f))) (end_of last k)) t r (T.0 o.stage)
              (bad_step m k (field_bytes (begun s g k) (x ∷ f)) o.stage o.field h (ap empty_sign o.sign ∙ e)),
        )

-- ---- a whole line

-- The bytes that end n fields and one more.
unfoldable pub tail : ℕ → List ℕ
tail zero = 10 ∷ []
tail (suc n) = 32 ∷ tail n

-- Fields noted from k on.
unfoldable pub fields_noted : Machine → ℕ → List Field → Machine
fields_noted m k [] = m
fields_noted m k (F ∷ fs) = fields_noted (field_noted m k F) (suc k) fs

is_field_lem : (F : Field) → empty_sign (sign_of F) ≡ false → is_field F ≡ true
unfolding is_field sign_of
is_field_lem (number n v) h = refl
is_field_lem dash h = refl
is_field_lem bad h = cc

is_none : (F : Field) → empty_sign (sign_of F) ≡ true → is_field F ≡ false
unfolding is_field sign_of
is_none (number true v) h = cc
is_none (number false v) h = cc
is_none dash h = cc
is_none bad h = refl

after_last : (last k : ℕ) → k ≡ last → after last k ≡ last + 1
unfolding after
after_last last k e = rw (le-ltb k last (omega arith))

after_mid : (last k : ℕ) → k < last → after last k ≡ suc k
unfolding after
after_mid last k h = rw (lt-ltb k last h) (add-one k)

end_last : (last k : ℕ) → k ≡ last → end_of last k ≡ 10
unfolding end_of
end_last last k e = rw (le-ltb k last (omega arith))

end_mid : (last k : ℕ) → k < last → end_of last k ≡ 32
unfolding end_of
end_mid last k h = rw (lt-ltb k last h)

-- A line's fields, and what follows them.
abbrev pub Row : Type 0
Row = Option (List Field × List ℕ)

-- A field before others.
abbrev pub add : Field → Row → Row
add F R = map (λ (r : List Field × List ℕ). (F ∷ r.0, r.1)) R

-- What a line says of the run.
unfoldable pub RowTold : Stage → ℕ → Machine → State → ℕ → List ℕ → Row → Type 0
RowTold g last m s k t none = blank (begun s g k) t ≡ false → ends_well (moved m (begun s g k)) t ≡ false
RowTold g last m s k t (some (fs, r)) = run (moved m (begun s g k)) t ≡ run (finish g last (fields_noted m k fs) s) r

blank_later : (s : State) (t : List ℕ) → ended s ≡ false → blank s t ≡ false
unfolding blank
blank_later s [] h = h
blank_later s (b ∷ t) h = refl

module _ (g : Stage) (last first : ℕ) (line : Line g last) (later : (s : State) (k : ℕ) → first ≤ k → ended (begun s g (suc k)) ≡ false) where
  settle_mid : (m : Machine) (s : State) (j : ℕ) → j ≤ last → settle m (begun s g j) m.fields ≡ moved m (begun s g j)
  unfolding settle stored set_if moved begun
  settle_mid m s j h =
      let w = line.within (begun s g j) h (inl refl) in
      rw (idle m.fields (begun s g j) w.0 w.1, w.1)

  row_true : (m : Machine) (s : State) (k : ℕ) (t : List ℕ) (R : Row) → RowTold g last m s k t R → RowTold g last m s k t (only_if true R)
  unfolding only_if
  row_true m s k t R p = p

  row_false : (m : Machine) (s : State) (k : ℕ) (t : List ℕ) (R : Row) → ends_well (moved m (begun s g k)) t ≡ false → RowTold g last m s k t (only_if false R)
  unfolding only_if RowTold
  row_false m s k t R p = λ w. p

  -- The last field.
  last_told : (m : Machine) (s : State) (k : ℕ) (t f r : List ℕ) → k ≡ last → Fielded g last line m s k t f r
      → RowTold g last m s k t (only_if (is_field (field_of f)) (add (field_of f) (some ([], r))))
  unfolding Fielded RowTold fields_noted finish only_if
  last_told m s k t f r e (inl p) =
      subst (λ (b : Bool). RowTold g last m s k t (only_if b (some ((field_of f ∷ []), r)))) (sym (is_field_lem (field_of f) p.0))
      (p.1 ∙ ap (λ (j : ℕ). run (settle (field_noted m k (field_of f)) (begun s g j) (field_noted m k (field_of f)).fields) r) (after_last last k e))
  last_told m s k t f r e (inr p) =
      subst (λ (b : Bool). RowTold g last m s k t (only_if b (some ((field_of f ∷ []), r)))) (sym (is_none (field_of f) p.0)) (λ w. p.1)

  -- A field before others.
  mid_on : (m : Machine) (s : State) (k : ℕ) (t f r : List ℕ) (R : Row) → first ≤ k
      → run (moved m (begun s g k)) t ≡ run (moved (field_noted m k (field_of f)) (begun s g (suc k))) r → RowTold g last (field_noted m k (field_of f)) s (suc k) r R
      → RowTold g last m s k t (add (field_of f) R)
  unfolding RowTold fields_noted ends_well
  mid_on m s k t f r none a n i = λ w. ap (λ (q : Machine). ended q.at) n ∙ i (blank_later (begun s g (suc k)) r (later s k a))
  mid_on m s k t f r (some (fs, q)) a n i = n ∙ i

  mid_told : (m : Machine) (s : State) (k : ℕ) (t f r : List ℕ) (R : Row) → k < last → first ≤ k → Fielded g last line m s k t f r
      → RowTold g last (field_noted m k (field_of f)) s (suc k) r R → RowTold g last m s k t (only_if (is_field (field_of f)) (add (field_of f) R))
  unfolding Fielded
  mid_told m s k t f r R h a (inl p) i =
      let n =
      p.1 ∙ ap (λ (j : ℕ). run (settle (field_noted m k (field_of f)) (begun s g j) (field_noted m k (field_of f)).fields) r) (after_mid last k h)
      ∙ ap (λ (q : Machine). run q r) (settle_mid (field_noted m k (field_of f)) s (suc k) (omega arith)) in
      subst (λ (b : Bool). RowTold g last m s k t (only_if b (add (field_of f) R))) (sym (is_field_lem (field_of f) p.0)) (row_true m s k t (add (field_of f) R) (mid_on m s k t f r R a n i))
  mid_told m s k t f r R h a (inr p) i = subst (λ (b : Bool). RowTold g last m s k t (only_if b (add (field_of f) R))) (sym (is_none (field_of f) p.0)) (row_false m s k t (add (field_of f) R) p.1)

  field_told : (m : Machine) (s : State) (k : ℕ) → k ≤ last → (t : List ℕ) → Told g (end_of last k) (moved m (begun s g k)) t (cut (end_of last k) t)
  unfolding moved begun
  field_told m s k h t = told g last line t (moved m (begun s g k)) k refl refl h

  none_told : (m : Machine) (s : State) (k : ℕ) (t : List ℕ) → Told g (end_of last k) (moved m (begun s g k)) t none → RowTold g last m s k t none
  unfolding Told RowTold moved
  none_told m s k t T = T

  pub row_told : (n k : ℕ) → k + n ≡ last → first ≤ k → (t : List ℕ) (m : Machine) (s : State) → RowTold g last m s k t (row_of (tail n) t)
  unfolding row_of tail bind
  row_told zero k e a t m s =
      go (cut 10 t) (subst (λ (b : ℕ). Told g (end_of last k) (moved m (begun s g k)) t (cut b t)) (end_last last k (omega arith)) (field_told m s k (omega arith) t)) where
        go : (c : Option (List ℕ × List ℕ)) → Told g (end_of last k) (moved m (begun s g k)) t c
            → RowTold g last m s k t (bind c (λ c. only_if (is_field (field_of c.0)) (add (field_of c.0) (row_of [] c.1))))
        go none T = none_told m s k t T
        go (some (f, r)) T = last_told m s k t f r (omega arith) (fielded g last line m s k (omega arith) t f r T)
  row_told (suc n) k e a t m s =
      go (λ r. λ f. row_told n (suc k) (omega arith) (omega arith) r (field_noted m k (field_of f)) s) (cut 32 t)
      (subst (λ (b : ℕ). Told g (end_of last k) (moved m (begun s g k)) t (cut b t)) (end_mid last k (omega arith)) (field_told m s k (omega arith) t)) where
        go : ((r f : List ℕ) → RowTold g last (field_noted m k (field_of f)) s (suc k) r (row_of (tail n) r)) → (c : Option (List ℕ × List ℕ))
            → Told g (end_of last k) (moved m (begun s g k)) t c
            → RowTold g last m s k t (bind c (λ c. only_if (is_field (field_of c.0)) (add (field_of c.0) (row_of (tail n) c.1))))
        go i none T = none_told m s k t T
        go i (some (f, r)) T = mid_told m s k t f r (row_of (tail n) r) (omega arith) a (fielded g last line m s k (omega arith) t f r T) (i r f)
