-- What the machine notes: the settings in its fields, and of each fix line a value in each slice.
use Rattle.std.proofs.Common.{◌≡◌, ℕ, suc, ◌+◌, ◌<◌, Bool, true, false, cond, ◌&&◌, ◌||◌, eqb, ltb, ◌⊎◌, List, [], ◌∷◌, length, get_or, refl, ap, ◌∙◌, subst, inl, inr, arith, eqb-true}
use lib.Ieee.{Float}
use Rattle.lists.proofs.Tests.{and_right}
use Rattle.text.specs.declared.state.State.{State}
use Rattle.text.specs.declared.state.Stage.TheVariants.{Fixes}
use Rattle.text.specs.declared.field.Field.{Field as Kept}
use Rattle.text.specs.Fields.{Field, number, dash, bad, is_natural, is_whole, size_of, float_of, field_time}
use Rattle.text.specs.Form.{fix_in, trace_number}
use Rattle.text.specs.Values.{FixLine, fix_of, time_value, time_mark}
use Rattle.text.proofs.TracesRise.{TracesRise}
use Rattle.text.specs.Machine.{field_at, signed_whole, sign_mark, more, Machine, begun, fix_ok, noted, counted, set_line, fix_line, judged, stored, set_if}
use Rattle.text.proofs.Numbers.{sign_of}
use Rattle.text.proofs.Fields.{moved}
use Rattle.text.proofs.Rows.{settle, finish, kept, field_noted, fields_noted}
use Rattle.text.proofs.Judged.{field_before, field_kept}
use Rattle.text.proofs.Finished.{finish_fields}

-- ---- what the machine notes of a list of fixes

-- A value of each of the first 768, put at its place.
unfoldable pub note : {A : Type 0} → (FixLine → A) → List A → ℕ → List FixLine → List A
note f l n [] = l
note f l n (p ∷ ps) = note f (set_if (ltb n 768) l n (f p)) (more n) ps

-- How many, counted on from n up to 769.
unfoldable pub count_from : ℕ → List FixLine → ℕ
count_from n [] = n
count_from n (p ∷ ps) = count_from (more n) ps

-- The length of the last trace after a fix of trace t: there were n traces, the last of k fixes.
unfoldable pub len_after : ℕ → ℕ → ℕ → ℕ
len_after n k t = cond (eqb t n) 1 (more k)

-- The trace lengths, after c fixes in n traces, the last of k fixes.
unfoldable pub note_lens : List ℕ → ℕ → ℕ → ℕ → List FixLine → List ℕ
note_lens l c n k [] = l
note_lens l c n k (p ∷ ps) = note_lens (set_if (ltb c 768) l p.trace (len_after n k p.trace)) (more c) (p.trace + 1) (len_after n k p.trace) ps

unfoldable pub traces_from : ℕ → List FixLine → ℕ
traces_from n [] = n
traces_from n (p ∷ ps) = traces_from (p.trace + 1) ps

-- The machine n after the fixes ps, from the machine m at the state s. Its settings are the fields f.
pub record Held (m : Machine) (s : State) (ps : List FixLine) (f : ℕ → Kept) (n : Machine) : Type 0 where
  pub xs : n.xs ≡ note (λ p. p.x) m.xs s.fixes ps
  pub ys : n.ys ≡ note (λ p. p.y) m.ys s.fixes ps
  pub times : n.times ≡ note (λ p. time_value p.time) m.times s.fixes ps
  pub marks : n.marks ≡ note (λ p. time_mark p.time) m.marks s.fixes ps
  pub lens : n.lens ≡ note_lens m.lens s.fixes s.traces s.len ps
  pub fixes : n.at.fixes ≡ count_from s.fixes ps
  pub traces : n.at.traces ≡ traces_from s.traces ps
  pub rising : TracesRise s.traces ps
  pub fields : (i : ℕ) → i < 7 → field_at n.fields i ≡ f i

-- With the settings of m.
abbrev pub Holds : Machine → State → List FixLine → Machine → Type 0
Holds m s ps n = Held m s ps (λ i. field_at m.fields i) n

-- With the settings f.
abbrev pub Contents : Machine → State → List Field → List FixLine → Machine → Type 0
Contents m s f ps n = Held m s ps (λ i. kept (get_or f i bad)) n

-- ---- one fix

pub float_noted : (F : Field) → signed_whole (kept F) ≡ float_of F
unfolding signed_whole kept sign_of size_of float_of
float_noted (number true v) = refl
float_noted (number false v) = refl
float_noted dash = refl
float_noted bad = refl

time_noted : (F : Field) → signed_whole (kept F) ≡ time_value (field_time F)
unfolding signed_whole kept sign_of size_of float_of field_time time_value
time_noted (number true v) = refl
time_noted (number false v) = refl
time_noted dash = refl
time_noted bad = refl

mark_noted : (F : Field) → sign_mark (kept F).sign ≡ time_mark (field_time F)
unfolding sign_mark kept sign_of field_time time_mark
mark_noted (number true v) = refl
mark_noted (number false v) = refl
mark_noted dash = refl
mark_noted bad = refl

-- What a fix line leaves.
fix_left : (m : Machine) (s : State) → fix_ok m.fields (begun s Fixes 11) ≡ true →
    ((finish Fixes 10 m s).xs ≡ set_if (ltb s.fixes 768) m.xs s.fixes (signed_whole (field_at m.fields 8)))
    × ((finish Fixes 10 m s).ys ≡ set_if (ltb s.fixes 768) m.ys s.fixes (signed_whole (field_at m.fields 9)))
    × ((finish Fixes 10 m s).times ≡ set_if (ltb s.fixes 768) m.times s.fixes (signed_whole (field_at m.fields 10)))
    × ((finish Fixes 10 m s).marks ≡ set_if (ltb s.fixes 768) m.marks s.fixes (sign_mark (field_at m.fields 10).sign))
    × ((finish Fixes 10 m s).lens ≡ set_if (ltb s.fixes 768) m.lens (field_at m.fields 7).size (counted (field_at m.fields 7).size (begun s Fixes 11)).len)
unfolding finish settle judged set_line fix_line noted begun stored counted
fix_left m s e = (rw e, rw e, rw e, rw e, rw e)

noted_keeps : (fs : List Field) (m : Machine) (k : ℕ)
    → ((fields_noted m k fs).xs ≡ m.xs) × ((fields_noted m k fs).ys ≡ m.ys) × ((fields_noted m k fs).times ≡ m.times) × ((fields_noted m k fs).marks ≡ m.marks) × ((fields_noted m k fs).lens ≡ m.lens)
unfolding fields_noted field_noted
noted_keeps [] m k = (refl, refl, refl, refl, refl)
noted_keeps (F ∷ fs) m k = noted_keeps fs (field_noted m k F) (suc k)

pub counted_len : (n : ℕ) (s : State) (t : ℕ) → n ≡ t → (counted n (begun s Fixes 11)).len ≡ len_after s.traces s.len t
unfolding counted begun len_after
counted_len n s t e = rw e

counted_note : (b : Bool) (l l₁ : List ℕ) (n : ℕ) (s : State) (t : ℕ) → l ≡ l₁ → n ≡ t
    → set_if b l n (counted n (begun s Fixes 11)).len ≡ set_if b l₁ t (len_after s.traces s.len t)
counted_note b l l₁ n s t p e =
    ap (λ (k : ℕ). set_if b l n k) (counted_len n s t e)
    ∙ ap (λ (k : ℕ). set_if b l k (len_after s.traces s.len t)) e
    ∙ ap (λ (k : List ℕ). set_if b k t (len_after s.traces s.len t)) p

either : (a b : Bool) {A B : Type 0} → (a ≡ true → A) → (b ≡ true → B) → (a || b) ≡ true → A ⊎ B
either true b f g e = inl (f refl)
either false b f g e = inr (g e)

-- The trace of a fix line is the next one, or the last again.
next_or_last : (n : ℕ) (fs : List Field) → fix_in n fs ≡ true → (trace_number fs ≡ n) ⊎ (trace_number fs + 1 ≡ n)
unfolding fix_in
next_or_last n fs e =
    either (eqb (trace_number fs) n) (eqb (trace_number fs + 1) n) (λ q. eqb-true _ _ q) (λ q. eqb-true _ _ q)
    (and_right (is_natural (get_or fs 0 bad) && is_whole (get_or fs 1 bad) && is_whole (get_or fs 2 bad)) (eqb (trace_number fs) n || eqb (trace_number fs + 1) n) e)

-- Its trace.
pub first_size : (fs : List Field) (m : Machine) → length fs ≡ 4 → length m.fields ≡ 11 → (field_at (fields_noted m 7 fs).fields 7).size ≡ trace_number fs
unfolding kept
first_size fs m l z = ap (λ (f : Kept). f.size) (field_kept fs m 7 0 (omega arith) (omega arith))

-- A fix line before others.
pub holds_on : (fs : List Field) (ps : List FixLine) (m : Machine) (s S : State) (n : Machine) → length fs ≡ 4 → length m.fields ≡ 11
    → fix_in s.traces fs ≡ true → fix_ok (fields_noted m 7 fs).fields (begun s Fixes 11) ≡ true
    → S.fixes ≡ more s.fixes → S.traces ≡ trace_number fs + 1 → S.len ≡ len_after s.traces s.len (trace_number fs)
    → Holds (finish Fixes 10 (fields_noted m 7 fs) s) S ps n → Holds m s (fix_of fs ∷ ps) n
unfolding note count_from note_lens traces_from TracesRise fix_of
holds_on fs ps m s S n l z i e f st sl h =
    let k = noted_keeps fs m 7 in
    let w = fix_left (fields_noted m 7 fs) s e in
    let X = finish Fixes 10 (fields_noted m 7 fs) s in
    let b = ltb s.fixes 768 in
    let x1 : X.xs ≡ set_if b m.xs s.fixes (float_of (get_or fs 1 bad)) =
    w.0 ∙ rw (k.0, field_kept fs m 7 1 (omega arith) (omega arith), float_noted (get_or fs 1 bad)) in
    let y1 : X.ys ≡ set_if b m.ys s.fixes (float_of (get_or fs 2 bad)) =
    w.1 ∙ rw (k.1, field_kept fs m 7 2 (omega arith) (omega arith), float_noted (get_or fs 2 bad)) in
    let t1 : X.times ≡ set_if b m.times s.fixes (time_value (field_time (get_or fs 3 bad))) =
    w.2 ∙ rw (k.2, field_kept fs m 7 3 (omega arith) (omega arith), time_noted (get_or fs 3 bad)) in
    let m1 : X.marks ≡ set_if b m.marks s.fixes (time_mark (field_time (get_or fs 3 bad))) =
    w.3 ∙ rw (k.3, field_kept fs m 7 3 (omega arith) (omega arith), mark_noted (get_or fs 3 bad)) in
    let l1 : X.lens ≡ set_if b m.lens (trace_number fs) (len_after s.traces s.len (trace_number fs)) =
    w.4 ∙ counted_note b (fields_noted m 7 fs).lens m.lens (field_at (fields_noted m 7 fs).fields 7).size s (trace_number fs) k.4 (first_size fs m l z) in
    record {
      xs = h.xs ∙ rw (x1, f);
      ys = h.ys ∙ rw (y1, f);
      times = h.times ∙ rw (t1, f);
      marks = h.marks ∙ rw (m1, f);
      lens = h.lens ∙ rw (l1, f, st, sl);
      fixes = h.fixes ∙ rw f;
      traces = h.traces ∙ rw st;
      rising = (next_or_last s.traces fs i, subst (λ (t : ℕ). TracesRise t ps) st h.rising);
      fields = λ j. λ q. h.fields j q ∙ ap (λ (r : List Kept). field_at r j) (finish_fields Fixes 10 (fields_noted m 7 fs) s) ∙ field_before fs m 7 j q;
    }

-- ---- the fixes

pub counted_fixes : (n : ℕ) (s : State) → (counted n (begun s Fixes 11)).fixes ≡ more s.fixes
unfolding counted begun
counted_fixes n s = refl

pub holds_none : (m : Machine) (s : State) → Holds m s [] (moved m (begun s Fixes 7))
unfolding note count_from note_lens traces_from TracesRise moved begun
holds_none m s = record { xs = refl; ys = refl; times = refl; marks = refl; lens = refl; fixes = refl; traces = refl; rising = tt; fields = λ i. λ q. refl }

-- ---- the settings before them

noted_field : (fs : List Field) (m : Machine) (i : ℕ) → i < 7 → length fs ≡ 7 → length m.fields ≡ 11 → field_at (fields_noted m 0 fs).fields i ≡ kept (get_or fs i bad)
noted_field fs m i q l z = let e : 0 + i ≡ i = omega arith in rw e at (field_kept fs m 0 i (omega arith) (omega arith))

-- With the settings fs noted in front.
pub contents_on : (fs : List Field) (m : Machine) (s : State) (ps : List FixLine) (n : Machine) → length fs ≡ 7 → length m.fields ≡ 11
    → Holds (fields_noted m 0 fs) s ps n → Contents m s fs ps n
contents_on fs m s ps n l z h =
    let k = noted_keeps fs m 0 in
    record {
      xs = h.xs ∙ ap (λ (l : List Float). note (λ p. p.x) l s.fixes ps) k.0;
      ys = h.ys ∙ ap (λ (l : List Float). note (λ p. p.y) l s.fixes ps) k.1;
      times = h.times ∙ ap (λ (l : List Float). note (λ p. time_value p.time) l s.fixes ps) k.2;
      marks = h.marks ∙ ap (λ (l : List ℕ). note (λ p. time_mark p.time) l s.fixes ps) k.3;
      lens = h.lens ∙ ap (λ (l : List ℕ). note_lens l s.fixes s.traces s.len ps) k.4;
      fixes = h.fixes;
      traces = h.traces;
      rising = h.rising;
      fields = λ i. λ q. h.fields i q ∙ noted_field fs m i q l z;
    }
