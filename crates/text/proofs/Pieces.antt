-- A text in pieces is the text in one piece; what the machine holds at its end is what the text says.
use Rattle.std.specs.Prelude.{Ok, Err}
use Rattle.std.proofs.Common.{◌≡◌, ℕ, ◌<◌, ◌≤◌, Bool, true, false, ltb, List, [], map, length, get_or, take, replicate, sym, refl, ap, ◌∙◌, subst, arith, take_all, ltb-false, ltb-true}
use mathlib.Core.Option.{Option, none, some}
use lib.Ieee.{Float}
use Rattle.settings.specs.declared.config.Config.{Config}
use Rattle.settings.specs.declared.refusal.Refusal.{Refusal}
use Rattle.settings.specs.Checks.{Checked}
use Rattle.settings.specs.Settings.{check_config}
use Rattle.text.specs.declared.Input.{Input}
use Rattle.text.specs.declared.Reader.{Reader}
use Rattle.text.specs.declared.field.Field.{Field as Kept}
use Rattle.text.specs.Fields.{Field, bad}
use Rattle.text.specs.Form.{Lines, lines_of}
use Rattle.text.specs.Values.{FixLine, config_of, fix_of, Read, outside, inside, values_of, read, lengths_of, Columns, columns}
use Rattle.text.proofs.TracesRise.{TracesRise}
use Rattle.text.specs.Parsed.{Parsed, too_many, unless_many, at_most768, parsed, with_columns, filled, Parses}
use Rattle.text.specs.Machine.{Machine, machine, unread, field_at, run, initial, ended, start_reader, holding, Fed, config_in}
use Rattle.text.specs.Pieces.{first_fixes, finished_if, finished, ReadAs, Finishes}
use Rattle.text.proofs.Rows.{kept}
use Rattle.text.proofs.Noted.{count_from, Contents, float_noted}
use Rattle.text.proofs.Reading.{Says, text_read}
use Rattle.text.proofs.Columns.{noted_into, count_few, count_many}
use Rattle.text.proofs.Lengths.{traces_counted, lens_noted}

-- What is outside the form is not inside it.
not_inside : {A : Type 0} (s : Config) (ls : List FixLine) → ◌≡◌ {A = Read} outside (inside s ls) → A
not_inside s ls q = absurd (let z : ◌≡◌ {A = ℕ} 0 1 = cc in omega arith)

-- ---- the settings

config_read : (f : List Field) (fields : List Kept) → ((i : ℕ) → i < 7 → field_at fields i ≡ kept (get_or f i bad)) → config_in fields ≡ config_of f
unfolding config_in config_of kept
config_read f fields z =
    rw (
      z 0 (omega arith),
      z 1 (omega arith),
      z 2 (omega arith),
      z 3 (omega arith),
      z 4 (omega arith),
      z 5 (omega arith),
      z 6 (omega arith),
      float_noted (get_or f 0 bad),
      float_noted (get_or f 1 bad),
      float_noted (get_or f 3 bad),
      float_noted (get_or f 4 bad),
    )

-- 769 stands for more than 768.
many_counted : (c : Config) (ps : List FixLine) (k : ℕ) → at_most768 c (count_from 0 ps) k ≡ at_most768 c (length ps) k
unfolding at_most768 unless_many
many_counted c ps k = go (ltb 768 (length ps)) refl
  where
    go : (b : Bool) → ltb 768 (length ps) ≡ b → unless_many (ltb 768 (count_from 0 ps)) c (count_from 0 ps) k ≡ unless_many (ltb 768 (length ps)) c (length ps) k
    go true e =
        let h : 768 < length ps = ltb-true 768 (length ps) e in
        rw (e, count_many ps 0 (omega arith) (omega arith))
    go false e =
        let h : length ps ≤ 768 = ltb-false 768 (length ps) e in
        let n : count_from 0 ps ≡ length ps = omega (arith, count_few ps 0 (omega arith)) in
        rw n

-- ---- the end of the text

same_columns : (c d : Columns) → c.xs ≡ d.xs → c.ys ≡ d.ys → c.times ≡ d.times → c.marks ≡ d.marks → c.lens ≡ d.lens → c ≡ d
same_columns c d x y t m l = go x y t m l
  where
    go : {xs ys times xs₁ ys₁ times₁ : List Float} {marks lens marks₁ lens₁ : List ℕ} → xs ≡ xs₁ → ys ≡ ys₁ → times ≡ times₁ → marks ≡ marks₁ → lens ≡ lens₁
        → columns xs ys times marks lens ≡ columns xs₁ ys₁ times₁ marks₁ lens₁
    go x y t m l = rw (x, y, t, m, l)

module _ (c : Columns) (t : List ℕ) (r : Reader) (c' : Columns) where
  -- The lines of a text, as the machine holds them that began with the slices c.
  abbrev HoldsLines : Lines → Machine → Type 0
  HoldsLines l = Contents (holding start_reader c) initial l.settings (map fix_of l.fixes)

  fed_says : Fed c t r c' → Says HoldsLines (lines_of t) (holding r c')
  unfolding start_reader
  fed_says f = subst (Says HoldsLines (lines_of t)) (sym f.fed) (text_read t _ _ _ _ _ _ refl)

  -- A text in the form.
  in_lines : (f : List Field) (ps : List FixLine) → Contents (holding start_reader c) initial f ps (holding r c')
      → (at_most768 (config_in r.fields) r.state.fixes r.state.traces ≡ parsed (inside (config_of f) ps)) × (c' ≡ with_columns c (first_fixes ps))
  unfolding start_reader initial parsed lengths_of with_columns
  in_lines f ps k = (
    ap (λ (s : Config). at_most768 s r.state.fixes r.state.traces) (config_read f r.fields k.fields)
        ∙ ap (λ (n : ℕ). at_most768 (config_of f) n r.state.traces) k.fixes
        ∙ many_counted (config_of f) ps r.state.traces
        ∙ ap (at_most768 (config_of f) (length ps)) (k.traces ∙ traces_counted ps [] 0 refl k.rising),
    same_columns c' _
        (k.xs ∙ noted_into (λ p. p.x) c.xs ps)
        (k.ys ∙ noted_into (λ p. p.y) c.ys ps)
        (k.times ∙ noted_into _ c.times ps)
        (k.marks ∙ noted_into _ c.marks ps)
        (k.lens ∙ lens_noted c.lens ps k.rising),
  )

  -- What was read, whatever its pieces were.
  fed_read : Fed c t r c' → ReadAs c t (finished r) c'
  unfolding finished read values_of finished_if parsed Says
  fed_read f = go (lines_of t) refl (fed_says f)
    where
      go : (L : Option Lines) → lines_of t ≡ L → Says HoldsLines L (holding r c') → ReadAs c t (finished_if (ended r.state) r) c'
      go none e n = record { answer = rw (n, e); slices = λ s. λ ls. λ q. not_inside s ls (rw e at q) }
      go (some l) e n =
          let w = in_lines l.settings (map fix_of l.fixes) n.1 in
          record {
            answer = rw (n.0, e) w.0;
            slices = λ s. λ ls. λ q.
                let z : inside (config_of l.settings) (map fix_of l.fixes) ≡ inside s ls = rw e at q in
                let v : map fix_of l.fixes ≡ ls = cc in
                rw (← v) w.1;
          }

-- `finish`: the text was read.
pub fed_end : {r : Reader} {p : Parsed} → p ≡ finished r → Finishes r p
fed_end {r} {p} e = record { equation = e; end = λ {c} {c'} {t} f. rw e (fed_read c t r c' f) }

-- The machine before the first byte, without slices.
abbrev empty : Machine
empty = machine initial (replicate 11 unread) [] [] [] [] []

-- The traces of a text rise from 0 without gaps.
pub rises : (t : List ℕ) (c : Config) (ps : List FixLine) → read t ≡ inside c ps → TracesRise 0 ps
unfolding read values_of initial Says
rises t c ps q = go (lines_of t) refl (text_read t (replicate 11 unread) [] [] [] [] [] refl)
  where
    go : (L : Option Lines) → lines_of t ≡ L → Says (λ (l : Lines). Contents empty initial l.settings (map fix_of l.fixes)) L (run empty t) → TracesRise 0 ps
    go none e n = not_inside c ps (rw e at q)
    go (some l) e n =
        let z : inside (config_of l.settings) (map fix_of l.fixes) ≡ inside c ps = rw e at q in
        let v : map fix_of l.fixes ≡ ps = cc in
        subst (TracesRise 0) v n.1.rising

-- ---- a text in one piece

-- A text that is taken has at most 768 fixes.
few : (i : Input) (c : Config) (ls : List FixLine) → Ok i ≡ parsed (inside c ls) → first_fixes ls ≡ ls
unfolding parsed at_most768 unless_many first_fixes too_many
few i c ls h = go (ltb 768 (length ls)) refl
  where
    never : (v : Checked) → Ok i ≡ too_many v → ⊥
    never (Ok x) e = cc
    never (Err x) e = cc

    go : (b : Bool) → ltb 768 (length ls) ≡ b → take 768 ls ≡ ls
    go true e = absurd (never (check_config c) (rw e at h))
    go false e = take_all 768 ls (ltb-false 768 (length ls) e)

outside_refused : (i : Input) → Ok i ≡ parsed outside → ⊥
unfolding parsed
outside_refused i e = cc

-- What `parse` does with a text that is refused, and with one that is taken.
pub parses_refused : {t : List ℕ} {c : Columns} {e : Refusal} → Err e ≡ parsed (read t) → Parses t c (Err e) c
unfolding filled
parses_refused a = record { answer = a; slices = refl }

pub parses_whole : {t : List ℕ} {c c' : Columns} {i : Input} {q : Reader} → Fed c t q c' → Ok i ≡ parsed (read t) → Parses t c (Ok i) c'
unfolding filled
parses_whole {t} {c} {c'} {i} {q} f a = record { answer = a; slices = go (read t) refl a }
  where
    go : (w : Read) → read t ≡ w → Ok i ≡ parsed w → c' ≡ filled (Ok i) w c
    go outside p a = absurd (outside_refused i a)
    go (inside s ls) p a = (fed_read c t q c' f).slices s ls p ∙ ap (with_columns c) (few i s ls a)
