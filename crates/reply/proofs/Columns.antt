-- What a text that was read gives the fit: its columns stand in front of the slices, and the answer is the definition's.
use mathlib.Core.Path.{◌≡◌, refl, sym, ap, ◌∙◌, subst}
use mathlib.Core.Bool.{Bool, true, false}
use mathlib.Core.List.{List, [], ◌∷◌, map}
use Prim.Native.Nat.{ℕ, zero, suc, ◌+◌, ◌≤◌}
use native.Mathlib.Omega.{arith}
use borrow.Author.Tests.{ltb-false}
use lib.Dec.{ltb}
use lib.ListN.{length, take, replicate, length-replicate, length-map}
use lib.Seq.{take_all}
use Rattle.lists.specs.Lists.{overlay}
use Rattle.lists.proofs.Overlay.{take_front, length_overlay}
use Rattle.std.specs.Prelude.{Ok, Err}
use Rattle.float.specs.Binary64.{zero64}
use Rattle.settings.specs.declared.config.Config.{Config}
use Rattle.settings.specs.declared.refusal.Refusal.{Refusal}
use Rattle.settings.specs.declared.refusal.Refusal.TheVariants.{Text, Counts}
use Rattle.settings.specs.Checks.{Checked}
use Rattle.settings.specs.Settings.{check_config}
use Rattle.infostop.specs.Fit.{refused, unless_refused}
use Rattle.text.specs.declared.Input.{Input}
use Rattle.text.specs.Values.{FixLine, Read, outside, inside, read, time_value, time_mark, with_fix, lengths_from, lengths_of, Columns}
use Rattle.text.specs.Parsed.{Parsed, too_many, unless_many, at_most768, parsed, into, with_columns}
use Rattle.text.specs.Pieces.{first_fixes, ReadAs}
use Rattle.print.specs.Lines.{refusal_text}
use Rattle.print.specs.Written.{Writes}
use Rattle.reply.specs.declared.Form.{Form}
use Rattle.reply.specs.Program.{outcome_text, fixes_text, read_text, program_text, fresh_columns, FromText}
use Rattle.reply.specs.Steps.{Room, fit_text}

-- ---- the number of traces

more_few : (ns : List ℕ) (t : ℕ) → length (with_fix ns t) ≤ length ns + 1
unfolding with_fix
more_few [] t = omega arith
more_few (n ∷ ns) zero = omega arith
more_few (n ∷ ns) (suc t) = omega (arith, more_few ns t)

lengths_few : (ns : List ℕ) (ls : List FixLine) → length (lengths_from ns ls) ≤ length ns + length ls
unfolding lengths_from
lengths_few ns [] = omega arith
lengths_few ns (l ∷ ls) = omega (arith, more_few ns l.trace, lengths_few (with_fix ns l.trace) ls)

traces_few : (ls : List FixLine) → length (lengths_of ls) ≤ length ls
unfolding lengths_of
traces_few ls = omega (arith, lengths_few [] ls)

-- ---- a column in front of a slice of 768

module _ {A : Type 0} (d : A) (l s : List A) (few : length l ≤ 768) (e : s ≡ into (replicate 768 d) l) where
  front : s ≡ overlay l (replicate 768 d)
  unfolding into
  front = e ∙ ap (λ (z : List A). overlay z (replicate 768 d)) (take_all (length (replicate 768 d)) l (omega (arith, length-replicate 768 d)))

  pub column : (n : ℕ) → n ≡ length l → take n s ≡ l
  column n q = take_front l (replicate 768 d) s n q front

  pub column_long : length s ≡ 768
  column_long = ap length front ∙ length_overlay l (replicate 768 d) (omega (arith, length-replicate 768 d)) ∙ length-replicate 768 d

first_all : (ls : List FixLine) → length ls ≤ 768 → first_fixes ls ≡ ls
unfolding first_fixes
first_all ls h = take_all 768 ls h

-- ---- the answer

-- What was read into the fresh slices, as it is handed over.
pub from_text : {t : List ℕ} {p : Parsed} {a b c : Columns} → a ≡ fresh_columns → c ≡ b → ReadAs a t p b → FromText t p c
from_text e f r = rw (e, sym f) at r

pub writes_as : {t u out out' : List ℕ} {r : ℕ} → t ≡ u → Writes t out r out' → Writes u out r out'
writes_as {t} {u} {out} {out'} {r} e w = subst (λ (z : List ℕ). Writes z out r out') e w

not_both : {A : Type 0} (i : Input) (e : Refusal) → ◌≡◌ {A = Parsed} (Ok i) (Err e) → A
not_both i e q = absurd (cc)

same_refusal : (e f : Refusal) → ◌≡◌ {A = Parsed} (Err e) (Err f) → e ≡ f
same_refusal e f q = cc

same_input : (i j : Input) → ◌≡◌ {A = Parsed} (Ok i) (Ok j) → i ≡ j
same_input i j q = cc

many_text : (form : Form) (ls : List FixLine) (k : Checked) (e : Refusal) → too_many k ≡ Err e
    → outcome_text form (lengths_of ls) (unless_refused k (refused Counts)) ≡ refusal_text e
unfolding too_many unless_refused outcome_text
many_text form ls (Ok u) e q = ap refusal_text (same_refusal Counts e q)
many_text form ls (Err f) e q = ap refusal_text (same_refusal f e q)

refused_read : (form : Form) (q : Read) (e : Refusal) → parsed q ≡ Err e → read_text form q ≡ refusal_text e
unfolding parsed at_most768 read_text
refused_read form outside e p = ap refusal_text (same_refusal Text e p)
refused_read form (inside c ls) e p = go (ltb 768 (length ls)) p
  where
    go : (b : Bool) → unless_many b c (length ls) (length (lengths_of ls)) ≡ Err e → fixes_text form b c ls ≡ refusal_text e
    go true r = unfold unless_many fixes_text in many_text form ls (check_config c) e r
    go false r = unfold unless_many in not_both _ e r

-- What the columns are for the fit.
pub record Given (i : Input) (c : Columns) (q : Read) : Type 0 where
  pub room : Room i c
  pub text : (form : Form) → fit_text form i c ≡ read_text form q

module _ (s : Config) (ls : List FixLine) (few : length ls ≤ 768) (c : Columns) (e : c ≡ with_columns fresh_columns (first_fixes ls)) where
  abbrev input : Input
  input = record { config = s; fixes = length ls; traces = length (lengths_of ls) }

  all_of : {A : Type 0} (f : List FixLine → List A) (d : A) (s : List A) → s ≡ into (replicate 768 d) (f (first_fixes ls)) → s ≡ into (replicate 768 d) (f ls)
  all_of {A} f d s e = e ∙ ap (λ (z : List FixLine). into (replicate 768 d) (f z)) (first_all ls few)

  mapped : {A : Type 0} (f : FixLine → A) (d : A) (s : List A) → s ≡ into (replicate 768 d) (map f (first_fixes ls)) → (take (length ls) s ≡ map f ls) × (length s ≡ 768)
  mapped f d s e =
      let l = length-map ls f in
      let h : length (map f ls) ≤ 768 = omega arith in
      (column d (map f ls) s h (all_of (map f) d s e) (length ls) (sym l), column_long d (map f ls) s h (all_of (map f) d s e))

  lengths : (take (length (lengths_of ls)) c.lens ≡ lengths_of ls) × (length c.lens ≡ 768)
  unfolding with_columns
  lengths =
      let h : length (lengths_of ls) ≤ 768 = omega (arith, traces_few ls) in
      let k = all_of lengths_of 0 c.lens (ap (λ (d : Columns). d.lens) e) in
      (column 0 (lengths_of ls) c.lens h k (length (lengths_of ls)) refl, column_long 0 (lengths_of ls) c.lens h k)

  given : (b : Bool) → b ≡ false → ltb 768 (length ls) ≡ b → Given input c (inside s ls)
  unfolding read_text fixes_text with_columns
  given true p q = absurd (cc)
  given false p q =
      let x = mapped (λ (l : FixLine). l.x) zero64 c.xs (ap (λ (d : Columns). d.xs) e) in
      let y = mapped (λ (l : FixLine). l.y) zero64 c.ys (ap (λ (d : Columns). d.ys) e) in
      let t = mapped (λ (l : FixLine). time_value l.time) zero64 c.times (ap (λ (d : Columns). d.times) e) in
      let m = mapped (λ (l : FixLine). time_mark l.time) 0 c.marks (ap (λ (d : Columns). d.marks) e) in
      record {
        room = record {
          few_fixes = few;
          xs_room = omega (arith, x.1);
          ys_room = omega (arith, y.1);
          times_room = omega (arith, t.1);
          marks_room = omega (arith, m.1);
          lens_room = omega (arith, lengths.1, traces_few ls);
        };
        text = λ form. rw (x.0, y.0, t.0, m.0, lengths.0, q) refl;
      }

module _ {t : List ℕ} {p : Parsed} {c : Columns} (r : FromText t p c) where
  -- A refusal is the program's.
  pub refused_text : (form : Form) (e : Refusal) → p ≡ Err e → program_text form t ≡ refusal_text e
  unfolding program_text
  refused_text form e q = refused_read form (read t) e (sym r.answer ∙ q)

  -- Tracks are given to the fit as the text has them.
  pub tracks_text : (i : Input) → p ≡ Ok i → Given i c (read t)
  tracks_text i q = go (read t) refl (sym r.answer ∙ q)
    where
      go : (u : Read) → read t ≡ u → parsed u ≡ Ok i → Given i c u
      go outside e z = unfold parsed in not_both i Text (sym z)
      go (inside s ls) e z = within (ltb 768 (length ls)) refl (unfold parsed at_most768 in z)
        where
          within : (b : Bool) → ltb 768 (length ls) ≡ b → unless_many b s (length ls) (length (lengths_of ls)) ≡ Ok i → Given i c (inside s ls)
          within true y w = unfold unless_many in many (check_config s) w
            where
              many : (k : Checked) → too_many k ≡ Ok i → Given i c (inside s ls)
              many (Ok u) v = unfold too_many in not_both i Counts (sym v)
              many (Err f) v = unfold too_many in not_both i f (sym v)
          within false y w =
              let v : ◌≡◌ {A = Parsed} (Ok (record { config = s; fixes = length ls; traces = length (lengths_of ls) })) (Ok i) = unfold unless_many in w in
              subst (λ (j : Input). Given j c (inside s ls)) (same_input (record { config = s; fixes = length ls; traces = length (lengths_of ls) }) i v)
              (given s ls (ltb-false 768 (length ls) y) c (r.slices s ls e) false refl y)

  pub program_is : (form : Form) (i : Input) → p ≡ Ok i → fit_text form i c ≡ program_text form t
  unfolding program_text
  program_is form i q = (tracks_text i q).text form
