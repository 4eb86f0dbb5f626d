-- What a line of values holds, and how it is judged: `Machine` against `Form`.
use Rattle.std.proofs.Common.{◌≡◌, ℕ, zero, suc, ◌+◌, ◌<◌, ◌≤◌, Bool, true, false, cond, not, ◌&&◌, eqb, leb, List, [], ◌∷◌, length, get_or, refl, ◌∙◌, arith, length-set, get_or-set_other, get_or-set_same, le-leb, leb-true}
use mathlib.Core.Option.{Option, none, some, bind, map}
use Rattle.text.specs.declared.state.State.{State}
use Rattle.text.proofs.Numbers.{sign_of}
use Rattle.text.proofs.Rows.{kept, field_noted, fields_noted, Row, add}
use Rattle.text.specs.Fields.{Field, number, dash, bad, all_digits, size_from, digits_of, after_minus, field_of, size_of, is_whole, is_natural, is_field}
use Rattle.text.specs.Form.{only_if, cut, row_of, settings_in, fix_in}
use Rattle.text.specs.Machine.{Machine, whole_sign, natural_sign, unread, field_at, settings_ok, fix_ok}

-- ---- what a line holds

digits_small : (n : Bool) (ds : List ℕ) → size_of (digits_of n ds) ≤ 1000000000
unfolding digits_of size_of
digits_small n ds = go (all_digits ds) (leb (size_from 0 ds) 1000000000) refl where
  go : (a b : Bool) → leb (size_from 0 ds) 1000000000 ≡ b → size_of (cond (a && b) (number (n && not (eqb (size_from 0 ds) 0)) (size_from 0 ds)) bad) ≤ 1000000000
  go true true e = leb-true _ _ e
  go true false e = omega arith
  go false b e = omega arith

minus_small : (ds : List ℕ) → size_of (after_minus ds) ≤ 1000000000
unfolding after_minus size_of
minus_small [] = omega arith
minus_small (d ∷ ds) = digits_small true (d ∷ ds)

field_small : (f : List ℕ) → size_of (field_of f) ≤ 1000000000
unfolding field_of size_of
field_small [] = omega arith
field_small (b ∷ bs) = go (eqb b 45) where
  go : (x : Bool) → size_of (cond x (after_minus bs) (digits_of false (b ∷ bs))) ≤ 1000000000
  go true = minus_small bs
  go false = digits_small false (b ∷ bs)

Shorter : List ℕ → Option (List ℕ × List ℕ) → Type 0
Shorter t none = Unit
Shorter t (some (f, r)) = length r + 1 ≤ length t

shorter : (e : ℕ) (t : List ℕ) → Shorter t (cut e t)
unfolding Shorter cut
shorter e [] = tt
shorter e (b ∷ t) = go (eqb b e) (cut e t) (shorter e t) where
  go : (x : Bool) (c : Option (List ℕ × List ℕ)) → Shorter t c → Shorter (b ∷ t) (cond x (some ([], t)) (map (λ (c : List ℕ × List ℕ). (b ∷ c.0, c.1)) c))
  go true c i = omega arith
  go false none i = tt
  go false (some (f, r)) i = omega arith

unfoldable pub Small : List Field → Type 0
Small [] = Unit
Small (F ∷ fs) = (size_of F ≤ 1000000000) × Small fs

-- There are n fields, and what follows is shorter by as many bytes at least.
unfoldable pub Sound : ℕ → List ℕ → Row → Type 0
Sound n t none = Unit
Sound n t (some (fs, r)) = (length fs ≡ n) × (length r + n ≤ length t) × Small fs

put_sound : (n : ℕ) (t f r : List ℕ) (R : Row) → length r + 1 ≤ length t → Sound n r R → Sound (suc n) t (only_if (is_field (field_of f)) (add (field_of f) R))
unfolding only_if Sound Small
put_sound n t f r R h i = go (is_field (field_of f)) R i where
  go : (x : Bool) (R : Row) → Sound n r R → Sound (suc n) t (only_if x (add (field_of f) R))
  go true none i = tt
  go true (some (fs, q)) i = (omega (arith, i.0), omega (arith, i.1), (field_small f, i.2))
  go false R i = tt

pub sound : (es t : List ℕ) → Sound (length es) t (row_of es t)
unfolding row_of bind Sound Small Shorter
sound [] t = (refl, omega arith, tt)
sound (e ∷ es) t = go (λ r. sound es r) (cut e t) (shorter e t) where
  go : ((r : List ℕ) → Sound (length es) r (row_of es r)) → (c : Option (List ℕ × List ℕ)) → Shorter t c
      → Sound (suc (length es)) t (bind c (λ c. only_if (is_field (field_of c.0)) (add (field_of c.0) (row_of es c.1))))
  go i none h = tt
  go i (some (f, r)) h = put_sound (length es) t f r (row_of es r) h (i r)

-- ---- how it is noted

pub field_before : (fs : List Field) (m : Machine) (k j : ℕ) → j < k → field_at (fields_noted m k fs).fields j ≡ field_at m.fields j
unfolding fields_noted field_noted
field_before [] m k j h = refl
field_before (F ∷ fs) m k j h = field_before fs (field_noted m k F) (suc k) j (omega arith) ∙ get_or-set_other m.fields k j (kept F) unread (λ q. omega arith)

pub field_kept : (fs : List Field) (m : Machine) (k i : ℕ) → i < length fs → k + length fs ≤ length m.fields
    → field_at (fields_noted m k fs).fields (k + i) ≡ kept (get_or fs i bad)
unfolding fields_noted field_noted
field_kept [] m k i h l = absurd (omega arith)
field_kept (F ∷ fs) m k zero h l =
    let p : k + 0 ≡ k = omega arith in
    rw p (field_before fs (field_noted m k F) (suc k) k (omega arith) ∙ get_or-set_same m.fields k (kept F) unread (omega arith))
field_kept (F ∷ fs) m k (suc i) h l =
    let p : k + suc i ≡ suc k + i = omega arith in
    let q = length-set m.fields k (kept F) in
    rw p (field_kept fs (field_noted m k F) (suc k) i (omega arith) (omega arith))

pub fields_length : (fs : List Field) (m : Machine) (k : ℕ) → length (fields_noted m k fs).fields ≡ length m.fields
unfolding fields_noted field_noted
fields_length [] m k = refl
fields_length (F ∷ fs) m k = fields_length fs (field_noted m k F) (suc k) ∙ length-set m.fields k (kept F)

-- ---- how it is judged

whole_kept : (F : Field) → whole_sign (sign_of F) ≡ is_whole F
unfolding sign_of is_whole
whole_kept (number true v) = refl
whole_kept (number false v) = refl
whole_kept dash = refl
whole_kept bad = refl

natural_kept : (F : Field) → natural_sign (sign_of F) ≡ is_natural F
unfolding sign_of is_natural
natural_kept (number true v) = refl
natural_kept (number false v) = refl
natural_kept dash = refl
natural_kept bad = refl

pub settings_judged : (fs : List Field) (m : Machine) → length fs ≡ 7 → length m.fields ≡ 11 → settings_ok (fields_noted m 0 fs).fields ≡ settings_in fs
unfolding settings_ok settings_in kept
settings_judged fs m l z =
    rw (
      field_kept fs m 0 0 (omega arith) (omega arith),
      field_kept fs m 0 1 (omega arith) (omega arith),
      field_kept fs m 0 2 (omega arith) (omega arith),
      field_kept fs m 0 3 (omega arith) (omega arith),
      field_kept fs m 0 4 (omega arith) (omega arith),
      field_kept fs m 0 5 (omega arith) (omega arith),
      field_kept fs m 0 6 (omega arith) (omega arith),
      whole_kept (get_or fs 0 bad),
      whole_kept (get_or fs 1 bad),
      natural_kept (get_or fs 2 bad),
      whole_kept (get_or fs 3 bad),
      whole_kept (get_or fs 4 bad),
      natural_kept (get_or fs 5 bad),
      natural_kept (get_or fs 6 bad),
    )

first_small : (fs : List Field) → Small fs → size_of (get_or fs 0 bad) ≤ 1000000000
unfolding Small size_of
first_small [] h = omega arith
first_small (F ∷ fs) h = h.0

pub fix_judged : (fs : List Field) (m : Machine) (s : State) → length fs ≡ 4 → Small fs → length m.fields ≡ 11
    → fix_ok (fields_noted m 7 fs).fields s ≡ fix_in s.traces fs
unfolding fix_ok fix_in kept
fix_judged fs m s l h z =
    rw (
      field_kept fs m 7 0 (omega arith) (omega arith),
      field_kept fs m 7 1 (omega arith) (omega arith),
      field_kept fs m 7 2 (omega arith) (omega arith),
      le-leb (size_of (get_or fs 0 bad)) 1000000000 (first_small fs h),
      natural_kept (get_or fs 0 bad),
      whole_kept (get_or fs 1 bad),
      whole_kept (get_or fs 2 bad),
    )
