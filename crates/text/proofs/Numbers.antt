-- A field taken byte by byte is the field that its bytes write: `field_byte` of `Machine` against `field_of` of `Fields`.
use Rattle.std.proofs.Common.{◌≡◌, ℕ, ◌+◌, ◌-◌, ◌*◌, ◌<◌, ◌≤◌, Bool, true, false, cond, not, ◌&&◌, ◌||◌, eqb, leb, ◌⊎◌, List, [], ◌∷◌, sym, refl, ap, ◌∙◌, subst, inl, inr, arith, ne_eqb, le-leb, leb-false, leb-true, is_some, unwrap_or}
use borrow.Author.Tests.{lt-leb}
use Rattle.lists.proofs.Tests.{and_left, and_right, or_true, clash}
use Rattle.text.specs.declared.state.State.{State}
use Rattle.text.specs.declared.state.Stage.{Stage}
use Rattle.text.specs.declared.state.Stage.TheVariants.{Outside}
use Rattle.text.specs.declared.field.Sign.{Sign}
use Rattle.text.specs.declared.field.Sign.TheVariants.{Natural, Negative, Dash, Empty}
use Rattle.text.specs.Bytes.{is_digit}
use Rattle.text.specs.Fields.{Field, number, dash, bad, all_digits, size_from, digits_of, after_minus, field_of, size_of}
-- Named so that the facts are checked before these lemmas.
use Rattle.text.specs.Facts
use Rattle.text.specs.Machine.{refused, begun, signed, grown, with_digit, field_byte, field_sign}

-- The bytes of a field.
unfoldable pub field_bytes : State → List ℕ → State
field_bytes s [] = s
field_bytes s (b ∷ bs) = field_bytes (field_byte s b) bs

pub digit_low : (b : ℕ) → is_digit b ≡ true → 48 ≤ b
unfolding is_digit
digit_low b h = leb-true 48 b (and_left (leb 48 b) (leb b 57) h)

-- One digit.
digit_on : (s : State) (b : ℕ) → is_digit b ≡ true → with_digit s b ≤ 1000000000 → field_byte s b ≡ grown s (with_digit s b)
unfolding field_byte
digit_on s b h l = let k = digit_low b h in simp (ne_eqb b 45 (λ e. omega arith), h, le-leb (with_digit s b) 1000000000 l)

digit_over : (s : State) (b : ℕ) → is_digit b ≡ true → 1000000000 < with_digit s b → field_byte s b ≡ refused s
unfolding field_byte
digit_over s b h l = let k = digit_low b h in simp (ne_eqb b 45 (λ e. omega arith), h, lt-leb (with_digit s b) 1000000000 l)

digit_not : (s : State) (b : ℕ) → s.minus || is_some s.value ≡ true → is_digit b ≡ false → field_byte s b ≡ refused s
unfolding field_byte
digit_not s b m h = go (eqb b 45) refl where
  go : (t : Bool) → eqb b 45 ≡ t
      → cond t (cond (s.minus || is_some s.value) (refused s) (signed s)) (cond (is_digit b && leb (with_digit s b) 1000000000) (grown s (with_digit s b)) (refused s))
      ≡ refused s
  go true e = rw m
  go false e = rw h

-- What is refused stays so.
refused_on : (s : State) (b : ℕ) → s.stage ≡ Outside → (field_byte s b).stage ≡ Outside
unfolding field_byte refused signed grown
refused_on s b e = go (eqb b 45) (s.minus || is_some s.value) (is_digit b && leb (with_digit s b) 1000000000) where
  go : (t u v : Bool) → (cond t (cond u (refused s) (signed s)) (cond v (grown s (with_digit s b)) (refused s))).stage ≡ Outside
  go true true v = refl
  go true false v = e
  go false u true = e
  go false u false = refl

pub refused_stays : (s : State) (bs : List ℕ) → s.stage ≡ Outside → (field_bytes s bs).stage ≡ Outside
unfolding field_bytes
refused_stays s [] e = e
refused_stays s (b ∷ bs) e = refused_stays (field_byte s b) bs (refused_on s b e)

-- Digits only raise a number.
raises : (v : ℕ) (bs : List ℕ) → v ≤ size_from v bs
unfolding size_from
raises v [] = omega arith
raises v (b ∷ bs) = let r = raises (v * 10 + (b - 48)) bs in omega arith

-- Digits that write a number of size at most 10^9.
pub good : (s : State) (b : ℕ) (bs : List ℕ) → all_digits (b ∷ bs) ≡ true → size_from (unwrap_or s.value 0) (b ∷ bs) ≤ 1000000000
    → field_bytes s (b ∷ bs) ≡ grown s (size_from (unwrap_or s.value 0) (b ∷ bs))
unfolding field_bytes all_digits size_from grown
good s b [] d l = digit_on s b (and_left (is_digit b) true d) l
good s b (c ∷ cs) d l =
    let v = with_digit s b in
    let r : v ≤ size_from v (c ∷ cs) = raises v (c ∷ cs) in
    let o : field_byte s b ≡ grown s v = digit_on s b (and_left (is_digit b) (all_digits (c ∷ cs)) d) (omega arith) in
    ap (λ (q : State). field_bytes q (c ∷ cs)) o ∙ good (grown s v) c cs (and_right (is_digit b) (all_digits (c ∷ cs)) d) l

-- Bytes that do not, after a minus or a digit.
pub ill : (s : State) (bs : List ℕ) → s.minus || is_some s.value ≡ true → unwrap_or s.value 0 ≤ 1000000000 → (all_digits bs ≡ true → size_from (unwrap_or s.value 0) bs ≤ 1000000000 → ⊥)
    → (field_bytes s bs).stage ≡ Outside
unfolding field_bytes all_digits size_from refused grown
ill s [] m l h = absurd (h refl l)
ill s (b ∷ bs) m l h = go (λ q. λ p. λ k. λ z. ill q bs p k z) (is_digit b) (leb (with_digit s b) 1000000000) refl refl where
  go : ((q : State) → q.minus || is_some q.value ≡ true → unwrap_or q.value 0 ≤ 1000000000 → (all_digits bs ≡ true → size_from (unwrap_or q.value 0) bs ≤ 1000000000 → ⊥) → (field_bytes q bs).stage ≡ Outside)
      → (t u : Bool) → is_digit b ≡ t → leb (with_digit s b) 1000000000 ≡ u → (field_bytes (field_byte s b) bs).stage ≡ Outside
  go i false u e f = rw (digit_not s b m e) (refused_stays (refused s) bs refl)
  go i true false e f = rw (digit_over s b e (leb-false _ _ f)) (refused_stays (refused s) bs refl)
  go i true true e f =
      let k : with_digit s b ≤ 1000000000 = leb-true _ _ f in
      rw (digit_on s b e k) (i (grown s (with_digit s b)) (or_true s.minus true refl) k (λ d. λ z. h (rw e d) z))

both : (a b : Bool) → a ≡ true → b ≡ true → a && b ≡ true
both a b p q = rw (p, q)

digit_high : (b : ℕ) → is_digit b ≡ true → b ≤ 57
unfolding is_digit
digit_high b h = leb-true b 57 (and_right (leb 48 b) (leb b 57) h)

other_first : (s : State) (b : ℕ) → eqb b 45 ≡ false → is_digit b ≡ false → field_byte s b ≡ refused s
unfolding field_byte
other_first s b n h = simp (n, h)

-- A first byte that is no minus, of a field that is no number.
first_ill : (s : State) (b : ℕ) (bs : List ℕ) → unwrap_or s.value 0 ≡ 0 → eqb b 45 ≡ false → all_digits (b ∷ bs) && leb (size_from 0 (b ∷ bs)) 1000000000 ≡ false
    → (field_bytes s (b ∷ bs)).stage ≡ Outside
unfolding field_bytes all_digits size_from refused grown
first_ill s b bs z n e = go (is_digit b) refl where
  go : (t : Bool) → is_digit b ≡ t → (field_bytes (field_byte s b) bs).stage ≡ Outside
  go false h = rw (other_first s b n h) (refused_stays (refused s) bs refl)
  go true h =
      let w = digit_high b h in
      let k : with_digit s b ≤ 1000000000 = omega arith in
      rw (digit_on s b h k) (ill (grown s (with_digit s b)) bs (or_true s.minus true refl) k
      (λ a. λ y. clash (is_digit b && all_digits bs && leb (size_from (0 * 10 + (b - 48)) bs) 1000000000)
      (both (is_digit b && all_digits bs) (leb (size_from (0 * 10 + (b - 48)) bs) 1000000000) (both (is_digit b) (all_digits bs) h a) (le-leb _ _ (rw z at y))) e))

minus_first : (s : State) (b : ℕ) → eqb b 45 ≡ true → s.minus || is_some s.value ≡ false → field_byte s b ≡ signed s
unfolding field_byte
minus_first s b e h = simp (e, h)

-- How a field is noted.
unfoldable pub sign_of : Field → Sign
sign_of (number n v) = cond n Negative Natural
sign_of dash = Dash
sign_of bad = Empty

-- The state S, after the bytes of the field F, from the start of field k.
pub record Ok (s : State) (g : Stage) (k : ℕ) (F : Field) (S : State) : Type 0 where
  pub sign : field_sign S ≡ sign_of F
  pub size : unwrap_or S.value 0 ≡ size_of F
  pub stage : S.stage ≡ g
  pub field : S.k ≡ k
  pub same : (h : Stage) (j : ℕ) → begun S h j ≡ begun s h j

-- A field is taken as it is written, or the text is refused.
unfoldable pub Reads : State → Stage → ℕ → Field → State → Type 0
Reads s g k F S = Ok s g k F S ⊎ ((F ≡ bad) × (S.stage ≡ Outside))

module _ (s : State) (g : Stage) (k : ℕ) where
  ok_grown : (q : State) (neg : Bool) (v : ℕ) → q.minus ≡ neg → q.stage ≡ g → q.k ≡ k → ((h : Stage) (j : ℕ) → begun q h j ≡ begun s h j)
      → Ok s g k (number (neg && not (eqb v 0)) v) (grown q v)
  unfolding field_sign sign_of size_of grown begun
  ok_grown q neg v m w y c = record { sign = rw m; size = refl; stage = w; field = y; same = c }

  digits_read : (q : State) (neg : Bool) (b : ℕ) (bs : List ℕ) → unwrap_or q.value 0 ≡ 0 → q.minus ≡ neg → q.stage ≡ g → q.k ≡ k
      → ((h : Stage) (j : ℕ) → begun q h j ≡ begun s h j) → (all_digits (b ∷ bs) && leb (size_from 0 (b ∷ bs)) 1000000000 ≡ false → (field_bytes q (b ∷ bs)).stage ≡ Outside)
      → Reads s g k (digits_of neg (b ∷ bs)) (field_bytes q (b ∷ bs))
  unfolding Reads digits_of
  digits_read q neg b bs z m w y c h = go (all_digits (b ∷ bs) && leb (size_from 0 (b ∷ bs)) 1000000000) refl where
    go : (t : Bool) → all_digits (b ∷ bs) && leb (size_from 0 (b ∷ bs)) 1000000000 ≡ t
        → Ok s g k (cond t (number (neg && not (eqb (size_from 0 (b ∷ bs)) 0)) (size_from 0 (b ∷ bs))) bad) (field_bytes q (b ∷ bs))
        ⊎ ((cond t (number (neg && not (eqb (size_from 0 (b ∷ bs)) 0)) (size_from 0 (b ∷ bs))) bad ≡ bad) × ((field_bytes q (b ∷ bs)).stage ≡ Outside))
    go true e =
        let l : size_from (unwrap_or q.value 0) (b ∷ bs) ≤ 1000000000 = rw z (leb-true _ _ (and_right (all_digits (b ∷ bs)) (leb (size_from 0 (b ∷ bs)) 1000000000) e)) in
        let p : field_bytes q (b ∷ bs) ≡ grown q (size_from 0 (b ∷ bs)) = good q b bs (and_left (all_digits (b ∷ bs)) (leb (size_from 0 (b ∷ bs)) 1000000000) e) l ∙ ap (λ (v : ℕ). grown q (size_from v (b ∷ bs))) z in
        inl (subst (λ (S : State). Ok s g k (number (neg && not (eqb (size_from 0 (b ∷ bs)) 0)) (size_from 0 (b ∷ bs))) S) (sym p) (ok_grown q neg (size_from 0 (b ∷ bs)) m w y c))
    go false e = inr (refl, h e)

  -- After a minus.
  minus_read : (bs : List ℕ) → Reads s g k (after_minus bs) (field_bytes (signed (begun s g k)) bs)
  unfolding Reads after_minus field_bytes signed begun field_sign sign_of size_of
  minus_read [] = inl (record { sign = refl; size = refl; stage = refl; field = refl; same = λ h. λ j. refl })
  minus_read (d ∷ ds) =
      digits_read (signed (begun s g k)) true d ds refl refl refl refl (λ h. λ j. refl)
      (λ e. ill (signed (begun s g k)) (d ∷ ds) refl (omega arith)
      (λ a. λ z. clash (all_digits (d ∷ ds) && leb (size_from 0 (d ∷ ds)) 1000000000) (both (all_digits (d ∷ ds)) (leb (size_from 0 (d ∷ ds)) 1000000000) a (le-leb _ _ z)) e))

  -- A first byte that is no minus.
  first_read : (b : ℕ) (bs : List ℕ) → eqb b 45 ≡ false → Reads s g k (digits_of false (b ∷ bs)) (field_bytes (begun s g k) (b ∷ bs))
  unfolding begun
  first_read b bs n = digits_read (begun s g k) false b bs refl refl refl refl (λ h. λ j. refl) (λ e. first_ill (begun s g k) b bs refl n e)

  pub field_read : (f : List ℕ) → (f ≡ [] → ⊥) → Reads s g k (field_of f) (field_bytes (begun s g k) f)
  unfolding field_of begun field_bytes
  field_read [] h = absurd (h refl)
  field_read (b ∷ bs) h = go (eqb b 45) refl where
    go : (t : Bool) → eqb b 45 ≡ t → Reads s g k (cond t (after_minus bs) (digits_of false (b ∷ bs))) (field_bytes (begun s g k) (b ∷ bs))
    go true e = subst (λ (q : State). Reads s g k (after_minus bs) (field_bytes q bs)) (sym (minus_first (begun s g k) b e refl)) (minus_read bs)
    go false e = first_read b bs e
