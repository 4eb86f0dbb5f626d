-- The columns that the machine notes stand at the front of the slices.
use Rattle.std.proofs.Common.{◌≡◌, ℕ, suc, ◌+◌, ◌-◌, ◌<◌, ◌≤◌, Bool, true, false, cond, ltb, List, [], ◌∷◌, ◌++◌, map, length, take, set, sym, refl, ap, ◌∙◌, append_assoc, append-nil, arith, length-append, set-set, ltb-false, ltb-true, le-ltb, lt-ltb}
use lib.Seq.{take-nil}
use Rattle.lists.specs.Lists.{overlay}
use Rattle.text.specs.Values.{FixLine}
use Rattle.text.specs.Parsed.{into}
use Rattle.text.specs.Pieces.{first_fixes}
use Rattle.text.specs.Machine.{more, set_if}
use Rattle.text.proofs.Noted.{note, count_from}

-- ---- how many of the first 768 are to come after n

pub one_left : (n : ℕ) → n < 768 → 768 - n ≡ suc (768 - (n + 1))
one_left n h = omega arith

pub none_left : (n : ℕ) → 768 ≤ n → 768 - n ≡ 0
none_left n h = omega arith

pub more_past : (n : ℕ) → 768 ≤ n → 768 ≤ more n
unfolding more
more_past n h = go (ltb n 769)
  where
    go : (b : Bool) → 768 ≤ cond b (n + 1) n
    go true = omega arith
    go false = h

-- ---- columns

module _ {A : Type 0} where
  pub into_nil : (s : List A) → into s [] ≡ s
  unfolding into overlay
  into_nil [] = refl
  into_nil (b ∷ s) = refl

  -- One item more at the end of what is in front, where there is room for it.
  pub into_more : (s l : List A) (a : A) → set (into s l) (length l) a ≡ into s (l ++ (a ∷ []))
  unfolding into overlay
  into_more [] l a = refl
  into_more (b ∷ s) [] a = rw (take-nil {A = A} (length s))
  into_more (b ∷ s) (c ∷ l) a = ap (λ (r : List A). c ∷ r) (into_more s l a)

  -- Another last item.
  pub into_last : (s l : List A) (k a : A) → set (into s (l ++ (k ∷ []))) (length l) a ≡ into s (l ++ (a ∷ []))
  into_last s l k a = ap (λ (r : List A). set r (length l) a) (sym (into_more s l k)) ∙ set-set (into s l) (length l) k a ∙ into_more s l a

  note_past : (f : FixLine → A) (ps : List FixLine) (l : List A) (n : ℕ) → 768 ≤ n → note f l n ps ≡ l
  unfolding note set_if
  note_past f [] l n h = refl
  note_past f (p ∷ ps) l n h = rw (le-ltb n 768 h) (note_past f ps l (more n) (more_past n h))

  -- After n fixes, whose values `done` are in front.
  note_into : (f : FixLine → A) (s : List A) (ps : List FixLine) (done : List A) (n : ℕ) → length done ≡ n
      → note f (into s done) n ps ≡ into s (done ++ map f (take (768 - n) ps))
  unfolding note set_if more
  note_into f s [] done n e = rw (take-nil {A = FixLine} (768 - n), append-nil done)
  note_into f s (p ∷ ps) done n e = go (λ d. λ k. λ q. note_into f s ps d k q) (ltb n 768) refl
    where
      go : ((d : List A) (k : ℕ) → length d ≡ k → note f (into s d) k ps ≡ into s (d ++ map f (take (768 - k) ps))) → (b : Bool) → ltb n 768 ≡ b
          → note f (set_if b (into s done) n (f p)) (more n) ps ≡ into s (done ++ map f (take (768 - n) (p ∷ ps)))
      go i true h =
          let q : n < 768 = ltb-true n 768 h in
          let w : set (into s done) n (f p) ≡ into s (done ++ (f p ∷ [])) = ap (λ (k : ℕ). set (into s done) k (f p)) (sym e) ∙ into_more s done (f p) in
          rw (lt-ltb n 769 (omega arith), w, one_left n q)
          (i (done ++ (f p ∷ [])) (n + 1) (length-append done (f p ∷ []) ∙ ap (λ (k : ℕ). k + 1) e)
          ∙ ap (into s) (append_assoc done (f p ∷ []) (map f (take (768 - (n + 1)) ps))))
      go i false h =
          let q : 768 ≤ n = ltb-false n 768 h in
          rw (none_left n q, append-nil done) (note_past f ps (into s done) (more n) (more_past n q))

  -- From the first fix on.
  pub noted_into : (f : FixLine → A) (s : List A) (ps : List FixLine) → note f s 0 ps ≡ into s (map f (first_fixes ps))
  unfolding first_fixes
  noted_into f s ps = ap (λ (r : List A). note f r 0 ps) (sym (into_nil s)) ∙ note_into f s ps [] 0 refl

-- ---- the number of fixes

pub count_few : (ps : List FixLine) (n : ℕ) → n + length ps ≤ 768 → count_from n ps ≡ n + length ps
unfolding count_from more
count_few [] n h = omega arith
count_few (p ∷ ps) n h = rw (lt-ltb n 769 (omega arith)) (count_few ps (n + 1) (omega arith) ∙ omega arith)

pub count_many : (ps : List FixLine) (n : ℕ) → n ≤ 769 → 769 ≤ n + length ps → count_from n ps ≡ 769
unfolding count_from more
count_many [] n h k = omega arith
count_many (p ∷ ps) n h k = go (λ i. λ a. λ b. count_many ps i a b) (ltb n 769) refl
  where
    go : ((i : ℕ) → i ≤ 769 → 769 ≤ i + length ps → count_from i ps ≡ 769) → (b : Bool) → ltb n 769 ≡ b → count_from (cond b (n + 1) n) ps ≡ 769
    go i true e = let q : n < 769 = ltb-true n 769 e in i (n + 1) (omega arith) (omega arith)
    go i false e = let q : 769 ≤ n = ltb-false n 769 e in i n h (omega arith)
