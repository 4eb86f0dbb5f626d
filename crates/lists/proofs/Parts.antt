-- Parts of slices: what a part shows after another part, lent for writing, has come back, and after a store.
use mathlib.Core.Path.{◌≡◌, sym, ap, ◌∙◌}
use mathlib.Core.List.{List, ◌++◌, append_assoc}
use Prim.Native.Nat.{ℕ, ◌+◌, ◌-◌, ◌≤◌, ◌<◌}
use native.Mathlib.Omega.{arith}
use lib.ListN.{length, take, drop, set, length-drop, length-append, take-append-drop}
use lib.Seq.{sets, sets-eq, take_at, drop_at, take-append-le, drop-append-le, length-take-le, drop-drop, take-take, take-set-le, take-set-lt, drop-set-lt, drop-set-add}
use Rattle.lists.specs.StepsParts.{part, put}

-- ---- parts by start and length

module _ {A : Type 0} where
  pub part_length : (a n : ℕ) (w : List A) → a + n ≤ length w → length (part a n w) ≡ n
  part_length a n w h = length-take-le n (drop a w) (simp length-drop (omega arith))

  -- the part that was put reads back
  pub part_put_same : (a n : ℕ) (r w : List A) → a + n ≤ length w → length r ≡ n → part a n (put a n r w) ≡ r
  unfolding put
  part_put_same a n r w h l = rw (drop_at (take a w) (r ++ drop n (drop a w)) a (length-take-le a w (omega arith)), take_at r (drop n (drop a w)) n l)

  -- what lies above is as it was
  pub drop_put_at : (a n : ℕ) (r w : List A) → a + n ≤ length w → length r ≡ n → drop (a + n) (put a n r w) ≡ drop (a + n) w
  unfolding put
  drop_put_at a n r w h l =
      ap (drop (a + n)) (sym (append_assoc (take a w) r (drop n (drop a w))))
      ∙ drop_at (take a w ++ r) (drop n (drop a w)) (a + n) (simp length-append (omega (arith, length-take-le a w (omega arith))))
      ∙ drop-drop n a w

  pub drop_put : (a n b : ℕ) (r w : List A) → a + n ≤ length w → length r ≡ n → a + n ≤ b → drop b (put a n r w) ≡ drop b w
  drop_put a n b r w h l q =
      let e : b ≡ a + n + (b - (a + n)) = omega arith in
      ap (λ (k : ℕ). drop k (put a n r w)) e ∙ sym (drop-drop (b - (a + n)) (a + n) (put a n r w)) ∙ ap (drop (b - (a + n))) (drop_put_at a n r w h l)
      ∙ drop-drop (b - (a + n)) (a + n) w ∙ ap (λ (k : ℕ). drop k w) (sym e)

  -- a part below is as it was
  pub take_put : (a n b : ℕ) (r w : List A) → a + n ≤ length w → b ≤ a → take b (put a n r w) ≡ take b w
  unfolding put
  take_put a n b r w h q = rw (take-append-le b (take a w) (r ++ drop n (drop a w)) (rw (length-take-le a w (omega arith)) q), take-take b a w q)

  pub length_put : (a n : ℕ) (r w : List A) → a + n ≤ length w → length r ≡ n → length (put a n r w) ≡ length w
  unfolding put
  length_put a n r w h l = simp (length-append, length-drop) (omega (arith, length-take-le a w (omega arith)))

  -- a store into a part, into one above, into one below
  pub part_set : (a n k : ℕ) (v : A) (w : List A) → k < n → part a n (set w (a + k) v) ≡ set (part a n w) k v
  part_set a n k v w h = ap (take n) (drop-set-add a w k v) ∙ take-set-lt n (drop a w) k v h

  pub part_set_above : (a n j : ℕ) (v : A) (w : List A) → a + n ≤ j → part a n (set w j v) ≡ part a n w
  part_set_above a n j v w h =
      let e : j ≡ a + (j - a) = omega arith in
      ap (λ (i : ℕ). part a n (set w i v)) e ∙ ap (take n) (drop-set-add a w (j - a) v) ∙ take-set-le n (drop a w) (j - a) v (omega arith)

  pub part_set_below : (a n j : ℕ) (v : A) (w : List A) → j < a → part a n (set w j v) ≡ part a n w
  part_set_below a n j v w h = ap (take n) (drop-set-lt a w j v h)

  -- what stands before the end of a run of stores
  pub take_sets : (l : List A) (k : ℕ) (ps : List A) → k + length ps ≤ length l → take (k + length ps) (sets l k ps) ≡ take k l ++ ps
  take_sets l k ps h =
      ap (take (k + length ps)) (sets-eq ps l k h)
      ∙ take_at (take k l ++ ps) (drop (k + length ps) l) (k + length ps) (simp length-append (omega (arith, length-take-le k l (omega arith))))

-- ---- parts by start and end, as the code lends them

-- The part from a to e.
abbrev pub lent : {A : Type 0} → ℕ → ℕ → List A → List A
lent a e l = take (e - a) (drop a l)

-- The slice after p has come back as its part from a to e.
abbrev pub back : {A : Type 0} → ℕ → ℕ → List A → List A → List A
back a e p l = take a l ++ (p ++ drop (e - a) (drop a l))

pub lent_length : {A : Type 0} (a e : ℕ) (l : List A) → a ≤ e → e ≤ length l → length (lent a e l) ≡ e - a
lent_length a e l h k = let i = length-drop a l in length-take-le (e - a) (drop a l) (omega arith)

pub back_length : {A : Type 0} (a e : ℕ) (p l : List A) → a ≤ e → e ≤ length l → length p ≡ e - a → length (back a e p l) ≡ length l
back_length a e p l h k q = let i = length-take-le a l (omega arith) in let j = length-drop a l in simp (length-append, length-drop) (omega arith)

-- The part itself.
pub back_part : {A : Type 0} (a e : ℕ) (p l : List A) → a ≤ length l → length p ≡ e - a → lent a e (back a e p l) ≡ p
back_part a e p l h q = ap (take (e - a)) (drop_at (take a l) (p ++ drop (e - a) (drop a l)) a (length-take-le a l h)) ∙ take_at p (drop (e - a) (drop a l)) (e - a) q

pub take_drop_take : {A : Type 0} (b k a : ℕ) (l : List A) → b + k ≤ a → a ≤ length l → take k (drop b (take a l)) ≡ take k (drop b l)
take_drop_take {A} b k a l h q =
    let i = length-take-le a l q in
    let j = length-drop b (take a l) in
    sym (take-append-le k (drop b (take a l)) (drop a l) (omega arith))
    ∙ ap (take k) (sym (drop-append-le b (take a l) (drop a l) (omega arith)))
    ∙ ap (λ (z : List A). take k (drop b z)) (take-append-drop a l)

-- A part in front of it.
pub back_before : {A : Type 0} (b f a e : ℕ) (p l : List A) → b ≤ f → f ≤ a → a ≤ length l → lent b f (back a e p l) ≡ lent b f l
back_before b f a e p l g h q =
    let i = length-take-le a l q in
    let j = length-drop b (take a l) in
    ap (take (f - b)) (drop-append-le b (take a l) (p ++ drop (e - a) (drop a l)) (omega arith))
    ∙ take-append-le (f - b) (drop b (take a l)) (p ++ drop (e - a) (drop a l)) (omega arith)
    ∙ take_drop_take b (f - b) a l (omega arith) q
