-- Items of a list: membership, places, and what a selection keeps.
use mathlib.Core.Path.{◌≡◌, refl, sym, ap, ◌∙◌}
use mathlib.Core.Logic.{inl, inr}
use Prim.Native.Nat.{ℕ, zero, suc, ◌+◌, ◌<◌, ◌≤◌}
use native.Mathlib.Nat.{zero-lt-suc}
use native.Mathlib.Omega.{arith}
use mathlib.Core.Bool.{Bool, true, false, ◌||◌, cond, true≢false, false≢true}
use mathlib.Core.List.{List, [], ◌∷◌}
use borrow.Author.Tests.{eqb-true, eqb-false, ne_eqb}
use lib.Dec.{eqb}
use lib.ListN.{length, get_or}
use Rattle.lists.specs.Lists.{from, upto, Has, member, position, any_of, select}
use Rattle.lists.proofs.Tests.{eqb_self, or_true}
use Rattle.lists.proofs.Upto.{from_above}

pub has_at : (l : List ℕ) (v : ℕ) → v < length l → Has l (get_or l v 0)
has_at [] v h = absurd (omega arith)
has_at (x ∷ xs) zero h = inl refl
has_at (x ∷ xs) (suc v) h = inr (has_at xs v (omega arith))

pub at_has : (l : List ℕ) (u k : ℕ) → k < length l → get_or l k 0 ≡ u → Has l u
at_has [] u k h e = absurd (omega arith)
at_has (x ∷ xs) u zero h e = inl (sym e)
at_has (x ∷ xs) u (suc k) h e = inr (at_has xs u k (omega arith) e)

pub member_has : (x : ℕ) (l : List ℕ) → member x l ≡ true → Has l x
unfolding member
member_has x [] e = absurd (false≢true e)
member_has x (y ∷ ys) e = go (eqb x y) refl (member_has x ys) e
  where
    go : (b : Bool) → eqb x y ≡ b → (member x ys ≡ true → Has ys x) → (b || member x ys) ≡ true → Has (y ∷ ys) x
    go true p ih q = inl (eqb-true x y p)
    go false p ih q = inr (ih q)

pub has_member : (x : ℕ) (l : List ℕ) → Has l x → member x l ≡ true
unfolding member
has_member x [] m = absurd m
has_member x (y ∷ ys) (inl p) = ap (λ (b : Bool). b || member x ys) (ap (λ (z : ℕ). eqb x z) (sym p) ∙ eqb_self x)
has_member x (y ∷ ys) (inr m) = or_true (eqb x y) (member x ys) (has_member x ys m)

-- ---- places

pub position_lt : (x : ℕ) (l : List ℕ) → Has l x → position x l < length l
unfolding position
position_lt x [] m = absurd m
position_lt x (y ∷ ys) m = go (eqb x y) refl m (position_lt x ys)
  where
    go : (b : Bool) → eqb x y ≡ b → Has (y ∷ ys) x → (Has ys x → position x ys < length ys) → cond b 0 (suc (position x ys)) < suc (length ys)
    go true e k ih = zero-lt-suc (length ys)
    go false e (inl p) ih = absurd (eqb-false x y e p)
    go false e (inr k) ih = let r = ih k in omega arith

pub get_or_position : (x : ℕ) (l : List ℕ) → Has l x → get_or l (position x l) 0 ≡ x
unfolding position
get_or_position x [] m = absurd m
get_or_position x (y ∷ ys) m = go (eqb x y) refl m (get_or_position x ys)
  where
    go : (b : Bool) → eqb x y ≡ b → Has (y ∷ ys) x → (Has ys x → get_or ys (position x ys) 0 ≡ x) → get_or (y ∷ ys) (cond b 0 (suc (position x ys))) 0 ≡ x
    go true e k ih = sym (eqb-true x y e)
    go false e (inl p) ih = absurd (eqb-false x y e p)
    go false e (inr k) ih = ih k

pub position_injective : (x y : ℕ) (l : List ℕ) → Has l x → Has l y → position x l ≡ position y l → x ≡ y
position_injective x y l m k e = sym (get_or_position x l m) ∙ ap (λ (z : ℕ). get_or l z 0) e ∙ get_or_position y l k

-- ---- some item

pub any_has : (f : ℕ → Bool) (l : List ℕ) (x : ℕ) → Has l x → f x ≡ true → any_of f l ≡ true
unfolding any_of
any_has f [] x m e = absurd m
any_has f (y ∷ ys) x (inl p) e = ap (λ (b : Bool). b || any_of f ys) (ap f (sym p) ∙ e)
any_has f (y ∷ ys) x (inr m) e = or_true (f y) (any_of f ys) (any_has f ys x m e)

pub has_any : (f : ℕ → Bool) (l : List ℕ) → any_of f l ≡ true → (x : ℕ) × Has l x × (f x ≡ true)
unfolding any_of
has_any f [] e = absurd (false≢true e)
has_any f (y ∷ ys) e = go (f y) refl e (has_any f ys)
  where
    go : (b : Bool) → f y ≡ b → (b || any_of f ys) ≡ true → (any_of f ys ≡ true → (x : ℕ) × Has ys x × (f x ≡ true)) → (x : ℕ) × Has (y ∷ ys) x × (f x ≡ true)
    go true p q ih = (y, inl refl, p)
    go false p q ih = let k = ih q in (k.0, inr k.1, k.2)

-- Two tests that agree on a list.
pub any_like : (f g : ℕ → Bool) (l : List ℕ) → ((x : ℕ) → Has l x → f x ≡ g x) → any_of f l ≡ any_of g l
unfolding any_of
any_like f g [] h = refl
any_like f g (y ∷ ys) h = ap (λ (b : Bool). b || any_of f ys) (h y (inl refl)) ∙ ap (λ (b : Bool). g y || b) (any_like f g ys (λ x m. h x (inr m)))

-- ---- a selection

pub select_like : (f g : ℕ → Bool) (l : List ℕ) → ((x : ℕ) → Has l x → f x ≡ g x) → select f l ≡ select g l
unfolding select
select_like f g [] h = refl
select_like f g (y ∷ ys) h =
    ap (λ (b : Bool). cond b (y ∷ select f ys) (select f ys)) (h y (inl refl)) ∙ ap (λ (r : List ℕ). cond (g y) (y ∷ r) r) (select_like f g ys (λ x m. h x (inr m)))

module _ (f : ℕ → Bool) where
  pub select_has : (l : List ℕ) (x : ℕ) → Has l x → f x ≡ true → Has (select f l) x
  unfolding select
  select_has [] x m e = absurd m
  select_has (y ∷ ys) x m e = go (f y) refl m (select_has ys x)
    where
      go : (b : Bool) → f y ≡ b → Has (y ∷ ys) x → (Has ys x → f x ≡ true → Has (select f ys) x) → Has (cond b (y ∷ select f ys) (select f ys)) x
      go true p (inl q) ih = inl q
      go true p (inr k) ih = inr (ih k e)
      go false p (inl q) ih = absurd (true≢false (sym e ∙ ap f q ∙ p))
      go false p (inr k) ih = ih k e

  pub select_true : (l : List ℕ) (x : ℕ) → Has (select f l) x → f x ≡ true
  unfolding select
  select_true [] x m = absurd m
  select_true (y ∷ ys) x m = go (f y) refl m (select_true ys x)
    where
      go : (b : Bool) → f y ≡ b → Has (cond b (y ∷ select f ys) (select f ys)) x → (Has (select f ys) x → f x ≡ true) → f x ≡ true
      go true p (inl q) ih = ap f q ∙ p
      go true p (inr k) ih = ih k
      go false p k ih = ih k

  pub select_in : (l : List ℕ) (x : ℕ) → Has (select f l) x → Has l x
  unfolding select
  select_in [] x m = absurd m
  select_in (y ∷ ys) x m = go (f y) m (select_in ys x)
    where
      go : (b : Bool) → Has (cond b (y ∷ select f ys) (select f ys)) x → (Has (select f ys) x → Has ys x) → Has (y ∷ ys) x
      go true (inl q) ih = inl q
      go true (inr k) ih = inr (ih k)
      go false k ih = inr (ih k)

  pub select_length : (l : List ℕ) → length (select f l) ≤ length l
  unfolding select
  select_length [] = omega arith
  select_length (y ∷ ys) = go (f y) (select_length ys)
    where
      go : (b : Bool) → length (select f ys) ≤ length ys → length (cond b (y ∷ select f ys) (select f ys)) ≤ suc (length ys)
      go true h = omega arith
      go false h = omega arith

  -- A selection of rising numbers rises: its items are at least its places, and each is there once.
  select_above : (i n u : ℕ) → u < length (select f (from i n)) → i + u ≤ get_or (select f (from i n)) u 0
  unfolding select from
  select_above i zero u h = absurd (omega arith)
  select_above i (suc n) u h = go (f i) u h (select_above (suc i) n)
    where
      go : (b : Bool) (v : ℕ) → v < length (cond b (i ∷ select f (from (suc i) n)) (select f (from (suc i) n)))
          → ((w : ℕ) → w < length (select f (from (suc i) n)) → suc i + w ≤ get_or (select f (from (suc i) n)) w 0)
          → i + v ≤ get_or (cond b (i ∷ select f (from (suc i) n)) (select f (from (suc i) n))) v 0
      go true zero p ih = omega arith
      go true (suc v) p ih = let r = ih v (omega arith) in omega arith
      go false v p ih = let r = ih v p in omega arith

  pub select_at_least : (n u : ℕ) → u < length (select f (upto n)) → u ≤ get_or (select f (upto n)) u 0
  unfolding upto
  select_at_least n u h = let r = select_above 0 n u h in omega arith

  select_position_from : (i n u : ℕ) → u < length (select f (from i n)) → position (get_or (select f (from i n)) u 0) (select f (from i n)) ≡ u
  unfolding select from position
  select_position_from i zero u h = absurd (omega arith)
  select_position_from i (suc n) u h = go (f i) u h (select_position_from (suc i) n)
    where
      rest : List ℕ
      rest = select f (from (suc i) n)

      above : (v : ℕ) → v < length rest → i < get_or rest v 0
      above v p = let a = from_above (suc i) n (get_or rest v 0) (select_in (from (suc i) n) (get_or rest v 0) (has_at rest v p)) in omega arith

      go : (b : Bool) (v : ℕ) → v < length (cond b (i ∷ rest) rest) → ((w : ℕ) → w < length rest → position (get_or rest w 0) rest ≡ w)
          → position (get_or (cond b (i ∷ rest) rest) v 0) (cond b (i ∷ rest) rest) ≡ v
      go true zero p ih = ap (λ (b : Bool). cond b 0 (suc (position i rest))) (eqb_self i)
      go true (suc v) p ih =
          ap (λ (b : Bool). cond b 0 (suc (position (get_or rest v 0) rest))) (ne_eqb (get_or rest v 0) i (λ q. let a = above v (omega arith) in omega arith)) ∙ ap suc (ih v (omega arith))
      go false v p ih = ih v p

  pub select_position : (n u : ℕ) → u < length (select f (upto n)) → position (get_or (select f (upto n)) u 0) (select f (upto n)) ≡ u
  unfolding upto
  select_position n u h = select_position_from 0 n u h
