-- The numbers below n of which f holds, in order: how many stand before i, and where i stands.
use mathlib.Core.Path.{◌≡◌, refl, sym, ap, ◌∙◌, subst}
use mathlib.Core.Logic.{◌≢◌}
use mathlib.Core.Bool.{Bool, true, false, not, ◌&&◌, cond}
use mathlib.Core.List.{List, [], ◌∷◌, ◌++◌}
use Prim.Native.Nat.{ℕ, zero, suc, ◌+◌, ◌-◌, ◌<◌}
use native.Mathlib.Decide.{dec_lt}
use native.Mathlib.Omega.{arith}
use borrow.Author.Tests.{lt-ltb, le-ltb, eq-eqb, ne_eqb}
use lib.Dec.{eqb, ltb}
use lib.ListN.{length, get_or, length-append}
use lib.Seq.{get_or-append_seam}
use Rattle.lists.specs.Lists.{from, upto, member, position, select}
use Rattle.lists.proofs.Tests.{clash}
use Rattle.lists.proofs.Upto.{upto_has}
use Rattle.lists.proofs.Members.{has_at, member_has, has_member, select_has, select_true, select_position}

select_append : (f : ℕ → Bool) (a b : List ℕ) → select f (a ++ b) ≡ select f a ++ select f b
unfolding select
select_append f [] b = refl
select_append f (x ∷ xs) b = go (f x) (select_append f xs b)
  where
    go : (t : Bool) → select f (xs ++ b) ≡ select f xs ++ select f b → cond t (x ∷ select f (xs ++ b)) (select f (xs ++ b)) ≡ cond t (x ∷ select f xs) (select f xs) ++ select f b
    go true e = ap (λ (l : List ℕ). x ∷ l) e
    go false e = e

from_split : (a m k : ℕ) → from a (m + k) ≡ from a m ++ from (a + m) k
unfolding from
from_split a zero k = ap (from a) (let e : 0 + k ≡ k = omega arith in e) ∙ ap (λ (z : ℕ). from z k) (let e : a ≡ a + 0 = omega arith in e)
from_split a (suc m) k =
    ap (from a) (let e : suc m + k ≡ suc (m + k) = omega arith in e) ∙ ap (λ (l : List ℕ). a ∷ l)
    (from_split (suc a) m k ∙ ap (λ (z : ℕ). from (suc a) m ++ from z k) (let e : suc a + m ≡ a + suc m = omega arith in e))

-- How many of the numbers before i f holds of.
abbrev pub before : (ℕ → Bool) → ℕ → ℕ
before f i = length (select f (upto i))

module _ (f : ℕ → Bool) where
  split : (n i : ℕ) → i < n → select f (upto n) ≡ select f (upto i) ++ select f (i ∷ from (suc i) (n - suc i))
  unfolding upto from
  split n i h =
      ap (λ (z : ℕ). select f (from 0 z)) (let e : n ≡ i + suc (n - suc i) = omega arith in e)
      ∙ ap (select f) (from_split 0 i (suc (n - suc i)))
      ∙ ap (λ (z : ℕ). select f (from 0 i ++ from z (suc (n - suc i)))) (let e : 0 + i ≡ i = omega arith in e)
      ∙ select_append f (from 0 i) (i ∷ from (suc i) (n - suc i))

  one_more : (i : ℕ) → select f (upto (suc i)) ≡ select f (upto i) ++ select f (i ∷ [])
  unfolding from
  one_more i = split (suc i) i (omega arith) ∙ ap (λ (z : ℕ). select f (upto i) ++ select f (i ∷ from (suc i) z)) (let e : suc i - suc i ≡ 0 = omega arith in e)

  pub before_on : (i : ℕ) → before f (suc i) ≡ cond (f i) (before f i + 1) (before f i)
  unfolding select
  before_on i = ap length (one_more i) ∙ length-append (select f (upto i)) (select f (i ∷ [])) ∙ go (f i)
    where
      go : (t : Bool) → before f i + length (cond t (i ∷ []) []) ≡ cond t (before f i + 1) (before f i)
      go true = refl
      go false = omega arith

  -- The item there is i, if f holds of it; otherwise it is another, or there is none.
  item_is : (n i : ℕ) → i < n → f i ≡ true → (before f i < length (select f (upto n))) × (get_or (select f (upto n)) (before f i) 0 ≡ i)
  unfolding select
  item_is n i h e = (
    let a = ap length s in let b = length-append (select f (upto i)) (i ∷ rest) in omega arith,
    ap (λ (l : List ℕ). get_or l (before f i) 0) s ∙ get_or-append_seam (select f (upto i)) i rest 0,
  )
    where
      rest : List ℕ
      rest = select f (from (suc i) (n - suc i))

      s : select f (upto n) ≡ select f (upto i) ++ i ∷ rest
      s = unfold select in split n i h ∙ ap (λ (t : Bool). select f (upto i) ++ cond t (i ∷ rest) rest) e

  item_not : (n i : ℕ) → i < n → f i ≡ false → before f i < length (select f (upto n)) → get_or (select f (upto n)) (before f i) 0 ≢ i
  item_not n i h e l q = clash (f i) (subst (λ (z : ℕ). f z ≡ true) q (select_true f (upto n) _ (has_at (select f (upto n)) (before f i) l))) e

  pub node_test : (n i : ℕ) → i < n → (ltb (before f i) (length (select f (upto n))) && eqb (get_or (select f (upto n)) (before f i) 0) i) ≡ f i
  node_test n i h = go (f i) refl (dec_lt (before f i) (length (select f (upto n))))
    where
      go : (t : Bool) → f i ≡ t → Dec (before f i < length (select f (upto n))) → (ltb (before f i) (length (select f (upto n))) && eqb (get_or (select f (upto n)) (before f i) 0) i) ≡ t
      go true e d = let a = item_is n i h e in rw (lt-ltb _ _ a.0, eq-eqb _ _ a.1)
      go false e (yes p) = rw (lt-ltb _ _ p, ne_eqb _ _ (item_not n i h e p))
      go false e (no p) = rw (le-ltb (before f i) (length (select f (upto n))) (omega arith))

  pub position_is : (n i : ℕ) → i < n → f i ≡ true → position i (select f (upto n)) ≡ before f i
  position_is n i h e =
      let a = item_is n i h e in
      subst (λ (z : ℕ). position z (select f (upto n)) ≡ before f i) a.1 (select_position f n (before f i) a.0)

  pub member_is : (n i : ℕ) → i < n → member i (select f (upto n)) ≡ f i
  member_is n i h = go (f i) (member i (select f (upto n))) refl refl
    where
      go : (t m : Bool) → f i ≡ t → member i (select f (upto n)) ≡ m → m ≡ t
      go true m e q = sym q ∙ has_member i (select f (upto n)) (select_has f (upto n) i (upto_has n i h) e)
      go false true e q = clash (f i) (select_true f (upto n) i (member_has i (select f (upto n)) q)) e
      go false false e q = refl

-- The others before i are the rest.
pub before_not : (f : ℕ → Bool) (i : ℕ) → before f i + before (λ j. not (f j)) i ≡ i
unfolding upto from select
before_not f zero = refl
before_not f (suc i) =
    let a = before_on f i in
    let b = before_on (λ j. not (f j)) i in
    go (f i) a b (before_not f i)
  where
    go : (t : Bool) → before f (suc i) ≡ cond t (before f i + 1) (before f i) → before (λ j. not (f j)) (suc i) ≡ cond (not t) (before (λ j. not (f j)) i + 1) (before (λ j. not (f j)) i)
        → before f i + before (λ j. not (f j)) i ≡ i → before f (suc i) + before (λ j. not (f j)) (suc i) ≡ suc i
    go true a b h = omega arith
    go false a b h = omega arith
