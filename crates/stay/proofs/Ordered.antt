-- Ordered insertion: a list in order stays in order, and in such a list the place of an element can be found by halving.
use mathlib.Core.Path.{◌≡◌, refl, sym, ap, ap₂, ◌∙◌, subst}
use mathlib.Core.Bool.{Bool, true, false, ◌&&◌, cond}
use mathlib.Core.List.{List, [], ◌∷◌, ◌++◌}
use Prim.Native.Nat.{ℕ, zero, suc, ◌≤◌, ◌<◌}
use native.Mathlib.Nat.{le_of_suc-le-suc}
use native.Mathlib.Omega.{arith}
use lib.ListN.{length, take, drop, get_or, length-append, take-append-drop}
use lib.Ieee.{Float, nan, add, mul, of_bits}
use Rattle.std.specs.List.Sorted.{IsPartitionedBy, IsPartitionPoint}
use Rattle.lists.proofs.Maps.{get_or_inside}
use Rattle.lists.proofs.Tests.{and_left, and_right}
use Rattle.stay.specs.Ordered.{at_most, insertion_point, insert_ordered, ordered_from, ordered, median}
use Rattle.stay.specs.StepsOrdered.{at_most_first, in_order}
use Rattle.stay.proofs.AtMost.{at_most_trans, at_most_other}

-- ---- what stands where

pub position_le : (e : Float) (xs : List Float) → insertion_point e xs ≤ length xs
unfolding insertion_point
position_le e [] = omega arith
position_le e (x ∷ xs) = go (at_most x e) (position_le e xs)
  where
    go : (t : Bool) → insertion_point e xs ≤ length xs → cond t (suc (insertion_point e xs)) 0 ≤ suc (length xs)
    go true h = omega arith
    go false h = omega arith

pub insert_length : (e : Float) (l : List Float) → length (insert_ordered e l) ≡ suc (length l)
unfolding insert_ordered
insert_length e l =
    let q : length (take (insertion_point e l) l ++ drop (insertion_point e l) l) ≡ length l = ap length (take-append-drop (insertion_point e l) l) in
    simp length-append (omega (arith, simp length-append at q))

pub insert_cons : (e x : Float) (xs : List Float) → insert_ordered e (x ∷ xs) ≡ cond (at_most x e) (x ∷ insert_ordered e xs) (e ∷ x ∷ xs)
unfolding insert_ordered insertion_point
insert_cons e x xs = go (at_most x e)
  where
    go : (t : Bool)
        → take (cond t (suc (insertion_point e xs)) 0) (x ∷ xs) ++ (e ∷ drop (cond t (suc (insertion_point e xs)) 0) (x ∷ xs))
        ≡ cond t (x ∷ (take (insertion_point e xs) xs ++ (e ∷ drop (insertion_point e xs) xs))) (e ∷ x ∷ xs)
    go true = refl
    go false = refl

-- ---- a list in order stays in order

and_both : (a b : Bool) → a ≡ true → b ≡ true → (a && b) ≡ true
and_both a b p q = ap₂ ◌&&◌ p q

-- x, at most e and at most the first of xs, is at most the first of the list that e goes into
first_of : (x e : Float) (xs : List Float) → at_most x e ≡ true → at_most_first x xs ≡ true → at_most_first x (insert_ordered e xs) ≡ true
unfolding at_most_first insert_ordered
first_of x e [] h k = h
first_of x e (y ∷ ys) h k = subst (λ (l : List Float). at_most_first x l ≡ true) (sym (insert_cons e y ys)) (go (at_most y e))
  where
    go : (t : Bool) → at_most_first x (cond t (y ∷ insert_ordered e ys) (e ∷ y ∷ ys)) ≡ true
    go true = k
    go false = h

pub insert_in_order : (e : Float) (xs : List Float) → in_order xs ≡ true → in_order (insert_ordered e xs) ≡ true
unfolding in_order at_most_first insert_ordered
insert_in_order e [] h = refl
insert_in_order e (x ∷ xs) h = subst (λ (l : List Float). in_order l ≡ true) (sym (insert_cons e x xs)) (go (at_most x e) refl (insert_in_order e xs rest))
  where
    first : at_most_first x xs ≡ true
    first = and_left (at_most_first x xs) (in_order xs) h

    rest : in_order xs ≡ true
    rest = and_right (at_most_first x xs) (in_order xs) h

    go : (t : Bool) → at_most x e ≡ t → in_order (insert_ordered e xs) ≡ true → in_order (cond t (x ∷ insert_ordered e xs) (e ∷ x ∷ xs)) ≡ true
    go true p ih = and_both (at_most_first x (insert_ordered e xs)) (in_order (insert_ordered e xs)) (first_of x e xs p first) ih
    go false p ih = and_both (at_most e x) (at_most_first x xs && in_order xs) (at_most_other x e p) h

ordered_from_in_order : (acc xs : List Float) → in_order acc ≡ true → in_order (ordered_from acc xs) ≡ true
unfolding ordered_from
ordered_from_in_order acc [] h = h
ordered_from_in_order acc (x ∷ xs) h = ordered_from_in_order (insert_ordered x acc) xs (insert_in_order x acc h)

pub ordered_in_order : (xs : List Float) → in_order (ordered xs) ≡ true
unfolding ordered in_order
ordered_in_order xs = ordered_from_in_order [] xs refl

-- one more element
ordered_from_more : (acc xs : List Float) (x : Float) → ordered_from acc (xs ++ (x ∷ [])) ≡ insert_ordered x (ordered_from acc xs)
unfolding ordered_from
ordered_from_more acc [] x = refl
ordered_from_more acc (y ∷ ys) x = ordered_from_more (insert_ordered y acc) ys x

pub ordered_more : (xs : List Float) (x : Float) → ordered (xs ++ (x ∷ [])) ≡ insert_ordered x (ordered xs)
unfolding ordered
ordered_more xs x = ordered_from_more [] xs x

-- ---- halving

in_order_first : (x : Float) (xs : List Float) → in_order (x ∷ xs) ≡ true → (k : ℕ) → k < length xs → at_most x (get_or xs k nan) ≡ true
unfolding in_order at_most_first
in_order_first x [] h k l = absurd (omega arith)
in_order_first x (y ∷ ys) h zero l = and_left (at_most x y) (in_order (y ∷ ys)) h
in_order_first x (y ∷ ys) h (suc k) l =
    at_most_trans x y (get_or ys k nan) (and_left (at_most x y) (in_order (y ∷ ys)) h) (in_order_first y ys (and_right (at_most x y) (in_order (y ∷ ys)) h) k (omega arith))

-- what is at most e stands before what is not
before : (e : Float) (xs : List Float) → in_order xs ≡ true → (j k : ℕ) → j ≤ k → k < length xs → at_most (get_or xs k nan) e ≡ true → at_most (get_or xs j nan) e ≡ true
unfolding in_order
before e [] h j k l m t = absurd (omega arith)
before e (x ∷ xs) h zero zero l m t = t
before e (x ∷ xs) h zero (suc k) l m t = at_most_trans x (get_or xs k nan) e (in_order_first x xs h k (omega arith)) t
before e (x ∷ xs) h (suc j) zero l m t = absurd (omega arith)
before e (x ∷ xs) h (suc j) (suc k) l m t = before e xs (and_right (at_most_first x xs) (in_order xs) h) j k (omega arith) (omega arith) t

-- what the kit's `partition_point` asks of such a list, and what it tells
pub in_order_parts : (e : Float) (xs : List Float) → in_order xs ≡ true → IsPartitionedBy (λ x. at_most x e) xs
in_order_parts e xs h i j d k l m =
    subst (λ (x : Float). at_most x e ≡ true) (sym (get_or_inside xs i d nan (omega arith)))
    (before e xs h i j k l (subst (λ (x : Float). at_most x e ≡ true) (get_or_inside xs j d nan l) m))

position_is : (e : Float) (xs : List Float) (p : ℕ) → p ≤ length xs → ((k : ℕ) → k < p → at_most (get_or xs k nan) e ≡ true)
    → ((k : ℕ) → p ≤ k → k < length xs → at_most (get_or xs k nan) e ≡ false) → p ≡ insertion_point e xs
unfolding insertion_point
position_is e [] p h a b = omega arith
position_is e (x ∷ xs) zero h a b = sym (ap (λ (t : Bool). cond t (suc (insertion_point e xs)) 0) (b 0 (omega arith) (omega arith)))
position_is e (x ∷ xs) (suc q) h a b =
    ap suc (position_is e xs q (le_of_suc-le-suc h) (λ k g. a (suc k) (omega arith)) (λ k g l. b (suc k) (omega arith) (omega arith)))
    ∙ sym (ap (λ (t : Bool). cond t (suc (insertion_point e xs)) 0) (a 0 (omega arith)))

pub position_parts : (e : Float) (xs : List Float) (p : ℕ) → p ≤ length xs → IsPartitionPoint (λ x. at_most x e ≡ true) (λ x. at_most x e ≡ false) xs p → p ≡ insertion_point e xs
position_parts e xs p h q = position_is e xs p h (λ k g. q.0 k nan (omega arith) g) (λ k g l. q.1 k nan g l)

-- the median of no elements
pub median_none : (xs : List Float) → length xs ≡ 0 → nan ≡ median xs
unfolding median add mul of_bits
median_none [] h = refl
median_none (x ∷ xs) h = absurd (omega arith)
