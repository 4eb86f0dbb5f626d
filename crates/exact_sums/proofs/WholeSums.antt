-- Weights into a group, out of it and aside, as whole numbers; and the run's sums along a row are these.
use mathlib.Core.Path.{◌≡◌, refl, sym, ap, ◌∙◌}
use mathlib.Core.Logic.{◌≢◌}
use mathlib.Core.Bool.{Bool, true, false, ◌||◌, cond, true≢false}
use mathlib.Core.List.{List, [], ◌∷◌}
use Prim.Native.Nat.{ℕ, zero, suc, ◌+◌, ◌≤◌}
use native.Mathlib.Nat.{add-zero}
use native.Mathlib.Omega.{arith}
use borrow.Author.Tests.{eqb-true, ne_eqb, lt-ltb}
use lib.Dec.{ltb, eqb}
use lib.ListN.{length, get_or}
use lib.Ieee.{Float, lt}
use Rattle.lists.proofs.Sums.{sum, only, sum_ext, sum_add}
use Rattle.float.specs.Binary64.{add64, whole64, zero64}
use Rattle.float.proofs.Exact.{most, whole_add, whole_lt, zero_whole}
use Rattle.map_state.specs.declared.Links.{Links}
use Rattle.map_state.specs.MapState.{add_link, link_weights_from, link_weights}
use Rattle.codelength.specs.Codelength.{add_exit, exit_from}
use Rattle.exact_sums.proofs.Whole.{wholes, into, out_of, aside}

-- ---- splits

either : (b : Bool) (x : ℕ) → only b x + cond b 0 x ≡ x
either true x = omega arith
either false x = omega arith

-- A weight is into a group or out of it.
pub into_out : (part : List ℕ) (g : ℕ) (f : ℕ → ℕ) → into part g f + out_of part g f ≡ sum (length part) f
unfolding into out_of
into_out part g f =
    sym (sum_add (length part) (λ v. only (eqb (get_or part v 0) g) (f v)) (λ v. cond (eqb (get_or part v 0) g) 0 (f v)))
    ∙ sum_ext (length part) (λ v. only (eqb (get_or part v 0) g) (f v) + cond (eqb (get_or part v 0) g) 0 (f v)) f (λ v p. either (eqb (get_or part v 0) g) (f v))

three : (b c : Bool) (x : ℕ) → (b ≡ true → c ≡ false) → only c x + cond (b || c) 0 x ≡ cond b 0 x
three true true x d = absurd (true≢false (d refl))
three true false x d = refl
three false true x d = omega arith
three false false x d = omega arith

-- Out of g is into h or aside.
pub out_split : (part : List ℕ) (g h : ℕ) (f : ℕ → ℕ) → g ≢ h → into part h f + aside part g h f ≡ out_of part g f
unfolding into out_of aside
out_split part g h f d =
    sym (sum_add (length part) (λ v. only (eqb (get_or part v 0) h) (f v)) (λ v. cond (eqb (get_or part v 0) g || eqb (get_or part v 0) h) 0 (f v)))
    ∙ sum_ext (length part) (λ v. only (eqb (get_or part v 0) h) (f v) + cond (eqb (get_or part v 0) g || eqb (get_or part v 0) h) 0 (f v)) (λ v. cond (eqb (get_or part v 0) g) 0 (f v))
    (λ v p. three (eqb (get_or part v 0) g) (eqb (get_or part v 0) h) (f v) (λ e. ne_eqb (get_or part v 0) h (λ q. d (sym (eqb-true (get_or part v 0) g e) ∙ q))))

swap_or : (b c : Bool) (x : ℕ) → cond (b || c) 0 x ≡ cond (c || b) 0 x
swap_or true true x = refl
swap_or true false x = refl
swap_or false true x = refl
swap_or false false x = refl

pub aside_sym : (part : List ℕ) (g h : ℕ) (f : ℕ → ℕ) → aside part g h f ≡ aside part h g f
unfolding aside
aside_sym part g h f = sum_ext (length part) (λ v. cond (eqb (get_or part v 0) g || eqb (get_or part v 0) h) 0 (f v)) (λ v. cond (eqb (get_or part v 0) h || eqb (get_or part v 0) g) 0 (f v))
    (λ v p. swap_or (eqb (get_or part v 0) g) (eqb (get_or part v 0) h) (f v))

pub into_le : (part : List ℕ) (g : ℕ) (f : ℕ → ℕ) → into part g f ≤ sum (length part) f
into_le part g f = let r = into_out part g f in omega arith

pub out_le : (part : List ℕ) (g : ℕ) (f : ℕ → ℕ) → out_of part g f ≤ sum (length part) f
out_le part g f = let r = into_out part g f in omega arith

-- ---- along a row

pub above_zero : (k : ℕ) → k ≤ most → lt zero64 (whole64 k) ≡ ltb 0 k
above_zero k h = ap (λ (z : Float). lt z (whole64 k)) zero_whole ∙ whole_lt 0 k (omega arith) h

-- A weight is added where it is above 0.
pub add_above : (a k : ℕ) → a + k ≤ most → cond (lt zero64 (whole64 k)) (add64 (whole64 a) (whole64 k)) (whole64 a) ≡ whole64 (a + k)
add_above a zero h = ap (λ (b : Bool). cond b (add64 (whole64 a) (whole64 0)) (whole64 a)) (above_zero 0 (omega arith)) ∙ ap whole64 (sym (add-zero a))
add_above a (suc k) h =
    ap (λ (b : Bool). cond b (add64 (whole64 a) (whole64 (suc k))) (whole64 a)) (above_zero (suc k) (omega arith) ∙ lt-ltb 0 (suc k) (omega arith)) ∙ whole_add a (suc k) (omega arith) (omega arith)

abbrev pub whole_links : ℕ → ℕ → ℕ → Links
whole_links a b c = record { src = whole64 a; dest = whole64 b; other = whole64 c }

links_path : {a a' b b' c c' : ℕ} → a ≡ a' → b ≡ b' → c ≡ c' → whole_links a b c ≡ whole_links a' b' c'
links_path p q r = λ i. whole_links (p i) (q i) (r i)

module _ (g h : ℕ) (d : g ≢ h) where
  add_one_link : (a b c p k : ℕ) → a + b + c + k ≤ most
      → add_link g h (whole_links a b c) p (whole64 k) ≡ whole_links (a + only (eqb p g) k) (b + only (eqb p h) k) (c + cond (eqb p g || eqb p h) 0 k)
  unfolding add_link
  add_one_link a b c p k m = go (eqb p g) (eqb p h) (λ e. ne_eqb p h (λ q. d (sym (eqb-true p g e) ∙ q))) (lt zero64 (whole64 k)) (add_above a k (omega arith)) (add_above b k (omega arith)) (add_above c k (omega arith))
    where
      pick : Bool → Bool → Links
      pick x y =
          cond x (record { src = add64 (whole64 a) (whole64 k); dest = whole64 b; other = whole64 c })
          (cond y (record { src = whole64 a; dest = add64 (whole64 b) (whole64 k); other = whole64 c }) (record { src = whole64 a; dest = whole64 b; other = add64 (whole64 c) (whole64 k) }))

      go : (x y : Bool) → (x ≡ true → y ≡ false) → (t : Bool) → cond t (add64 (whole64 a) (whole64 k)) (whole64 a) ≡ whole64 (a + k) → cond t (add64 (whole64 b) (whole64 k)) (whole64 b) ≡ whole64 (b + k)
          → cond t (add64 (whole64 c) (whole64 k)) (whole64 c) ≡ whole64 (c + k) → cond t (pick x y) (whole_links a b c) ≡ whole_links (a + only x k) (b + only y k) (c + cond (x || y) 0 k)
      go true true z t p q r = absurd (true≢false (z refl))
      go true false z true p q r = λ i. record { src = p i; dest = whole64 (sym (add-zero b) i); other = whole64 (sym (add-zero c) i) }
      go true false z false p q r = λ i. record { src = p i; dest = whole64 (sym (add-zero b) i); other = whole64 (sym (add-zero c) i) }
      go false true z true p q r = λ i. record { src = whole64 (sym (add-zero a) i); dest = q i; other = whole64 (sym (add-zero c) i) }
      go false true z false p q r = λ i. record { src = whole64 (sym (add-zero a) i); dest = q i; other = whole64 (sym (add-zero c) i) }
      go false false z true p q r = λ i. record { src = whole64 (sym (add-zero a) i); dest = whole64 (sym (add-zero b) i); other = r i }
      go false false z false p q r = λ i. record { src = whole64 (sym (add-zero a) i); dest = whole64 (sym (add-zero b) i); other = r i }

  links_from : (part : List ℕ) (f : ℕ → ℕ) (a b c : ℕ) → a + b + c + sum (length part) f ≤ most
      → link_weights_from g h (whole_links a b c) part (wholes (length part) f) ≡ whole_links (a + into part g f) (b + into part h f) (c + aside part g h f)
  unfolding link_weights_from wholes sum into aside
  links_from [] f a b c m = links_path (sym (add-zero a)) (sym (add-zero b)) (sym (add-zero c))
  links_from (p ∷ ps) f a b c m =
      ap (λ (l : Links). link_weights_from g h l ps (wholes (length ps) (λ v. f (suc v)))) (add_one_link a b c p (f 0) (omega arith))
      ∙ links_from ps (λ v. f (suc v)) (a + only (eqb p g) (f 0)) (b + only (eqb p h) (f 0)) (c + cond (eqb p g || eqb p h) 0 (f 0)) (let z = spread (eqb p g) (eqb p h) (λ e. ne_eqb p h (λ q. d (sym (eqb-true p g e) ∙ q))) (f 0) in omega arith)
      ∙ links_path (omega arith) (omega arith) (omega arith)
    where
      spread : (x y : Bool) → (x ≡ true → y ≡ false) → (k : ℕ) → only x k + only y k + cond (x || y) 0 k ≡ k
      spread true true z k = absurd (true≢false (z refl))
      spread true false z k = omega arith
      spread false true z k = omega arith
      spread false false z k = omega arith

  -- The weights from a node with this row into g, into h and elsewhere.
  pub links_whole : (part : List ℕ) (f : ℕ → ℕ) → sum (length part) f ≤ most → link_weights g h part (wholes (length part) f) ≡ whole_links (into part g f) (into part h f) (aside part g h f)
  links_whole part f m =
      ap (λ (z : Float). link_weights_from g h (record { src = z; dest = z; other = z }) part (wholes (length part) f)) zero_whole ∙ links_from part f 0 0 0 (omega arith) ∙ links_path (omega arith) (omega arith) (omega arith)

add_one_exit : (g a p k : ℕ) → a + k ≤ most → add_exit g (whole64 a) p (whole64 k) ≡ whole64 (a + cond (eqb p g) 0 k)
unfolding add_exit
add_one_exit g a p k m = go (eqb p g) (lt zero64 (whole64 k)) (add_above a k m)
  where
    go : (x t : Bool) → cond t (add64 (whole64 a) (whole64 k)) (whole64 a) ≡ whole64 (a + k) → cond t (cond x (whole64 a) (add64 (whole64 a) (whole64 k))) (whole64 a) ≡ whole64 (a + cond x 0 k)
    go true true e = ap whole64 (sym (add-zero a))
    go true false e = ap whole64 (sym (add-zero a))
    go false true e = e
    go false false e = e

-- The weights of a row out of g, added to a.
pub exit_whole : (g : ℕ) (part : List ℕ) (f : ℕ → ℕ) (a : ℕ) → a + sum (length part) f ≤ most → exit_from g (whole64 a) part (wholes (length part) f) ≡ whole64 (a + out_of part g f)
unfolding exit_from wholes sum out_of
exit_whole g [] f a m = ap whole64 (sym (add-zero a))
exit_whole g (p ∷ ps) f a m =
    ap (λ (z : Float). exit_from g z ps (wholes (length ps) (λ v. f (suc v)))) (add_one_exit g a p (f 0) (omega arith))
    ∙ exit_whole g ps (λ v. f (suc v)) (a + cond (eqb p g) 0 (f 0)) (let z = small (eqb p g) (f 0) in omega arith)
    ∙ ap whole64 (omega arith)
  where
    small : (b : Bool) (k : ℕ) → cond b 0 k ≤ k
    small true k = omega arith
    small false k = omega arith
