-- Links: they go both ways, no place links to itself, and what the table's cells are worked out from.
use mathlib.Core.Path.{◌≡◌, refl, sym, ap, ◌∙◌, subst}
use mathlib.Core.Logic.{◌≢◌}
use mathlib.Core.Bool.{true, false, not, ◌&&◌, cond}
use mathlib.Core.List.{List, [], ◌∷◌}
use Prim.Native.Nat.{ℕ, zero, suc, ◌<◌, ◌≤◌, max}
use native.Mathlib.Nat.{max_comm}
use native.Mathlib.Decide.{ℕ_discrete, dec_lt}
use native.Mathlib.Omega.{arith}
use borrow.Author.Tests.{eq-eqb, ne_eqb, le-leb, lt-leb}
use lib.Dec.{leb, eqb}
use lib.ListN.{length, get_or}
use lib.Ieee.{Float, nan, le}
use Rattle.lists.proofs.Tests.{eqb_self}
use Rattle.float.specs.Binary64.{whole64, zero64}
use Rattle.distance.specs.declared.Point.{Point}
use Rattle.neighbors.specs.Places.{Place, places_in, place_at}
use Rattle.distance.specs.Distance.{Metric}
use Rattle.neighbors.specs.Links.{apart, link, weight}
use Rattle.neighbors.proofs.Sighted.{length_places_in}

module _ (dist : Metric) (r2 : Float) (ps : List Place) where
  apart_sym : (i j : ℕ) → i ≢ j → apart dist ps i j ≡ apart dist ps j i
  unfolding apart
  apart_sym i j d = go (dec_lt i j) (dec_lt j i)
    where
      go : Dec (i < j) → Dec (j < i) → cond (leb i j) (dist (place_at ps i).at (place_at ps j).at) (dist (place_at ps j).at (place_at ps i).at)
          ≡ cond (leb j i) (dist (place_at ps j).at (place_at ps i).at) (dist (place_at ps i).at (place_at ps j).at)
      go (yes h) k = rw (le-leb i j (omega arith), lt-leb j i h)
      go (no h) (yes k) = rw (lt-leb i j k, le-leb j i (omega arith))
      go (no h) (no k) = absurd (d (omega arith))

  pub link_self : (i : ℕ) → link dist r2 ps i i ≡ false
  unfolding link
  link_self i = rw (eqb_self i)

  pub link_sym : (i j : ℕ) → link dist r2 ps i j ≡ link dist r2 ps j i
  unfolding link
  link_sym i j = go (ℕ_discrete i j)
    where
      go : Dec (i ≡ j) → (not (eqb i j) && le (apart dist ps i j) r2) ≡ (not (eqb j i) && le (apart dist ps j i) r2)
      go (yes e) = rw (eq-eqb i j e, eq-eqb j i (sym e))
      go (no d) = rw (ne_eqb i j d, ne_eqb j i (λ e. d (sym e)), apart_sym i j d)

  pub weight_self : (i : ℕ) → weight dist r2 ps i i ≡ zero64
  unfolding weight
  weight_self i = rw (link_self i)

  pub weight_sym : (i j : ℕ) → weight dist r2 ps i j ≡ weight dist r2 ps j i
  unfolding weight
  weight_sym i j = rw (link_sym i j, max_comm (place_at ps i).count (place_at ps j).count)

  -- The weight of a pair, lower number first.
  pub weight_pair : (i j : ℕ) → i < j
      → weight dist r2 ps i j ≡ cond (le (dist (place_at ps i).at (place_at ps j).at) r2) (whole64 (max (place_at ps i).count (place_at ps j).count))
      zero64
  unfolding weight link apart
  weight_pair i j h = rw (ne_eqb i j (λ e. omega arith), le-leb i j (omega arith))

-- ---- what the slices hold

pub place_in : (xs ys : List Float) (cs : List ℕ) (i : ℕ) → length ys ≡ length xs → length cs ≡ length xs → i < length xs
    → place_at (places_in xs ys cs) i ≡ record { at = record { x = get_or xs i nan; y = get_or ys i nan }; count = get_or cs i 0 }
unfolding places_in
place_in [] ys cs i p q h = absurd (omega arith)
place_in (x ∷ xs) [] cs i p q h = absurd (omega arith)
place_in (x ∷ xs) (y ∷ ys) [] i p q h = absurd (omega arith)
place_in (x ∷ xs) (y ∷ ys) (c ∷ cs) zero p q h = refl
place_in (x ∷ xs) (y ∷ ys) (c ∷ cs) (suc i) p q h = place_in xs ys cs i (omega arith) (omega arith) (omega arith)

module _ (xs ys : List Float) (cs : List ℕ) (p : length ys ≡ length xs) (q : length cs ≡ length xs) (i : ℕ) (h : i < length (places_in xs ys cs)) where
  pub column_lt : i < length xs
  column_lt = let e = length_places_in xs ys cs p q in omega arith

  pub count_place : get_or cs i 0 ≡ (place_at (places_in xs ys cs) i).count
  count_place = ap (λ (a : Place). a.count) (sym (place_in xs ys cs i p q column_lt))

-- A cell of the table, by the code's three ways.
module _ (dist : Metric) (r2 : Float) (ps : List Place) (i j : ℕ) where
  pub cell_same : i ≡ j → zero64 ≡ weight dist r2 ps i j
  cell_same e = sym (subst (λ (z : ℕ). weight dist r2 ps i z ≡ zero64) e (weight_self dist r2 ps i))

  pub cell_pair : {w : Float} {p q : Point} {c d : ℕ} → p ≡ (place_at ps i).at → q ≡ (place_at ps j).at → c ≡ (place_at ps i).count → d ≡ (place_at ps j).count → i ≤ j → (i ≡ j → ⊥)
      → w ≡ cond (le (dist p q) r2) (whole64 (max c d)) zero64 → w ≡ weight dist r2 ps i j
  cell_pair f g h k l n e =
      let before : i < j = let m : i ≢ j = n in omega arith in
      e ∙ rw (f, g, h, k) (sym (weight_pair dist r2 ps i j before))

-- `pair_weight`, by its two ways.
module _ (dist : Metric) (p q : Point) (c d : ℕ) (r2 : Float) {x : Float} (e : x ≡ dist p q) where
  pub pair_links : {m : ℕ} → le x r2 ≡ true → m ≡ max c d → whole64 m ≡ cond (le (dist p q) r2) (whole64 (max c d)) zero64
  pair_links h k = rw (← e, h, k)

  pub pair_apart : le x r2 ≡ false → zero64 ≡ cond (le (dist p q) r2) (whole64 (max c d)) zero64
  pair_apart h = rw (← e, h)
