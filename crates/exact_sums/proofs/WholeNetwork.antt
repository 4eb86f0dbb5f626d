-- A table of whole weights makes a network of whole weights, whose D is above 0 exactly where it has a link.
use mathlib.Core.Path.{◌≡◌, refl, sym, ap, ap₂, ◌∙◌, subst}
use mathlib.Core.Bool.{false}
use mathlib.Core.List.{List, ◌∷◌}
use Prim.Native.Nat.{ℕ, zero, suc, ◌+◌, ◌-◌, ◌*◌, ◌^◌, ◌<◌, ◌≤◌}
use native.Mathlib.Nat.{le_trans, zero-lt-suc, add-zero}
use native.Mathlib.Omega.{arith}
use borrow.Author.Tests.{lt-ltb}
use lib.Dec.{ltb}
use lib.ListN.{length, get_or, drop}
use lib.Ieee.{Float, nan, binary64, lt, mul, of_bits}
use lib.Ieee.Exact.{HasValue}
use lib.Ieee.Positive.{positive_of_value, mul_at}
use Rattle.lists.proofs.Sums.{sum, sum_ext, sum_le, sum_split, sum_at}
use Rattle.float.specs.Binary64.{mul64, whole64, zero64, two64}
use Rattle.float.proofs.Exact.{most, is_whole, whole_round, zero_whole}
use Rattle.map_state.specs.Network.{row_at, row, add_weights, strengths_from, total_from, network}
use Rattle.map_state.proofs.Rows.{length_strengths}
use Rattle.exact_sums.proofs.Whole.{wholes, WholeWeights}
use Rattle.exact_sums.proofs.WholeSums.{add_above, above_zero}
use Rattle.exact_sums.proofs.WholeMoves.{row_le}

-- ---- lists of whole numbers

add_wholes : (n : ℕ) (f : ℕ → ℕ) (a : ℕ) → a + sum n f ≤ most → add_weights (whole64 a) (wholes n f) ≡ whole64 (a + sum n f)
unfolding add_weights wholes sum
add_wholes zero f a h = ap whole64 (sym (add-zero a))
add_wholes (suc n) f a h =
    ap (λ (z : Float). add_weights z (wholes n (λ v. f (suc v)))) (add_above a (f 0) (omega arith)) ∙ add_wholes n (λ v. f (suc v)) (a + f 0) (omega arith) ∙ ap whole64 (omega arith)

wholes_ext : (n : ℕ) (f g : ℕ → ℕ) → ((v : ℕ) → f v ≡ g v) → wholes n f ≡ wholes n g
unfolding wholes
wholes_ext zero f g e = refl
wholes_ext (suc n) f g e = ap₂ {C = List Float} (λ x xs. x ∷ xs) (ap whole64 (e 0)) (wholes_ext n (λ v. f (suc v)) (λ v. g (suc v)) (λ v. e (suc v)))

drop_wholes : (m n : ℕ) (f : ℕ → ℕ) → drop m (wholes (m + n) f) ≡ wholes n (λ v. f (m + v))
unfolding wholes
drop_wholes zero n f = let e : 0 + n ≡ n = omega arith in ap (λ (z : ℕ). wholes z f) e ∙ wholes_ext n f (λ v. f (0 + v)) (λ v. ap f (let q : v ≡ 0 + v = omega arith in q))
drop_wholes (suc m) n f =
    let e : suc m + n ≡ suc (m + n) = omega arith in
    ap (λ (z : ℕ). drop (suc m) (wholes z f)) e ∙ drop_wholes m n (λ v. f (suc v)) ∙ wholes_ext n (λ v. f (suc (m + v))) (λ v. f (suc m + v)) (λ v. ap f (let q : suc (m + v) ≡ suc m + v = omega arith in q))

-- Twice a whole number.
double_above : (t : ℕ) → t ≤ 2 ^ 52 → lt zero64 (mul64 two64 (whole64 t)) ≡ ltb 0 t
double_above zero h = unfold lt mul of_bits in ap (λ (z : Float). lt zero64 (mul64 two64 z)) (sym zero_whole) ∙ refl
double_above (suc t) h =
    let doubled = mul_at binary64 two64 (whole64 (suc t)) 2 1 (suc t) 1 (positive_of_value two64 2 1 two (zero-lt-suc 1))
    (positive_of_value (whole64 (suc t)) (suc t) 1 whole (zero-lt-suc t)) (zero-lt-suc 0) (zero-lt-suc 0) two whole in
    ap (lt zero64) (doubled ∙ sym (whole_round (2 * suc t)))
    ∙ above_zero (2 * suc t) (omega arith) ∙ lt-ltb 0 (2 * suc t) (omega arith) ∙ sym (lt-ltb 0 (suc t) (omega arith))
  where
    two : HasValue two64 false 2 1
    two = unfold of_bits in (refl, refl)

    whole : HasValue (whole64 (suc t)) false (suc t) 1
    whole = is_whole (suc t) (omega arith)

-- The weights from u to the nodes above it.
abbrev pub above : ℕ → (ℕ → ℕ → ℕ) → ℕ → ℕ
above n w u = sum (n - suc u) (λ v. w u (suc u + v))

module _ (t : List Float) (n : ℕ) (w : ℕ → ℕ → ℕ) (rows : (u : ℕ) → u < n → row_at t n n u ≡ wholes n (w u)) (small : sum n (λ u. sum n (w u)) ≤ 2 ^ 52) where
  row_small : (u : ℕ) → u < n → sum n (w u) ≤ 2 ^ 52
  row_small u h = le_trans (row_le w n u h) small

  -- ---- strengths

  strength_at : (u k i : ℕ) → i < k → u + k ≤ n → get_or (strengths_from t n n u k) i nan ≡ whole64 (sum n (w (u + i)))
  unfolding strengths_from
  strength_at u zero i h l = absurd (omega arith)
  strength_at u (suc k) zero h l =
      ap₂ add_weights zero_whole (rows u (omega arith)) ∙ add_wholes n (w u) 0 (let r = row_small u (omega arith) in omega arith)
      ∙ ap whole64 (let q : 0 + sum n (w u) ≡ sum n (w u) = omega arith in q) ∙ ap (λ (z : ℕ). whole64 (sum n (w z))) (sym (add-zero u))
  strength_at u (suc k) (suc i) h l = strength_at (suc u) k i (omega arith) (omega arith) ∙ ap (λ (z : ℕ). whole64 (sum n (w z))) (let q : suc u + i ≡ u + suc i = omega arith in q)

  size : length (network t n n).strength ≡ n
  unfolding network
  size = length_strengths t n n

  -- ---- the total weight: of each node the weights to the nodes above it

  abbrev up : ℕ → ℕ
  up = above n w

  up_le : (u : ℕ) → u < n → up u ≤ sum n (w u)
  up_le u h =
      let s = sum_split (suc u) (n - suc u) (w u) in
      let e : sum (suc u + (n - suc u)) (w u) ≡ sum n (w u) = ap (λ (z : ℕ). sum z (w u)) (let q : suc u + (n - suc u) ≡ n = omega arith in q) in
      omega arith

  up_all : sum n up ≤ 2 ^ 52
  up_all = le_trans (sum_le n up (λ u. sum n (w u)) up_le) small

  total_from_lem : (a u k : ℕ) → u + k ≡ n → a + sum k (λ v. up (u + v)) ≤ 2 ^ 52 → total_from t n n (whole64 a) u k ≡ whole64 (a + sum k (λ v. up (u + v)))
  unfolding total_from sum
  total_from_lem a u zero e h = ap whole64 (sym (add-zero a))
  total_from_lem a u (suc k) e h =
      let z : up (u + 0) ≡ up u = ap up (add-zero u) in
      let s = sum_ext k (λ v. up (u + suc v)) (λ v. up (suc u + v)) (λ v p. ap up (let q : u + suc v ≡ suc u + v = omega arith in q)) in
      ap (λ (x : Float). total_from t n n x (suc u) k)
      (ap (λ (r : List Float). add_weights (whole64 a) (drop (suc u) r)) (rows u (omega arith) ∙ ap (λ (m : ℕ). wholes m (w u)) (let q : n ≡ suc u + (n - suc u) = omega arith in q))
      ∙ ap (add_weights (whole64 a)) (drop_wholes (suc u) (n - suc u) (w u)) ∙ add_wholes (n - suc u) (λ v. w u (suc u + v)) a (omega arith))
      ∙ total_from_lem (a + up u) (suc u) k (omega arith) (omega arith) ∙ ap whole64 (omega arith)

  total : total_from t n n zero64 0 n ≡ whole64 (sum n up)
  total =
      let s = sum_ext n (λ v. up (0 + v)) up (λ v p. ap up (let q : 0 + v ≡ v = omega arith in q)) in
      ap (λ (z : Float). total_from t n n z 0 n) zero_whole ∙ total_from_lem 0 0 n (omega arith) (let l = up_all in omega arith) ∙ ap whole64 (omega arith)

  -- D is above 0 exactly where some weight is.
  pub d_above : lt zero64 (network t n n).d ≡ ltb 0 (sum n up)
  unfolding network
  d_above = ap (λ (z : Float). lt zero64 (mul64 two64 z)) total ∙ double_above (sum n up) up_all

  pub link_above : (u v : ℕ) → u < v → v < n → 0 < w u v → 0 < sum n up
  link_above u v h k p =
      let a = sum_at n up u (omega arith) in
      let b = sum_at (n - suc u) (λ x. w u (suc u + x)) (v - suc u) (omega arith) in
      let e : w u (suc u + (v - suc u)) ≡ w u v = ap (w u) (let q : suc u + (v - suc u) ≡ v = omega arith in q) in
      omega arith

  pub same : (u : ℕ) → row (network t n n) u ≡ row_at t n n u
  unfolding row network
  same u = ap (λ (m : ℕ). row_at t n m u) (length_strengths t n n)

  sum_at_u : (u : ℕ) → u < n → get_or (network t n n).strength u nan ≡ whole64 (sum n (w (0 + u)))
  unfolding network
  sum_at_u u l = strength_at 0 n u l (omega arith)

  -- The network of the table.
  pub whole_network : ((u v : ℕ) → u < n → v < n → w u v ≡ w v u) → ((u : ℕ) → u < n → w u u ≡ 0) → WholeWeights (network t n n) w
  whole_network both none = record {
    rows = λ u h. let l : u < n = subst (λ (m : ℕ). u < m) size h in row_is u l;
    strengths = λ u h. let l : u < n = subst (λ (m : ℕ). u < m) size h in strength_is u l;
    both = λ u v h k. both u v (subst (λ (m : ℕ). u < m) size h) (subst (λ (m : ℕ). v < m) size k);
    none = λ u h. none u (subst (λ (m : ℕ). u < m) size h);
    small = subst (λ (m : ℕ). sum m (λ u. sum m (w u)) ≤ 2 ^ 52) (sym size) small;
  }
    where
      row_is : (u : ℕ) → u < n → row (network t n n) u ≡ wholes (length (network t n n).strength) (w u)
      row_is u l = same u ∙ rows u l ∙ ap (λ (m : ℕ). wholes m (w u)) (sym size)

      strength_is : (u : ℕ) → u < n → get_or (network t n n).strength u nan ≡ whole64 (sum (length (network t n n).strength) (w u))
      strength_is u l = sum_at_u u l ∙ ap₂ (λ (m x : ℕ). whole64 (sum m (w x))) (sym size) (let q : 0 + u ≡ u = omega arith in q)

  pub whole_size : length (network t n n).strength ≡ n
  whole_size = size
