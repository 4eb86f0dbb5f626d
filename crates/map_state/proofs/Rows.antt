-- The rows of the table, and how the loops over them go on and end.
use mathlib.Core.Path.{◌≡◌, refl, sym, ap, ◌∙◌}
use mathlib.Core.Bool.{true, false, cond}
use mathlib.Core.List.{List, [], ◌∷◌, ◌++◌}
use Prim.Native.Nat.{ℕ, zero, suc, ◌+◌, ◌-◌, ◌*◌, ◌<◌, ◌≤◌}
use native.Mathlib.Nat.{add-zero, sub-zero, zero-sub, suc-sub-suc, add-sub_cancel_left, mul-le-mul_right}
use native.Mathlib.Numerals.{add-one}
use native.Mathlib.Omega.{arith}
use lib.ListN.{length, get_or, take, drop, length-drop, drop_of_length-le, replicate}
use lib.Seq.{drop-cons, drop-drop, ext_get_or, length-take-le, take-nil, take_at}
use lib.Ieee.{Float, nan, lt}
use Rattle.float.specs.Binary64.{add64, mul64, zero64, two64}
use Rattle.map_state.specs.Network.{Network, row_at, add_weights, strengths_from, strengths_of, total_from, total_weight, network}
use Rattle.map_state.specs.Steps.{Rows, EachRow}

-- a row ends inside the table
pub row_inside : (t : List Float) (m n u : ℕ) → Rows t m n → u < n → u * m + n ≤ length t
row_inside t m n u r h = omega (arith, mul-le-mul_right {m = u + 1} {n = n} m (omega arith), r.wide, r.rows)

-- likewise where the last row may end after its n numbers
pub row_within : (t : List Float) (m n u : ℕ) → EachRow t m n → u < n → u * m + n ≤ length t
row_within t m n u r h = r.inside u h

-- a row as the code lends it
pub row_length : (table : List Float) (s n : ℕ) → s + n ≤ length table → length (take (s + n - s) (drop s table)) ≡ n
row_length table s n h = rw (add-sub_cancel_left, length-take-le n (drop s table) (simp length-drop (omega arith)))

drop_take : (k n : ℕ) (l : List Float) → drop k (take n l) ≡ take (n - k) (drop k l)
drop_take zero n l = rw sub-zero
drop_take (suc k) zero l = rw zero-sub
drop_take (suc k) (suc n) [] = rw suc-sub-suc (sym (take-nil (n - k)))
drop_take (suc k) (suc n) (x ∷ xs) = rw suc-sub-suc (drop_take k n xs)

-- the part of u's row above u, as the code lends it
pub row_above : (table : List Float) (m n u : ℕ) → u < n → take (u * m + n - (u * m + u + 1)) (drop (u * m + u + 1) table) ≡ drop (suc u) (row_at table m n u)
row_above table m n u h =
    let e : u * m + n - (u * m + u + 1) ≡ n - suc u = omega arith in
    let f : u * m + u + 1 ≡ u * m + suc u = omega arith in
    rw (e, f) (sym (drop_take (suc u) n (drop (u * m) table) ∙ ap (λ (l : List Float). take (n - suc u) l) (drop-drop (suc u) (u * m) table)))

-- ---- the weights of a row
weights_on : (a a' : Float) (row : List Float) (v : ℕ) → v < length row → a' ≡ cond (lt zero64 (get_or row v nan)) (add64 a (get_or row v nan)) a → add_weights a' (drop (v + 1) row) ≡ add_weights a (drop v row)
unfolding add_weights
weights_on a a' row v h e = rw (e, add-one v, drop-cons row v nan h)

-- What is left to add, added to the sum so far, is z: past a link, past another weight, and at the end.
pub weights_yes : (a : Float) (row : List Float) (v : ℕ) {z : Float} → add_weights a (drop v row) ≡ z → v < length row → lt zero64 (get_or row v nan) ≡ true → add_weights (add64 a (get_or row v nan)) (drop (v + 1) row) ≡ z
weights_yes a row v e h t = weights_on a _ row v h (rw t) ∙ e

pub weights_no : (a : Float) (row : List Float) (v : ℕ) {z : Float} → add_weights a (drop v row) ≡ z → v < length row → lt zero64 (get_or row v nan) ≡ false → add_weights a (drop (v + 1) row) ≡ z
weights_no a row v e h t = weights_on a _ row v h (rw t) ∙ e

pub weights_end : (start a : Float) (row : List Float) (v : ℕ) → add_weights a (drop v row) ≡ add_weights start row → length row ≤ v → a ≡ add_weights start row
unfolding add_weights
weights_end start a row v e h = rw (drop_of_length-le row {i = v} h) at e

-- ---- the strengths
module _ (t : List Float) (m n : ℕ) where
  length_from : (u k : ℕ) → length (strengths_from t m n u k) ≡ k
  unfolding strengths_from
  length_from u zero = refl
  length_from u (suc k) = ap suc (length_from (suc u) k)

  get_or_from : (u k j : ℕ) → j < k → get_or (strengths_from t m n u k) j nan ≡ add_weights zero64 (row_at t m n (u + j))
  unfolding strengths_from
  get_or_from u zero j h = absurd (omega arith)
  get_or_from u (suc k) zero h = rw add-zero
  get_or_from u (suc k) (suc j) h =
      let e : u + suc j ≡ suc u + j = omega arith in
      rw e (get_or_from (suc u) k j (omega arith))

  pub is_strengths : (l : List Float) (u : ℕ) → length l ≡ n → ((k : ℕ) → k < u → get_or l k nan ≡ add_weights zero64 (row_at t m n k)) → n ≤ u → l ≡ strengths_of t m n
  is_strengths l u e f r =
      ext_get_or nan l (strengths_of t m n) (e ∙ sym (length_from 0 n))
      (λ k h. let i : k < n = omega arith in let z : 0 + k ≡ k = omega arith in f k (omega arith) ∙ sym (rw z at (get_or_from 0 n k i)))

  pub length_strengths : length (strengths_of t m n) ≡ n
  length_strengths = length_from 0 n

  -- ---- the total weight
  pub total_on : (a a' : Float) (u : ℕ) → total_from t m n a u (n - u) ≡ total_weight t m n → u < n → a' ≡ add_weights a (take (u * m + n - (u * m + u + 1)) (drop (u * m + u + 1) t))
      → total_from t m n a' (u + 1) (n - (u + 1)) ≡ total_weight t m n
  unfolding total_from
  total_on a a' u f h e =
      let o : n - u ≡ suc (n - (u + 1)) = omega arith in
      rw (e, row_above t m n u h, add-one u) (rw (o, add-one u) at f)

  pub total_end : (a : Float) (u : ℕ) → total_from t m n a u (n - u) ≡ total_weight t m n → n ≤ u → a ≡ total_weight t m n
  unfolding total_from
  total_end a u f h =
      let o : n - u ≡ 0 = omega arith in
      rw o at f

  -- ---- the network, from the strengths in the first n places of an array
  pub network_is : (s rest : List Float) {w : Float} → n ≤ 512 → length s ≡ length (take n (replicate 512 zero64)) → s ≡ strengths_of t m n → w ≡ total_weight t m n
      → ◌≡◌ {A = Network} (record { table = t; stride = m; strength = take n (s ++ rest); d = mul64 two64 w }) (network t m n)
  unfolding network
  network_is s rest f l e q = rw (take_at s rest n (l ∙ length-take-le n (replicate 512 zero64) (omega arith)), q) (rw (← e))

  pub length_network : length (network t m n).strength ≡ n
  unfolding network
  length_network = length_strengths
