-- How the search for nodes goes on and ends.
use mathlib.Core.Path.{◌≡◌, refl, ap, ◌∙◌}
use mathlib.Core.Bool.{Bool, true, false, ◌||◌}
use mathlib.Core.List.{List, [], ◌∷◌, ◌++◌, append_assoc, append-nil}
use Prim.Native.Nat.{ℕ, zero, suc, ◌+◌, ◌-◌, ◌*◌, ◌<◌, ◌≤◌}
use native.Mathlib.Nat.{sub-zero, mul-le-mul_right}
use native.Mathlib.Numerals.{add-one}
use native.Mathlib.Omega.{arith}
use lib.ListN.{length, get_or, take, drop, set, length-append}
use lib.Seq.{drop-cons}
use lib.Ieee.{Float, nan, lt}
use Rattle.std.specs.List.{list_any}
use Rattle.float.specs.Binary64.{zero64}
use Rattle.neighbors.specs.StepsTables.{has_weight}
use Rattle.lists.specs.Lists.{from, upto, any_of, select, overlay}
use Rattle.lists.proofs.Overlay.{overlay_set}

-- ---- some item of a row

any_from : (f : Float → Bool) (t : List Float) (a k j : ℕ) → a + j + k ≤ length t → list_any f (take k (drop (a + j) t)) ≡ any_of (λ i. f (get_or t (a + i) nan)) (from j k)
unfolding any_of from
any_from f t a zero j h = refl
any_from f t a (suc k) j h =
    let e : a + suc j ≡ suc (a + j) = omega arith in
    rw (drop-cons t (a + j) nan (omega arith)) (ap (λ (b : Bool). f (get_or t (a + j) nan) || b) (rw e at (any_from f t a k (suc j) (omega arith))))

-- Whether some item of row i of a table of n columns is above 0.
pub weight_in_row : (t : List Float) (n i : ℕ) → i < n → n * n ≤ length t → list_any (lt zero64) (take (i * n + n - i * n) (drop (i * n) t)) ≡ has_weight n t i
unfolding has_weight upto
weight_in_row t n i h k =
    let p : suc i ≤ n = omega arith in
    let m = mul-le-mul_right n p in
    let e : i * n + n - i * n ≡ n = omega arith in
    let z : i * n + 0 ≡ i * n = omega arith in
    rw e (rw z at (any_from (lt zero64) t (i * n) n 0 (omega (arith, m, k))))

left_over : (n j : ℕ) → j < n → n - j ≡ suc (n - (j + 1))
left_over n j h = omega arith

-- ---- the numbers below n: of those below i, the found ones stand in front of l, and behind them what l₀ holds

pub record Selected (f : ℕ → Bool) (n : ℕ) (l₀ l : List ℕ) (k i : ℕ) : Type 0 where
  pub found : List ℕ
  pub all : select f (upto n) ≡ found ++ select f (from i (n - i))
  pub laid : l ≡ overlay found l₀
  pub many : k ≡ length found
  pub few : k ≤ i

pub select_start : (f : ℕ → Bool) (n : ℕ) (l : List ℕ) → Selected f n l l 0 0
unfolding upto overlay
select_start f n l = record { found = []; all = rw sub-zero; laid = refl; many = refl; few = omega arith }

module _ (f : ℕ → Bool) (n : ℕ) (l₀ l : List ℕ) (k i : ℕ) (s : Selected f n l₀ l k i) (h : i < n) where
  pub select_on : n ≤ length l₀ → f i ≡ true → Selected f n l₀ (set l k i) (k + 1) (i + 1)
  unfolding select from
  select_on p e = record {
    found = s.found ++ (i ∷ []);
    all = s.all ∙ rw (left_over n i h, e, add-one i, append_assoc);
    laid = rw (s.laid, s.many) (overlay_set s.found l₀ i (omega (arith, s.many, s.few)));
    many = omega (arith, s.many, length-append s.found (i ∷ []));
    few = omega (arith, s.few);
  }

  pub select_past : f i ≡ false → Selected f n l₀ l k (i + 1)
  unfolding select from
  select_past e = record { found = s.found; all = s.all ∙ rw (left_over n i h, e, add-one i); laid = s.laid; many = s.many; few = omega (arith, s.few) }

-- past the last there is nothing more to find
pub select_end : (f : ℕ → Bool) (n i : ℕ) (found : List ℕ) → n ≤ i → found ++ select f (from i (n - i)) ≡ found
unfolding select from
select_end f n i found h = let z : n - i ≡ 0 = omega arith in rw (z, append-nil)

pub ruleset select_steps = (select_start, select_on, select_past)
