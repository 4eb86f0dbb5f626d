-- Cells of a table in one list, row after row.
use mathlib.Core.Path.{◌≡◌, ap, ◌∙◌}
use mathlib.Core.List.{List}
use Prim.Native.Nat.{ℕ, suc, ◌+◌, ◌*◌, ◌<◌, ◌≤◌}
use native.Mathlib.Nat.{mul-le-mul_right, suc-mul, zero-mul}
use native.Mathlib.Decide.{ℕ_discrete, dec_lt}
use native.Mathlib.Numerals.{add-one}
use native.Mathlib.Omega.{arith}
use lib.ListN.{length, get_or, set}
use lib.Seq.{get_or-set_same, get_or-set_other}
use lib.Ieee.{Float, nan}
use Rattle.neighbors.specs.Places.{Place}
use Rattle.neighbors.specs.StepsTables.{Tabled, Square}

-- A row lies before the next.
pub row_before : (n a i : ℕ) → a < i → a * n + n ≤ i * n
row_before n a i h = let r : suc a * n ≤ i * n = mul-le-mul_right n h in omega (arith, suc-mul a n)

pub in_table : (n a b : ℕ) → a < n → b < n → a * n + b < n * n
in_table n a b h k = omega (arith, row_before n a n h)

cell_row : (n a b i j : ℕ) → b < n → j < n → a * n + b ≡ i * n + j → a ≡ i
cell_row n a b i j h k e = go (dec_lt a i) (dec_lt i a)
  where
    go : Dec (a < i) → Dec (i < a) → a ≡ i
    go (yes l) r = absurd (omega (arith, row_before n a i l))
    go (no l) (yes r) = absurd (omega (arith, row_before n i a r))
    go (no l) (no r) = omega arith

cell_column : (n a b i j : ℕ) → a * n + b ≡ i * n + j → a ≡ i → b ≡ j
cell_column n a b i j e p = let q : a * n ≡ i * n = ap (λ (z : ℕ). z * n) p in omega arith

pub tabled_at : (f : ℕ → ℕ → Float) (n : ℕ) (t : List Float) (k a b : ℕ) → Tabled f n t k → a < n → b < n → a * n + b < k → get_or t (a * n + b) nan ≡ f a b
unfolding Tabled
tabled_at f n t k a b h = h a b

pub tabled_none : (f : ℕ → ℕ → Float) (n : ℕ) (t : List Float) → Tabled f n t (0 * n)
unfolding Tabled
tabled_none f n t a b p q h = absurd (omega (arith, zero-mul n))

-- One cell more.
pub tabled_on : (f : ℕ → ℕ → Float) (n : ℕ) (t : List Float) (i j : ℕ) {v : Float} → Tabled f n t (i * n + j) → j < n → i * n + j < length t
    → v ≡ f i j → Tabled f n (set t (i * n + j) v) (i * n + (j + 1))
unfolding Tabled
tabled_on f n t i j {v} h q l e a b x y k = go (ℕ_discrete (a * n + b) (i * n + j))
  where
    go : Dec (a * n + b ≡ i * n + j) → get_or (set t (i * n + j) v) (a * n + b) nan ≡ f a b
    go (yes s) =
        let r : a ≡ i = cell_row n a b i j y q s in
        let c : b ≡ j = cell_column n a b i j s r in
        ap (λ (z : ℕ). get_or (set t (i * n + j) v) z nan) s ∙ get_or-set_same t (i * n + j) v nan l ∙ e ∙ rw (r, c)
    go (no s) = get_or-set_other t (i * n + j) (a * n + b) v nan s ∙ h a b x y (omega arith)

-- A whole row.
pub tabled_row : (f : ℕ → ℕ → Float) (n : ℕ) (t : List Float) (i j : ℕ) → Tabled f n t (i * n + j) → n ≤ j → Tabled f n t ((i + 1) * n)
unfolding Tabled
tabled_row f n t i j h k a b x y l = h a b x y (omega (arith, rw (add-one i, suc-mul i n) at l))

pub tabled_end : (f : ℕ → ℕ → Float) (n : ℕ) (t : List Float) (i : ℕ) → Tabled f n t (i * n) → n ≤ i → Tabled f n t (n * n)
unfolding Tabled
tabled_end f n t i h k a b x y l = h a b x y (omega (arith, mul-le-mul_right n k))

pub tabled_less : (f : ℕ → ℕ → Float) (n : ℕ) (t : List Float) (k m : ℕ) → Tabled f n t k → m ≤ k → Tabled f n t m
unfolding Tabled
tabled_less f n t k m h l a b x y q = h a b x y (omega arith)

-- A table of another content and the same length.
pub square_as : {ps : List Place} {t s : List Float} → Square ps t → length s ≡ length t → Square ps s
square_as q e = record { cells = e ∙ q.cells; few = q.few }
