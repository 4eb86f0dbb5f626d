-- The nodes' table as one list.
use mathlib.Core.Path.{◌≡◌, sym, ap, ◌∙◌, subst}
use mathlib.Core.List.{List, [], ◌∷◌, ◌++◌, map}
use Prim.Native.Nat.{ℕ, zero, suc, ◌+◌, ◌*◌, ◌/◌, ◌%◌, ◌<◌, ◌≤◌}
use native.Mathlib.Nat.{suc-mul, mod-lt, div-add-mod', mul-le-mul_right}
use native.Mathlib.Decide.{dec_lt}
use native.Mathlib.Omega.{arith}
use lib.ListN.{length, get_or, take, length-map, length-append, get_or-append}
use lib.Seq.{ext_get_or, get_or-append-add, get_or-take, length-take-le}
use lib.Ieee.{Float, nan}
use Rattle.lists.proofs.Maps.{get_or_map}
use Rattle.neighbors.specs.Tables.{rows_of, table_of}
use Rattle.neighbors.specs.StepsTables.{Tabled, RowNumbers, Compacted}
use Rattle.neighbors.proofs.Cells.{in_table, tabled_at}

module _ (f : ℕ → ℕ → Float) (ns : List ℕ) where
  length_rows : (is : List ℕ) → length (rows_of f ns is) ≡ length is * length ns
  unfolding rows_of
  length_rows [] = omega arith
  length_rows (i ∷ is) = simp (length-append, length-map) (omega (arith, length_rows is, suc-mul (length is) (length ns)))

  pub length_table : length (table_of f ns) ≡ length ns * length ns
  unfolding table_of
  length_table = length_rows ns

  cell_rows : (is : List ℕ) (u v : ℕ) → u < length is → v < length ns → get_or (rows_of f ns is) (u * length ns + v) nan ≡ f (get_or is u 0) (get_or ns v 0)
  unfolding rows_of
  cell_rows [] u v h l = absurd (omega arith)
  cell_rows (i ∷ is) zero v h l =
      ap (λ (z : ℕ). get_or (map (f i) ns ++ rows_of f ns is) z nan) (let e : 0 * length ns + v ≡ v = omega arith in e)
      ∙ get_or-append (map (f i) ns) (rows_of f ns is) nan v (subst (λ (z : ℕ). v < z) (sym (length-map ns (f i))) l) ∙ get_or_map (f i) ns v 0 nan l
  cell_rows (i ∷ is) (suc u) v h l =
      ap (λ (z : ℕ). get_or (map (f i) ns ++ rows_of f ns is) z nan) (let m = length-map ns (f i) in let e : suc u * length ns + v ≡ length
      (map (f i) ns) + (u * length ns + v) = omega (arith, suc-mul u (length ns)) in e)
      ∙ get_or-append-add (map (f i) ns) (rows_of f ns is) (u * length ns + v) nan ∙ cell_rows is u v (omega arith) l

  pub cell_table : (u v : ℕ) → u < length ns → v < length ns → get_or (table_of f ns) (u * length ns + v) nan ≡ f (get_or ns u 0) (get_or ns v 0)
  unfolding table_of
  cell_table u v h l = cell_rows ns u v h l

-- A table of n rows and columns is what its cells are.
pub is_table : (f : ℕ → ℕ → Float) (ns : List ℕ) (s : List Float) → length s ≡ length ns * length ns
    → Tabled (λ u v. f (get_or ns u 0) (get_or ns v 0)) (length ns) s (length ns * length ns) → s ≡ table_of f ns
is_table f ns s l t = ext_get_or nan s (table_of f ns) (l ∙ sym (length_table f ns)) (λ i h. at i (subst (λ (z : ℕ). i < z) l h) (dec_lt 0 (length ns)))
  where
    at : (i : ℕ) → i < length ns * length ns → Dec (0 < length ns) → get_or s i nan ≡ get_or (table_of f ns) i nan
    at i h (yes p) =
        let u = i / length ns in
        let v = i % length ns in
        let e : u * length ns + v ≡ i = div-add-mod' i (length ns) in
        let vl : v < length ns = mod-lt i p in
        let ul : u < length ns = go (dec_lt u (length ns)) vl e in
        ap (λ (z : ℕ). get_or s z nan) (sym e) ∙ tabled_at (λ u v. f (get_or ns u 0) (get_or ns v 0)) (length ns) s (length ns * length ns) u v t ul vl
        (in_table (length ns) u v ul vl)
        ∙ sym (cell_table f ns u v ul vl) ∙ ap (λ (z : ℕ). get_or (table_of f ns) z nan) e
      where
        go : Dec (i / length ns < length ns) → i % length ns < length ns → i / length ns * length ns + i % length ns ≡ i → i / length ns < length ns
        go (yes q) a b = q
        go (no q) a b = absurd (let r : length ns * length ns ≤ i / length ns * length ns = mul-le-mul_right (length ns) (omega arith) in omega arith)
    at i h (no p) = absurd (let z : length ns ≡ 0 = omega arith in let q : i < 0 * 0 = rw z at h in omega arith)

-- What `compact` leaves in front is the nodes' table.
pub node_table : (f : ℕ → ℕ → Float) (n : ℕ) (ns : List ℕ) (t s : List Float) → RowNumbers n ns → Tabled f n t (n * n)
    → Compacted n ns t s (length ns * length ns) → length ns * length ns ≤ length s
    → take (length ns * length ns) s ≡ table_of f ns
unfolding Tabled
node_table f n ns t s r w c l =
    is_table f ns (take (length ns * length ns) s) (length-take-le (length ns * length ns) s l)
    (λ u v p q h.
    get_or-take (length ns * length ns) s (u * length ns + v) nan h ∙ c.moved u v p q h
    ∙ w (get_or ns u 0) (get_or ns v 0) (r.below u p) (r.below v q) (in_table n (get_or ns u 0) (get_or ns v 0) (r.below u p) (r.below v q)))
