-- A table made one of some of its rows and columns, in place.
use mathlib.Core.Path.{◌≡◌, refl, ◌∙◌}
use mathlib.Core.List.{List}
use Prim.Native.Nat.{ℕ, ◌+◌, ◌*◌, ◌<◌, ◌≤◌}
use native.Mathlib.Nat.{mul-le-mul, suc-mul}
use native.Mathlib.Numerals.{add-one}
use native.Mathlib.Omega.{arith}
use lib.ListN.{length, get_or, set}
use lib.Seq.{get_or-set_other}
use lib.Ieee.{Float, nan}
use Rattle.neighbors.specs.StepsTables.{RowNumbers, Compacted}
use Rattle.neighbors.proofs.Cells.{in_table, tabled_none, tabled_less, tabled_on}

module _ (n : ℕ) (ns : List ℕ) (r : RowNumbers n ns) where
  abbrev k : ℕ
  k = length ns

  -- A cell is not written before it is read.
  pub read_later : (u v : ℕ) → u < k → v < k → u * k + v ≤ get_or ns u 0 * n + get_or ns v 0
  read_later u v p q =
      let a : u * k ≤ get_or ns u 0 * n = mul-le-mul (r.above u p) r.few in
      let b = r.above v q in
      omega arith

  pub in_source : (u v : ℕ) → u < k → v < k → get_or ns u 0 * n + get_or ns v 0 < n * n
  in_source u v p q = in_table n (get_or ns u 0) (get_or ns v 0) (r.below u p) (r.below v q)

  pub in_target : (u v : ℕ) → u < k → v < k → u * k + v < n * n
  in_target u v p q = let a = read_later u v p q in let b = in_source u v p q in omega arith

  -- The cell that the code reads, and the one that it writes.
  module _ (u v : ℕ) (p : u < k) (q : v < k) where
    pub compact_on : (t s : List Float) → Compacted n ns t s (u * k + v) → n * n ≤ length s
        → Compacted n ns t (set s (u * k + v) (get_or s (get_or ns u 0 * n + get_or ns v 0) nan)) (u * k + (v + 1))
    compact_on t s c l =
        let w : Float = get_or s (get_or ns u 0 * n + get_or ns v 0) nan in
        record {
          moved = tabled_on _ k s u v c.moved q (let b = in_target u v p q in omega arith) (c.rest (get_or ns u 0 * n + get_or ns v 0) (read_later u v p q));
          rest = λ i h. get_or-set_other s (u * k + v) i w nan (λ e. omega arith) ∙ c.rest i (omega arith);
        }

pub compact_none : (n : ℕ) (ns : List ℕ) (t : List Float) → Compacted n ns t t (0 * length ns)
compact_none n ns t = record { moved = tabled_none _ (length ns) t; rest = λ i h. refl }

pub compact_less : (n : ℕ) (ns : List ℕ) (t s : List Float) (k m : ℕ) → Compacted n ns t s k → k ≡ m → Compacted n ns t s m
compact_less n ns t s k m c e = record { moved = tabled_less _ (length ns) s k m c.moved (omega arith); rest = λ i h. c.rest i (omega arith) }

pub compact_row : (n : ℕ) (ns : List ℕ) (t s : List Float) (u v : ℕ) → Compacted n ns t s (u * length ns + v) → v ≤ length ns → length ns ≤ v
    → Compacted n ns t s ((u + 1) * length ns)
compact_row n ns t s u v c h k = compact_less n ns t s (u * length ns + v) ((u + 1) * length ns) c (rw (add-one u, suc-mul u (length ns)) (omega arith))

pub compact_all : (n : ℕ) (ns : List ℕ) (t s : List Float) (u : ℕ) → Compacted n ns t s (u * length ns) → u ≤ length ns → length ns ≤ u
    → Compacted n ns t s (length ns * length ns)
compact_all n ns t s u c h k = compact_less n ns t s (u * length ns) (length ns * length ns) c (let e : u ≡ length ns = omega arith in rw e)
