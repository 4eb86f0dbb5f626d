-- The records taken apart: what all steps come to, and what the slices then hold.
use mathlib.Core.Path.{◌≡◌, sym, ap, ap₂, ◌∙◌, subst}
use mathlib.Core.List.{List, ◌++◌, map}
use Prim.Native.Nat.{ℕ, ◌+◌, ◌*◌, ◌<◌, ◌≤◌}
use native.Mathlib.Nat.{zero-add}
use native.Mathlib.Omega.{arith}
use lib.ListN.{length, get_or, take, drop, length-append, length-drop, length-map}
use lib.Seq.{ext_get_or, get_or-take, get_or-drop, length-take-le, take-add, drop-drop, take_at, take_all, drop_at}
use lib.Ieee.{Float, nan}
use Rattle.lists.proofs.Maps.{get_or_map}
use Rattle.lists.specs.Lists.{overlay}
use Rattle.lists.proofs.Overlay.{take_overlay, length_overlay, overlay_front}
use Rattle.trace.specs.Trace.{read_time}
use Rattle.lists.proofs.Parts.{take_drop_take}
use Rattle.records.specs.declared.FixRecord.{FixRecord}
use Rattle.records.specs.Records.{xs_of, ys_of, times_of, marks_of}
use Rattle.records.specs.Steps.{no_record}

-- What stands in the column of times.
abbrev time_in : FixRecord → Float
time_in f = read_time f.mark f.time

-- The three columns in one row.
abbrev pub in_row : List FixRecord → List Float
in_row fs = xs_of fs ++ (ys_of fs ++ times_of fs)

row_length : (fs : List FixRecord) → length (in_row fs) ≡ 3 * length fs
row_length fs = simp (length-append, length-map) (omega arith)

-- A part of a list that has at each place what f makes of the record there.
module _ {A : Type 0} (d : A) (fs : List FixRecord) (f : FixRecord → A) (l : List A) (p : ℕ) (room : p + length fs ≤ length l)
    (each : (k : ℕ) → k < length fs → get_or l (p + k) d ≡ f (get_or fs k no_record)) where
  size : length (take (length fs) (drop p l)) ≡ length fs
  size = let i = length-drop p l in length-take-le (length fs) (drop p l) (omega arith)

  pub part_is : take (length fs) (drop p l) ≡ map f fs
  part_is =
      ext_get_or d (take (length fs) (drop p l)) (map f fs) (size ∙ sym (length-map fs f)) (λ i h. let g : i < length fs = omega (arith, size, h) in
      get_or-take (length fs) (drop p l) i d g ∙ get_or-drop p l i d ∙ each i g ∙ sym (get_or_map f fs i no_record d g))

-- ---- the columns after the first j records of n
pub record Filled (n j : ℕ) (fs : List FixRecord) (old l : List Float) : Type 0 where
  pub xs : (k : ℕ) → k < j → get_or l k nan ≡ (get_or fs k no_record).at.x
  pub ys : (k : ℕ) → k < j → get_or l (n + k) nan ≡ (get_or fs k no_record).at.y
  pub times : (k : ℕ) → k < j → get_or l (2 * n + k) nan ≡ time_in (get_or fs k no_record)
  pub rest : drop (3 * n) l ≡ drop (3 * n) old

-- ---- all records: the columns
module _ (fs : List FixRecord) (l end : List Float) (same : length end ≡ length l) (enough : 3 * length fs ≤ length l) (all : Filled (length fs) (length fs) fs l end) where
  abbrev n : ℕ
  n = length fs

  three : 3 * n ≡ n + (n + n)
  three = omega arith

  double : n + n ≡ 2 * n
  double = omega arith

  in_front : take (3 * n) end ≡ in_row fs
  in_front =
      ap (λ (k : ℕ). take k end) three
      ∙ take-add n (n + n) end
      ∙ ap₂ (λ (a b : List Float). a ++ b) (part_is nan fs (λ f. f.at.x) end 0 (omega arith) (λ k h. ap (λ (p : ℕ). get_or end p nan)
      (zero-add k) ∙ all.xs k h))
      (take-add n n (drop n end)
      ∙ ap₂ (λ (a b : List Float). a ++ b) (part_is nan fs (λ f. f.at.y) end n (omega arith) all.ys)
      (ap (take n) (drop-drop n n end ∙ ap (λ (k : ℕ). drop k end) double) ∙ part_is nan fs time_in end (2 * n) (omega arith) all.times))

  pub columns_taken : end ≡ overlay (in_row fs) l
  columns_taken = overlay_front (3 * n) l end (omega arith) all.rest ∙ ap (λ (z : List Float). overlay z l) in_front

-- ---- the marks after the first j records
pub record Marked (j : ℕ) (fs : List FixRecord) (old m : List ℕ) : Type 0 where
  pub front : (k : ℕ) → k < j → get_or m k 0 ≡ (get_or fs k no_record).mark
  pub rest : drop (length fs) m ≡ drop (length fs) old

module _ (fs : List FixRecord) (old m : List ℕ) (enough : length fs ≤ length m) where
  pub marks_taken : Marked (length fs) fs old m → m ≡ overlay (marks_of fs) old
  marks_taken a =
      overlay_front (length fs) old m enough a.rest
      ∙ ap (λ (z : List ℕ). overlay z old) (part_is 0 fs (λ f. f.mark) m 0 (omega arith) (λ k h. ap (λ (p : ℕ). get_or m p 0) (zero-add k) ∙ a.front k h))

-- ---- the lengths
pub columns_length : (fs : List FixRecord) (l : List Float) → 3 * length fs ≤ length l → length (overlay (in_row fs) l) ≡ length l
columns_length fs l h = length_overlay (in_row fs) l (omega (arith, row_length fs))

pub marks_length : (fs : List FixRecord) (l : List ℕ) → length fs ≤ length l → length (overlay (marks_of fs) l) ≡ length l
marks_length fs l h = length_overlay (marks_of fs) l (omega (arith, length-map fs (λ (f : FixRecord). f.mark)))

-- ---- what the slices hold
pub columns_held : (fs : List FixRecord) (columns : List Float) → take (3 * length fs) (overlay (in_row fs) columns) ≡ in_row fs
columns_held fs columns = ap (λ (k : ℕ). take k (overlay (in_row fs) columns)) (sym (row_length fs)) ∙ take_overlay (in_row fs) columns

pub marks_held : (fs : List FixRecord) (marks : List ℕ) → take (length fs) (overlay (marks_of fs) marks) ≡ marks_of fs
marks_held fs marks = ap (λ (k : ℕ). take k (overlay (marks_of fs) marks)) (sym (length-map fs (λ (f : FixRecord). f.mark))) ∙ take_overlay (marks_of fs) marks

-- The three parts of such columns.
module _ (fs : List FixRecord) (columns : List Float) (enough : 3 * length fs ≤ length columns) (h : take (3 * length fs) columns ≡ in_row fs) where
  part : (p : ℕ) → p + length fs ≤ 3 * length fs → take (length fs) (drop p columns) ≡ take (length fs) (drop p (in_row fs))
  part p q = sym (take_drop_take p (length fs) (3 * length fs) columns q enough) ∙ ap (λ (z : List Float). take (length fs) (drop p z)) h

  pub xs_held : take (length fs) columns ≡ xs_of fs
  xs_held = part 0 (omega arith) ∙ take_at (xs_of fs) (ys_of fs ++ times_of fs) (length fs) (length-map fs _)

  pub ys_held : take (length fs) (drop (length fs) columns) ≡ ys_of fs
  ys_held =
      part (length fs) (omega arith) ∙ ap (take (length fs)) (drop_at (xs_of fs) (ys_of fs ++ times_of fs) (length fs) (length-map fs _))
      ∙ take_at (ys_of fs) (times_of fs) (length fs) (length-map fs _)

  pub times_held : take (length fs) (drop (2 * length fs) columns) ≡ times_of fs
  times_held =
      part (2 * length fs) (omega arith)
      ∙ ap (take (length fs)) (ap (λ (k : ℕ). drop k (in_row fs)) twice ∙ sym (drop-drop (length fs) (length fs) (in_row fs))
      ∙ ap (drop (length fs)) (drop_at (xs_of fs) (ys_of fs ++ times_of fs) (length fs) (length-map fs _))
      ∙ drop_at (ys_of fs) (times_of fs) (length fs) (length-map fs _))
      ∙ take_all (length fs) (times_of fs) (omega (arith, length-map fs time_in))
    where
      twice : 2 * length fs ≡ length fs + length fs
      twice = omega arith

-- ---- after the last record

pub columns_end : (i : ℕ) (fs : List FixRecord) (l end : List Float) → length end ≡ length l → 3 * length fs ≤ length l → length fs ≤ i → i ≤ length fs → Filled (length fs) i fs l end
    → end ≡ overlay (xs_of fs ++ (ys_of fs ++ times_of fs)) l
columns_end i fs l end same enough h g a = columns_taken fs l end same enough (subst (λ (j : ℕ). Filled (length fs) j fs l end) (omega arith) a)

pub marks_end : (i : ℕ) (fs : List FixRecord) (old m : List ℕ) → length fs ≤ length m → length fs ≤ i → i ≤ length fs → Marked i fs old m → m ≡ overlay (marks_of fs) old
marks_end i fs old m enough h g a = marks_taken fs old m enough (subst (λ (j : ℕ). Marked j fs old m) (omega arith) a)
