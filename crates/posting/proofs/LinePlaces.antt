-- Where the lines of the sheet stand: in a text of lines of 14 bytes, and among the lines of the fixes.
use mathlib.Core.Path.{◌≡◌, refl, sym, ap, ap₂, ◌∙◌}
use mathlib.Core.Bool.{Bool, true, false, cond}
use mathlib.Core.List.{List, [], ◌∷◌, ◌++◌, flatten}
use Prim.Native.Nat.{ℕ, zero, suc, ◌+◌, ◌*◌, ◌/◌, ◌%◌, ◌<◌}
use native.Mathlib.Omega.{arith}
use borrow.Author.Tests.{eqb-true, eqb-false}
use lib.Dec.{eqb}
use lib.ListN.{length, get_or, take, drop, length-append, take-append-drop}
use lib.Seq.{take_at, drop-append-add, get_or-take, get_or-drop, get_or_at, get_or-append-add, drop-cons, length-take-le}
use Rattle.text.specs.Bytes.{line_feed}
use Rattle.lists.proofs.Items.{All, at_all}
use Rattle.posting.specs.Sheet.{Entry, entry_line, heading, per_page}
use Rattle.posting.specs.Meaning.{line_at, line_of}
use Rattle.posting.specs.Steps.{lines_at, lines_from}
use Rattle.posting.proofs.LinesFrom.{lines_append, heads_page, in_page}
use Rattle.posting.proofs.EntryPlaces.{Stands}
use Rattle.posting.proofs.EntryLines.{Line, heading_line, entry_line_lem}

-- ---- a text of lines

pub flat_long : (ls : List (List ℕ)) → All Line ls → length (flatten ls) ≡ 14 * length ls
unfolding flatten
flat_long [] a = refl
flat_long (l ∷ ls) a = rw (length-append l (flatten ls), a.0.long, flat_long ls a.1) (omega arith)

pub flat_line : (ls : List (List ℕ)) (k : ℕ) → All Line ls → k < length ls → line_at k (flatten ls) ≡ get_or ls k []
unfolding flatten
flat_line [] k a h = absurd (omega arith)
flat_line (l ∷ ls) zero a h = take_at l (flatten ls) 14 a.0.long
flat_line (l ∷ ls) (suc k) a h =
    let m = a.0.long in
    let e : 14 * suc k ≡ length l + 14 * k = omega arith in
    rw (e, drop-append-add l (flatten ls) (14 * k)) (flat_line ls k a.1 (omega arith))

pub flat_feed : (ls : List (List ℕ)) (k : ℕ) → All Line ls → k < length ls → get_or (flatten ls) (14 * k + 13) 0 ≡ line_feed
flat_feed ls k a h =
    sym (get_or-drop (14 * k) (flatten ls) 13 0) ∙ sym (get_or-take 14 (drop (14 * k) (flatten ls)) 13 0 (omega arith))
    ∙ ap (λ (s : List ℕ). get_or s 13 0) (flat_line ls k a h) ∙ (at_all Line ls [] a k h).feed

-- ---- the lines of fixes

pub lines_all : (i : ℕ) (es : List Entry) → All Stands es → All Line (lines_from i es)
unfolding lines_from lines_at
lines_all i [] a = tt
lines_all i (e ∷ es) a = go (eqb (i % per_page) 0) (lines_all (suc i) es a.1)
  where
    one : Line (entry_line e)
    one = entry_line_lem e.trace e.fix e.label a.0

    go : (b : Bool) → All Line (lines_from (suc i) es) → All Line (cond b (heading ∷ entry_line e ∷ []) (entry_line e ∷ []) ++ lines_from (suc i) es)
    go true r = (heading_line, (one, r))
    go false r = (one, r)

-- As many as the fixes, and the pages that begin.
pub lines_count : (i : ℕ) (es : List Entry) → length (lines_from i es) + (i + 59) / per_page ≡ length es + (i + length es + 59) / per_page
unfolding lines_from lines_at
lines_count i [] = omega arith
lines_count i (e ∷ es) = go (eqb (i % per_page) 0) refl (lines_count (suc i) es)
  where
    go : (b : Bool) → eqb (i % per_page) 0 ≡ b → length (lines_from (suc i) es) + (suc i + 59) / per_page ≡ length es + (suc i + length es + 59) / per_page
        → length (cond b (heading ∷ entry_line e ∷ []) (entry_line e ∷ []) ++ lines_from (suc i) es) + (i + 59) / per_page ≡ suc (length es) + (i + suc (length es) + 59) / per_page
    go true h r = let z = eqb-true (i % per_page) 0 h in omega arith
    go false h r = omega (arith, eqb-false (i % per_page) 0 h)

-- The lines before those of fix j, its own, and those behind.
module _ (es : List Entry) (j : ℕ) (d : Entry) (h : j < length es) where
  before : List (List ℕ)
  before = lines_from 0 (take j es)

  behind : List (List ℕ)
  behind = lines_from (suc j) (drop (suc j) es)

  before_count : length before ≡ j + (j + 59) / per_page
  unfolding before
  before_count = let m = length-take-le j es (omega arith) in omega (arith, lines_count 0 (take j es))

  parted : lines_from 0 es ≡ before ++ (lines_at j (get_or es j d) ++ behind)
  unfolding before behind lines_from
  parted =
      let z : 0 + length (take j es) ≡ j = omega (arith, length-take-le j es (omega arith)) in
      ap (lines_from 0) (sym (take-append-drop j es)) ∙ lines_append 0 (take j es) (drop j es)
      ∙ ap₂ (λ (i : ℕ) (l : List Entry). lines_from 0 (take j es) ++ lines_from i l) z (drop-cons es j d h)

  pub heading_at : (p : ℕ) → j ≡ per_page * p → get_or (lines_from 0 es) ((1 + per_page) * p) [] ≡ heading
  heading_at p e =
      let n = before_count in
      rw (parted, heads_page j (get_or es j d) (omega arith)) (get_or_at before heading (entry_line (get_or es j d) ∷ behind) [] ((1 + per_page) * p) (omega arith))

  pub line_of_lem : get_or (lines_from 0 es) (line_of j) [] ≡ entry_line (get_or es j d)
  line_of_lem = rw parted (go (eqb (j % per_page) 0) refl before_count)
    where
      go : (b : Bool) → eqb (j % per_page) 0 ≡ b → length before ≡ j + (j + 59) / per_page
          → get_or (before ++ (lines_at j (get_or es j d) ++ behind)) (line_of j) [] ≡ entry_line (get_or es j d)
      go true e n =
          let z = eqb-true (j % per_page) 0 e in
          let k : line_of j ≡ length before + 1 = omega arith in
          rw (heads_page j (get_or es j d) z, k) (get_or-append-add before (heading ∷ entry_line (get_or es j d) ∷ behind) 1 [])
      go false e n =
          let z = eqb-false (j % per_page) 0 e in
          rw (in_page j (get_or es j d) z) (get_or_at before (entry_line (get_or es j d)) behind [] (line_of j) (omega arith))
