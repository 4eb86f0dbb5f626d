-- What the sheet says where its check accepts: its length, its pages, and each line read back. So no two lists of labels give one sheet.
use mathlib.Core.Path.{◌≡◌, refl, sym, ap, ◌∙◌, subst}
use mathlib.Core.Bool.{Bool, true, false}
use mathlib.Core.List.{List, []}
use mathlib.Core.Option.{none, some, bind}
use Prim.Native.Nat.{ℕ, ◌+◌, ◌-◌, ◌*◌, ◌/◌, ◌%◌, ◌<◌}
use native.Mathlib.Omega.{arith}
use borrow.Author.Tests.{eqb-true, eqb-false}
use lib.Dec.{eqb}
use lib.IntN.{ℤ, pos}
use lib.ListN.{length, get_or}
use lib.Seq.{ext_get_or}
use Rattle.std.specs.Prelude.{Ok}
use Rattle.trace.proofs.Parts.{offset_within}
use Rattle.text.specs.Bytes.{line_feed, is_digit}
use Rattle.text.specs.Fields.{field_of, digits_of, all_digits}
use Rattle.posting.specs.Sheet.{Entry, entry, entry_line, entries, heading, per_page, page_count, sheet}
use Rattle.posting.specs.Posted.{check_sheet}
use Rattle.posting.specs.Meaning.{Laid, line_at, line_of, fix_number, read_entry, number_in, without_spaces}
use Rattle.posting.specs.Steps.{SheetWithin, lines_from}
use Rattle.posting.proofs.Pages.{sheet_lines}
use Rattle.posting.proofs.Checked.{sheet_within}
use Rattle.posting.proofs.EntryPlaces.{FixAt, fix_at, entries_length, entry_at, entry_within}
use Rattle.posting.proofs.EntryLines.{entry_reads}
use Rattle.posting.proofs.LinePlaces.{flat_line, flat_feed, heading_at, line_of_lem}
use Rattle.posting.proofs.Sizes.{all_lines, line_count, sheet_long}

module _ (lens : List ℕ) (labels : List ℤ) (w : SheetWithin lens labels) where
  -- A line of the sheet is one of the lines of the fixes.
  line_at_lem : (k : ℕ) → k < length labels + page_count (length labels) → line_at k (sheet lens labels) ≡ get_or (lines_from 0 (entries 0 lens labels)) k []
  line_at_lem k h = rw (sheet_lines lens labels) (flat_line (lines_from 0 (entries 0 lens labels)) k (all_lines lens labels w) (omega (arith, line_count lens labels w)))

  feed_at : (k : ℕ) → k < length labels + page_count (length labels) → get_or (sheet lens labels) (14 * k + 13) 0 ≡ line_feed
  feed_at k h = rw (sheet_lines lens labels) (flat_feed (lines_from 0 (entries 0 lens labels)) k (all_lines lens labels w) (omega (arith, line_count lens labels w)))

  page_heading : (p : ℕ) → p < page_count (length labels) → line_at ((1 + per_page) * p) (sheet lens labels) ≡ heading
  unfolding page_count
  page_heading p h =
      line_at_lem ((1 + per_page) * p) (omega arith)
      ∙ heading_at (entries 0 lens labels) (per_page * p) (entry 0 0 (pos 0)) (omega (arith, entries_length 0 lens labels w.sum)) p refl

  fix_line_lem : (t f : ℕ) → t < length lens → f < get_or lens t 0
      → read_entry (line_at (line_of (fix_number lens t f)) (sheet lens labels)) ≡ some (entry t f (get_or labels (fix_number lens t f) (pos 0)))
  unfolding page_count
  fix_line_lem t f h k =
      let i = fix_number lens t f in
      let es = entries 0 lens labels in
      let none = entry 0 0 (pos 0) in
      let o = offset_within lens t h in
      let n = entries_length 0 lens labels w.sum in
      ap read_entry (line_at_lem (line_of i) (omega arith) ∙ line_of_lem es i none (omega arith) ∙ ap entry_line (entry_at lens labels t f none w.sum h k))
      ∙ entry_reads t f (get_or labels i (pos 0)) (entry_within lens labels t f w h k)

pub laid : (lens : List ℕ) (labels : List ℤ) (room : ℕ) → check_sheet lens labels room ≡ Ok tt → Laid lens labels
laid lens labels room h =
    let w = sheet_within lens labels room h in
    record { long = sheet_long lens labels w; feeds = feed_at lens labels w; headings = page_heading lens labels w; lines = fix_line_lem lens labels w }

-- The line of fix k.
module _ (lens : List ℕ) (labels : List ℤ) (room : ℕ) (h : check_sheet lens labels room ≡ Ok tt) where
  fix_reads : (k : ℕ) (x : FixAt lens k) → read_entry (line_at (line_of k) (sheet lens labels)) ≡ some (entry x.trace x.fix (get_or labels k (pos 0)))
  fix_reads k x =
      subst (λ (i : ℕ). read_entry (line_at (line_of i) (sheet lens labels)) ≡ some (entry x.trace x.fix (get_or labels i (pos 0)))) x.here
      ((laid lens labels room h).lines x.trace x.fix x.there x.inside)

-- The labels can be read off the sheet.
pub sheet_tells : (lens : List ℕ) (a b : List ℤ) (m n : ℕ) → check_sheet lens a m ≡ Ok tt → check_sheet lens b n ≡ Ok tt → sheet lens a ≡ sheet lens b → a ≡ b
sheet_tells lens a b m n p q e =
    let v = sheet_within lens a m p in
    let w = sheet_within lens b n q in
    ext_get_or (pos 0) a b (sym v.sum ∙ w.sum) (λ k h. same k (fix_at lens k (omega arith)))
  where
    same : (k : ℕ) → FixAt lens k → get_or a k (pos 0) ≡ get_or b k (pos 0)
    same k x =
        let y = fix_reads lens a m p k x in
        let z = fix_reads lens b n q k x in
        let one : entry x.trace x.fix (get_or a k (pos 0)) ≡ entry x.trace x.fix (get_or b k (pos 0)) = cc in
        ap (λ (r : Entry). r.label) one

-- ---- an empty trace has no line

-- A heading is no line of a fix.
heading_none : read_entry heading ≡ none
unfolding read_entry number_in without_spaces heading bind field_of digits_of all_digits is_digit
heading_none = refl

module _ (lens : List ℕ) (labels : List ℤ) (room : ℕ) (h : check_sheet lens labels room ≡ Ok tt) (e : Entry) where
  -- The line of a fix is of a trace that has fixes.
  fix_walked : (k : ℕ) → k < length labels → read_entry (line_at (line_of k) (sheet lens labels)) ≡ some e → 0 < get_or lens e.trace 0
  fix_walked k below r =
      let x = fix_at lens k (omega (arith, (sheet_within lens labels room h).sum)) in
      let read = fix_reads lens labels room h k x in
      let same : entry x.trace x.fix (get_or labels k (pos 0)) ≡ e = cc in
      subst (λ (s : Entry). 0 < get_or lens s.trace 0) same (omega (arith, x.inside))

  -- So is every line that reads back to one.
  pub line_walked : (n : ℕ) → n < length labels + page_count (length labels) → read_entry (line_at n (sheet lens labels)) ≡ some e → 0 < get_or lens e.trace 0
  unfolding page_count
  line_walked n below r = go (eqb (n % (1 + per_page)) 0) refl
    where
      p : ℕ
      p = n / (1 + per_page)

      go : (b : Bool) → eqb (n % (1 + per_page)) 0 ≡ b → 0 < get_or lens e.trace 0
      go true z =
          let first : (1 + per_page) * p ≡ n = omega (arith, eqb-true (n % (1 + per_page)) 0 z) in
          let head : line_at n (sheet lens labels) ≡ heading = subst (λ (i : ℕ). line_at i (sheet lens labels) ≡ heading) first ((laid lens labels room h).headings p (omega arith)) in
          let none_some : none ≡ some e = sym heading_none ∙ ap read_entry (sym head) ∙ r in
          absurd cc
      go false z =
          let behind = eqb-false (n % (1 + per_page)) 0 z in
          let k : ℕ = per_page * p + (n % (1 + per_page) - 1) in
          let here : line_of k ≡ n = omega (arith, behind) in
          fix_walked k (omega (arith, behind)) (subst (λ (i : ℕ). read_entry (line_at i (sheet lens labels)) ≡ some e) (sym here) r)

-- The lines stand in the order of the fixes.
pub lines_rise : (i j : ℕ) → i < j → line_of i < line_of j
lines_rise i j h = omega arith
