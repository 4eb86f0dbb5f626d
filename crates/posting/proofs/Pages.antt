-- The sheet by pages is the sheet fix by fix: page k has the lines of the fixes from 60 × k on, below a heading.
use mathlib.Core.Path.{◌≡◌, refl, sym, ap, ap₂, ◌∙◌}
use mathlib.Core.List.{List, [], ◌∷◌, ◌++◌, map, flatten}
use Prim.Native.Nat.{ℕ, zero, suc, ◌+◌, ◌-◌, ◌*◌, ◌%◌, ◌≤◌, ◌<◌}
use native.Mathlib.Omega.{arith}
use lib.IntN.{ℤ}
use lib.ListN.{length, take, drop, length-take, length-drop, take-append-drop}
use lib.Seq.{drop-drop}
use Rattle.lists.specs.Lists.{from, upto}
use Rattle.posting.specs.Sheet.{Entry, entry_line, heading, page, per_page, page_count, pages, entries, sheet}
use Rattle.posting.specs.Steps.{lines_from}
use Rattle.posting.proofs.LinesFrom.{flatten_append, lines_append, heads_page, in_page}

-- Fixes of which none is the first of a page, r fixes of their page being before them.
no_heading : (i r : ℕ) (es : List Entry) → i % per_page ≡ r % per_page → 0 < r → r + length es ≤ per_page → lines_from i es ≡ map entry_line es
unfolding lines_from
no_heading i r [] e h k = refl
no_heading i r (x ∷ es) e h k =
    rw (in_page i x (λ q. omega arith)) (ap (λ (s : List (List ℕ)). entry_line x ∷ s) (no_heading (suc i) (suc r) es (omega arith) (omega arith) (omega arith)))

-- The fixes of a page.
one_page : (i : ℕ) (es : List Entry) → i % per_page ≡ 0 → 0 < length es → length es ≤ per_page → lines_from i es ≡ heading ∷ map entry_line es
unfolding lines_from
one_page i [] h z k = absurd (omega arith)
one_page i (x ∷ es) h z k =
    rw (heads_page i x h) (ap (λ (s : List (List ℕ)). heading ∷ entry_line x ∷ s) (no_heading (suc i) 1 es (omega arith) (omega arith) (omega arith)))

page_flat : (i : ℕ) (es : List Entry) → i % per_page ≡ 0 → 0 < length es → length es ≤ per_page → page es ≡ flatten (lines_from i es)
unfolding page flatten
page_flat i es h z k = sym (ap flatten (one_page i es h z k))

-- A page, and the fixes after it.
page_and_rest : (i : ℕ) (l : List Entry) → i % per_page ≡ 0 → 0 < length l
    → page (take per_page l) ++ flatten (lines_from (i + per_page) (drop per_page l)) ≡ flatten (lines_from i l)
page_and_rest i l h z =
    let p = take per_page l in
    let q = drop per_page l in
    let n = length-take per_page l in
    let m = length-drop per_page l in
    ap₂ (λ (a b : List ℕ). a ++ b) (page_flat i p h (omega arith) (omega arith)) (ap flatten (rest q (λ h. omega arith)))
    ∙ sym (flatten_append (lines_from i p) (lines_from (i + length p) q))
    ∙ ap flatten (sym (lines_append i p q) ∙ ap (lines_from i) (take-append-drop per_page l))
  where
    -- Where there are fixes after it, the page has 60.
    rest : (q : List Entry) → (0 < length q → length (take per_page l) ≡ per_page) → lines_from (i + per_page) q ≡ lines_from (i + length (take per_page l)) q
    rest [] c = unfold lines_from in refl
    rest (x ∷ q) c = rw (c (omega arith))

module _ (es : List Entry) where
  on_page : ℕ → List Entry
  on_page k = take per_page (drop (per_page * k) es)

  -- The pages from k on, of which there are m.
  pages_from : (m k : ℕ) → m ≡ page_count (length es - per_page * k)
      → flatten (map page (map on_page (from k m))) ≡ flatten (lines_from (per_page * k) (drop (per_page * k) es))
  unfolding from page_count flatten on_page lines_from
  pages_from zero k e = nothing (drop (per_page * k) es) (omega (arith, length-drop (per_page * k) es))
    where
      nothing : (l : List Entry) → length l ≡ 0 → [] ≡ flatten (lines_from (per_page * k) l)
      nothing [] z = refl
      nothing (x ∷ l) z = absurd (omega arith)
  pages_from (suc m) k e =
      let i = per_page * k in
      let next : per_page * suc k ≡ i + per_page = omega arith in
      ap (λ (s : List ℕ). page (on_page k) ++ s)
      (pages_from m (suc k) (omega arith) ∙ ap₂ (λ (a : ℕ) (l : List Entry). flatten (lines_from a l)) next (ap (λ (z : ℕ). drop z es) next ∙ sym (drop-drop per_page i es)))
      ∙ page_and_rest i (drop i es) (omega arith) (omega (arith, length-drop i es))

-- The sheet, as the code writes it.
pub sheet_lines : (lens : List ℕ) (labels : List ℤ) → sheet lens labels ≡ flatten (lines_from 0 (entries 0 lens labels))
unfolding sheet pages upto on_page
sheet_lines lens labels = let es = entries 0 lens labels in pages_from es (page_count (length es)) 0 (let z : length es - 0 ≡ length es = omega arith in ap page_count (sym z))
