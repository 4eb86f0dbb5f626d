-- The trace lengths that the machine notes are those of the fix lines.
use Rattle.std.proofs.Common.{◌≡◌, ℕ, zero, suc, ◌+◌, ◌-◌, ◌<◌, ◌≤◌, Bool, true, false, ltb, ◌⊎◌, List, [], ◌∷◌, ◌++◌, length, take, set, sym, refl, ap, ◌∙◌, inl, inr, add-one, arith, length-append, ltb-false, ltb-true, le-ltb, lt-ltb, eq-eqb, ne_eqb}
use lib.Seq.{take-nil}
use Rattle.text.specs.Values.{FixLine, with_fix, lengths_from, lengths_of}
use Rattle.text.proofs.TracesRise.{TracesRise}
use Rattle.text.specs.Parsed.{into}
use Rattle.text.specs.Pieces.{first_fixes}
use Rattle.text.specs.Machine.{more, set_if}
use Rattle.text.proofs.Noted.{len_after, note_lens, traces_from}
use Rattle.text.proofs.Columns.{one_left, none_left, more_past, into_nil, into_more, into_last}

-- ---- one fix more

pub with_next : (ns : List ℕ) → with_fix ns (length ns) ≡ ns ++ (1 ∷ [])
unfolding with_fix
with_next [] = refl
with_next (n ∷ ns) = ap (λ (r : List ℕ). n ∷ r) (with_next ns)

pub with_last : (ns : List ℕ) (k : ℕ) → with_fix (ns ++ (k ∷ [])) (length ns) ≡ ns ++ (suc k ∷ [])
unfolding with_fix
with_last [] k = refl
with_last (n ∷ ns) k = ap (λ (r : List ℕ). n ∷ r) (with_last ns k)

with_length : (ns : List ℕ) (t : ℕ) → (t ≡ length ns) ⊎ (t + 1 ≡ length ns) → length (with_fix ns t) ≡ t + 1
unfolding with_fix
with_length [] t (inl e) = omega arith
with_length [] t (inr e) = absurd (omega arith)
with_length (n ∷ ns) zero (inl e) = absurd (omega arith)
with_length (n ∷ ns) zero (inr e) = omega arith
with_length (n ∷ ns) (suc t) (inl e) = let r = with_length ns t (inl (omega arith)) in omega arith
with_length (n ∷ ns) (suc t) (inr e) = let r = with_length ns t (inr (omega arith)) in omega arith

-- ---- all fixes

pub traces_counted : (ps : List FixLine) (ns : List ℕ) (n : ℕ) → n ≡ length ns → TracesRise n ps → traces_from n ps ≡ length (lengths_from ns ps)
unfolding traces_from lengths_from TracesRise
traces_counted [] ns n e r = e
traces_counted (p ∷ ps) ns n e (a, r) = traces_counted ps (with_fix ns p.trace) (p.trace + 1) (sym (with_length ns p.trace (moved a))) r
  where
    moved : (p.trace ≡ n) ⊎ (p.trace + 1 ≡ n) → (p.trace ≡ length ns) ⊎ (p.trace + 1 ≡ length ns)
    moved (inl a) = inl (a ∙ e)
    moved (inr a) = inr (a ∙ e)

lens_past : (ps : List FixLine) (l : List ℕ) (c n k : ℕ) → 768 ≤ c → note_lens l c n k ps ≡ l
unfolding note_lens set_if more
lens_past [] l c n k h = refl
lens_past (p ∷ ps) l c n k h = rw (le-ltb c 768 h) (lens_past ps l (more c) (p.trace + 1) (len_after n k p.trace) (more_past c h))

len_next : (n k t : ℕ) → t ≡ n → len_after n k t ≡ 1
unfolding len_after
len_next n k t e = rw (eq-eqb t n e)

len_last : (n k t : ℕ) → t + 1 ≡ n → k < 769 → len_after n k t ≡ suc k
unfolding len_after more
len_last n k t e h = rw (ne_eqb t n (λ q. omega arith), lt-ltb k 769 h) (add-one k)

-- After c fixes in traces of the lengths ns and k, the last.
lens_into : (s : List ℕ) (ps : List FixLine) (ns : List ℕ) (k c : ℕ) → k ≤ c → TracesRise (suc (length ns)) ps
    → note_lens (into s (ns ++ (k ∷ []))) c (suc (length ns)) k ps ≡ into s (lengths_from (ns ++ (k ∷ [])) (take (768 - c) ps))
unfolding note_lens lengths_from TracesRise set_if more
lens_into s [] ns k c h r = rw (take-nil {A = FixLine} (768 - c))
lens_into s (p ∷ ps) ns k c h (a, r) = go (λ ms. λ j. λ d. λ u. λ v. lens_into s ps ms j d u v) (ltb c 768) refl a
  where
    here : List ℕ
    here = into s (ns ++ (k ∷ []))

    long : length (ns ++ (k ∷ [])) ≡ suc (length ns)
    long = length-append ns (k ∷ []) ∙ add-one (length ns)

    on : (ms ms₁ : List ℕ) → c < 768 → with_fix ms p.trace ≡ ms₁
        → into s (lengths_from ms₁ (take (768 - (c + 1)) ps)) ≡ into s (lengths_from ms (take (768 - c) (p ∷ ps)))
    on ms ms₁ q x = ap (λ (r : List ℕ). into s (lengths_from r (take (768 - (c + 1)) ps))) (sym x) ∙ ap (λ (j : ℕ). into s (lengths_from ms (take j (p ∷ ps)))) (sym (one_left c q))

    -- The lengths after this fix and those that follow; it is noted where b.
    noted : Bool → List ℕ
    noted b = note_lens (set_if b here p.trace (len_after (suc (length ns)) k p.trace)) (more c) (p.trace + 1) (len_after (suc (length ns)) k p.trace) ps

    go : ((ms : List ℕ) (j d : ℕ) → j ≤ d → TracesRise (suc (length ms)) ps
        → note_lens (into s (ms ++ (j ∷ []))) d (suc (length ms)) j ps ≡ into s (lengths_from (ms ++ (j ∷ [])) (take (768 - d) ps)))
        → (b : Bool) → ltb c 768 ≡ b → (p.trace ≡ suc (length ns)) ⊎ (p.trace + 1 ≡ suc (length ns))
        → noted b ≡ into s (lengths_from (ns ++ (k ∷ [])) (take (768 - c) (p ∷ ps)))
    go i true e (inl t) =
        let q : c < 768 = ltb-true c 768 e in
        let u : p.trace ≡ length (ns ++ (k ∷ [])) = t ∙ sym long in
        let v : p.trace + 1 ≡ suc (length (ns ++ (k ∷ []))) = omega arith in
        let w : set here p.trace 1 ≡ into s ((ns ++ (k ∷ [])) ++ (1 ∷ [])) = ap (λ (j : ℕ). set here j 1) u ∙ into_more s (ns ++ (k ∷ [])) 1 in
        let x : with_fix (ns ++ (k ∷ [])) p.trace ≡ (ns ++ (k ∷ [])) ++ (1 ∷ []) = ap (with_fix (ns ++ (k ∷ []))) u ∙ with_next (ns ++ (k ∷ [])) in
        let y : noted true ≡ note_lens (into s ((ns ++ (k ∷ [])) ++ (1 ∷ []))) (c + 1) (suc (length (ns ++ (k ∷ [])))) 1 ps =
        rw (lt-ltb c 769 (omega arith), len_next (suc (length ns)) k p.trace t, w, v) in
        y ∙ i (ns ++ (k ∷ [])) 1 (c + 1) (omega arith) (rw v at r) ∙ on (ns ++ (k ∷ [])) ((ns ++ (k ∷ [])) ++ (1 ∷ [])) q x
    go i true e (inr t) =
        let q : c < 768 = ltb-true c 768 e in
        let u : p.trace ≡ length ns = omega arith in
        let w : set here p.trace (suc k) ≡ into s (ns ++ (suc k ∷ [])) = ap (λ (j : ℕ). set here j (suc k)) u ∙ into_last s ns k (suc k) in
        let x : with_fix (ns ++ (k ∷ [])) p.trace ≡ ns ++ (suc k ∷ []) = ap (with_fix (ns ++ (k ∷ []))) u ∙ with_last ns k in
        let y : noted true ≡ note_lens (into s (ns ++ (suc k ∷ []))) (c + 1) (suc (length ns)) (suc k) ps =
        rw (lt-ltb c 769 (omega arith), len_last (suc (length ns)) k p.trace t (omega arith), w, t) in
        y ∙ i ns (suc k) (c + 1) (omega arith) (rw t at r) ∙ on (ns ++ (k ∷ [])) (ns ++ (suc k ∷ [])) q x
    go i false e t =
        let q : 768 ≤ c = ltb-false c 768 e in
        rw (none_left c q) (lens_past ps here (more c) (p.trace + 1) (len_after (suc (length ns)) k p.trace) (more_past c q))

first_cons : (p : FixLine) (ps : List FixLine) → first_fixes (p ∷ ps) ≡ p ∷ take (768 - 1) ps
unfolding first_fixes
first_cons p ps = refl

first_none : first_fixes [] ≡ []
unfolding first_fixes
first_none = refl

-- From the first fix on.
pub lens_noted : (s : List ℕ) (ps : List FixLine) → TracesRise 0 ps → note_lens s 0 0 0 ps ≡ into s (lengths_of (first_fixes ps))
unfolding note_lens lengths_of lengths_from TracesRise with_fix set_if more len_after
lens_noted s [] r = rw first_none (sym (into_nil s))
lens_noted s (p ∷ ps) (inl e, r) =
    let w : set s 0 1 ≡ into s (1 ∷ []) = ap (λ (l : List ℕ). set l 0 1) (sym (into_nil s)) ∙ into_more s [] 1 in
    let y : note_lens s 0 0 0 (p ∷ ps) ≡ note_lens (into s (1 ∷ [])) 1 1 1 ps = rw (e, w) in
    y ∙ lens_into s ps [] 1 1 (omega arith) (rw e at r) ∙ sym (ap (λ (ls : List FixLine). into s (lengths_of ls)) (first_cons p ps))
lens_noted s (p ∷ ps) (inr e, r) = absurd (omega arith)
