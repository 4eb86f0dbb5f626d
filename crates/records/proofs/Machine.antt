-- The machine over the records to come: with what it has said so far it says what the checks of crate `checks` say, 12 to 15 trace by trace, then 16.
use mathlib.Core.Path.{◌≡◌, refl, sym, ap, ◌∙◌}
use mathlib.Core.Bool.{Bool, true, false, cond}
use mathlib.Core.List.{List, [], ◌∷◌, map}
use Prim.Native.Nat.{ℕ, zero, suc, ◌+◌, ◌-◌, ◌<◌, ◌≤◌}
use native.Mathlib.Numerals.{add-one}
use native.Mathlib.Omega.{arith}
use borrow.Author.Tests.{ltb-true, ltb-false, eq-eqb, ne_eqb}
use lib.Dec.{ltb}
use lib.ListN.{length, take, drop, get_or, drop_of_length-le}
use lib.Seq.{drop-cons}
use Rattle.trace.specs.Trace.{Fix, total, traces}
use Rattle.trace.proofs.Parts.{total_drop}
use Rattle.std.specs.Prelude.{Ok, Err}
use Rattle.settings.specs.Checks.{Checked, first_of, each_of, each_from}
use Rattle.checks.specs.Traces.{check_fix, check_trace, check_fix_size, check_size}
use Rattle.settings.proofs.Turns.{first_alone}
use Rattle.checks.proofs.Usable.{none_refused, none_far}
use Rattle.records.specs.declared.FixRecord.{FixRecord}
use Rattle.records.specs.declared.judge.Judge.{Judge}
use Rattle.records.specs.Records.{fix_of}
use Rattle.records.specs.StepsJudge.{with_time, times_checked, first_with_fix, begun, opened, passed, ended, next, stepped, run}
use Rattle.records.proofs.OpenTrace.{rest_times, rest_trace, rest_next, rest_none, trace_fresh}
use Rattle.records.proofs.PassedOver.{passed_over, total_from_lem, has_fix}

-- ---- the order of the checks, over what each of them answers

pub assoc : (a b c : Checked) → first_of (first_of a b) c ≡ first_of a (first_of b c)
unfolding first_of
assoc (Ok u) b c = refl
assoc (Err e) b c = refl

on_order : (a b c d r e x y z : Checked)
    → first_of (first_of a b) (first_of (first_of (first_of c d) r) (first_of (first_of e x) (first_of y z))) ≡ first_of a
    (first_of (first_of (first_of (first_of b c) d) r) (first_of e (first_of (first_of x y) z)))
on_order a b c d r e x y z = simp assoc

end_order : (a b d r e x z : Checked)
    → first_of (first_of (first_of a b) d) (first_of r (first_of (first_of e x) z)) ≡ first_of a (first_of (first_of (first_of (first_of b (Ok tt)) d) r)
    (first_of e (first_of (first_of x (Ok tt)) z)))
end_order a b d r e x z = simp (assoc, first_alone)

-- ---- what the machine owes

module _ (lens : List ℕ) where
  -- 12 to 16 at the end of all records.
  unfoldable pub verdict : Judge → Checked
  verdict s = first_of s.first s.far

  -- 12 to 16 by the checks: what is known, and what the n fixes to come of the open trace and the traces behind it say.
  unfoldable pub Owed : Judge → ℕ → List Fix → Checked
  Owed s n gs =
      let behind = traces (drop (suc s.trace) lens) (drop n gs) in
      first_of s.first
      (first_of (first_of (rest_trace s.trace s.times (take n gs)) (each_from check_trace (suc s.trace) behind))
      (first_of s.far (first_of (check_size s.trace (take n gs)) (each_from check_size (suc s.trace) behind))))

  -- A fix that is not the last of its trace.
  on : (s : Judge) (f : FixRecord) (m : ℕ) → s.left ≡ suc (suc m) → stepped lens s f ≡ passed f s
  unfolding stepped passed
  on s f m e =
      let h : s.left - 1 ≡ suc m = omega arith in
      rw (h, ne_eqb (suc m) 0 (λ q. omega arith))

  owed_on : (s : Judge) (f : FixRecord) (m : ℕ) (gs : List Fix) → Owed (passed f s) (suc m) gs ≡ Owed s (suc (suc m)) (fix_of f ∷ gs)
  unfolding Owed passed rest_trace check_size each_of
  owed_on s f m gs =
      let k = s.trace in
      let ts = take (suc m) gs in
      let behind = traces (drop (suc k) lens) (drop (suc m) gs) in
      rw (rest_next k s.times f ts)
      (on_order s.first (check_fix k (fix_of f)) (each_of (check_fix k) ts) (rest_times k s.times (fix_of f ∷ ts))
      (each_from check_trace (suc k) behind) s.far (check_fix_size k (fix_of f)) (each_of (check_fix_size k) ts) (each_from check_size (suc k) behind))

  -- The last fix of a trace.
  last : (s : Judge) (f : FixRecord) → s.left ≡ 1 → stepped lens s f ≡ next lens (ended (passed f s))
  unfolding stepped passed
  last s f e =
      let h : s.left - 1 ≡ 0 = omega arith in
      rw (eq-eqb (s.left - 1) 0 h)

  module _ (s : Judge) (f : FixRecord) (gs : List Fix) where
    abbrev k : ℕ
    k = s.trace

    abbrev a : Checked
    a = first_of (first_of s.first (check_fix k (fix_of f))) (times_checked k (with_time s.times f))

    abbrev e : Checked
    e = first_of s.far (check_fix_size k (fix_of f))

    -- What is owed with one fix to come in the open trace.
    owed_last : Owed s 1 (fix_of f ∷ gs) ≡ first_of a (first_of (each_from check_trace (suc k) (traces (drop (suc k) lens) gs))
        (first_of e (each_from check_size (suc k) (traces (drop (suc k) lens) gs))))
    unfolding Owed rest_trace check_size each_of
    owed_last =
        rw (sym (rest_next k s.times f []), rest_none k (with_time s.times f))
        (sym (end_order s.first (check_fix k (fix_of f)) (times_checked k (with_time s.times f)) (each_from check_trace (suc k)
        (traces (drop (suc k) lens) gs)) s.far (check_fix_size k (fix_of f)) (each_from check_size (suc k) (traces (drop (suc k) lens) gs))))

  -- The fixes to come of a new trace.
  owed_new : (s : Judge) (k m : ℕ) (gs : List Fix)
      → Owed (begun k m s) m gs ≡ first_of s.first (first_of (each_from check_trace k (take m gs ∷ traces (drop (suc k) lens) (drop m gs)))
      (first_of s.far (each_from check_size k (take m gs ∷ traces (drop (suc k) lens) (drop m gs)))))
  unfolding Owed begun each_from
  owed_new s k m gs = rw (trace_fresh k (take m gs))

  -- What is owed where the traces from k on are to come.
  unfoldable pub Rest : Judge → ℕ → List Fix → Checked
  Rest s k gs =
      first_of s.first (first_of (each_from check_trace k (traces (drop k lens) gs)) (first_of s.far (each_from check_size k (traces (drop k lens) gs))))

  -- The empty ones in front of them owe nothing.
  rest_from : (s : Judge) (k : ℕ) (gs : List Fix) → Rest s k gs ≡ Rest s (first_with_fix lens k) gs
  unfolding Rest
  rest_from s k gs = rw (passed_over check_trace none_refused gs lens k, passed_over check_size none_far gs lens k)

  -- No trace and no record is left.
  nothing_left : (fs : List FixRecord) (s : Judge) (k : ℕ) → drop k lens ≡ [] → length fs ≡ 0 → verdict (run lens s fs) ≡ Rest s k (map fix_of fs)
  unfolding run verdict Rest traces each_from
  nothing_left (f ∷ fs) s k gone l = absurd (omega arith)
  nothing_left [] s k gone l = rw (gone, first_alone s.far) (unfold first_of in refl)

  -- The machine says of the records fs what is owed.
  abbrev Tells : List FixRecord → Type 0
  Tells fs = (s : Judge) (n : ℕ) → s.left ≡ suc n → suc n + total (drop (suc s.trace) lens) ≡ length fs → verdict (run lens s fs) ≡ Owed s (suc n) (map fix_of fs)

  -- The first trace from k on that has a fix is opened.
  module _ (fs : List FixRecord) (s : Judge) (k : ℕ) (sum : total (drop k lens) ≡ length fs) (ih : Tells fs) where
    abbrev j : ℕ
    j = first_with_fix lens k

    abbrev m : ℕ
    m = get_or lens j 0

    some : j < length lens → verdict (run lens (begun j m s) fs) ≡ Rest s j (map fix_of fs)
    unfolding Rest traces begun
    some below =
        let has = has_fix lens k below in
        let one : suc (m - 1) ≡ m = omega (arith, has) in
        let cut = drop-cons lens j 0 below in
        let whole : m + total (drop (suc j) lens) ≡ length fs = rw (← add-one j) (sym (total_drop lens j below) ∙ total_from_lem lens k ∙ sum) in
        ih (begun j m s) (m - 1) (sym one) (ap (λ (i : ℕ). i + total (drop (suc j) lens)) one ∙ whole)
        ∙ ap (λ (i : ℕ). Owed (begun j m s) i (map fix_of fs)) one
        ∙ owed_new s j m (map fix_of fs)
        ∙ rw cut

    -- No trace has the number i, and so no record is left.
    past : (t : Judge) (i : ℕ) → length lens ≤ i → total (drop i lens) ≡ length fs → verdict (run lens t fs) ≡ Rest t i (map fix_of fs)
    past t i end l =
        let gone : drop i lens ≡ [] = drop_of_length-le lens {i = i} end in
        nothing_left fs t i gone (sym l ∙ ap total gone ∙ (unfold total in refl))

    moved : (b : Bool) → ltb j (length lens) ≡ b → verdict (run lens (begun j m s) fs) ≡ Rest s j (map fix_of fs)
    unfolding Rest begun
    moved true h = some (ltb-true j (length lens) h)
    moved false h = past (begun j m s) j (ltb-false j (length lens) h) (total_from_lem lens k ∙ sum)

    pub opening : verdict (run lens (opened lens k s) fs) ≡ Rest s k (map fix_of fs)
    unfolding opened
    opening = go (ltb k (length lens)) refl
      where
        go : (b : Bool) → ltb k (length lens) ≡ b → verdict (run lens (cond (ltb k (length lens)) (begun j m s) s) fs) ≡ Rest s k (map fix_of fs)
        go true h = rw h (moved (ltb j (length lens)) refl ∙ sym (rest_from s k (map fix_of fs)))
        go false h = rw h (past s k (ltb-false k (length lens) h) sum)

  pub told : (fs : List FixRecord) → Tells fs
  unfolding run next ended passed Rest
  told [] s n e l = absurd (omega arith)
  told (f ∷ fs) s (suc m) e l =
      ap (λ (t : Judge). verdict (run lens t fs)) (on s f m e)
      ∙ told fs (passed f s) m (omega arith) (omega arith)
      ∙ owed_on s f m (map fix_of fs)
  told (f ∷ fs) s zero e l =
      ap (λ (t : Judge). verdict (run lens t fs)) (last s f e)
      ∙ opening fs (ended (passed f s)) (suc s.trace) (omega arith) (told fs)
      ∙ sym (owed_last s f (map fix_of fs))
