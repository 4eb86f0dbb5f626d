-- The fit of records: its outcome by the verdict on them, what `fit_taken` promises of them, and how all ends.
use mathlib.Core.Path.{◌≡◌, refl, sym, ap, ◌∙◌, subst}
use mathlib.Core.Bool.{Bool, true, false, cond}
use mathlib.Core.List.{List, map}
use Prim.Native.Nat.{ℕ, zero, suc, ◌+◌, ◌-◌, ◌*◌, ◌<◌, ◌≤◌}
use native.Mathlib.Omega.{arith}
use lib.IntN.{ℤ}
use lib.ListN.{length, take}
use lib.Ieee.{Float}
use Rattle.lists.specs.Lists.{overlay}
use Rattle.distance.specs.Distance.{euclidean}
use Rattle.trace.specs.Trace.{Fix, fixes, traces}
use Rattle.std.specs.Prelude.{Ok, Err}
use Rattle.settings.specs.declared.config.Config.{Config}
use Rattle.settings.specs.declared.refusal.Refusal.{Refusal}
use Rattle.settings.specs.Checks.{Checked, is_refused, first_of}
use Rattle.settings.proofs.Turns.{first_both}
use Rattle.checks.proofs.Accepted.{tracks_accepted}
use Rattle.infostop.specs.Fit.{Outcome, refused, unless_refused, fit}
use Rattle.infostop.specs.declared.model.Infostop.{Infostop}
use Rattle.infostop.specs.declared.answer.Fit.{Fit}
use Rattle.infostop.specs.Ends.{told_by, keeps_work, Promised}
use Rattle.lists.proofs.Parts.{lent}
use Rattle.infostop.proofs.Ending.{refused_ends, no_kept}
use Rattle.infostop.proofs.Promises.{both_accepted, free_work}
use Rattle.records.specs.declared.FixRecord.{FixRecord}
use Rattle.records.specs.Records.{fix_of, xs_of, ys_of, times_of, marks_of, room_for, work_floats, fit_records, taken, marked, outcome_of, RecordsFitted}
use Rattle.records.specs.StepsJudge.{check_records}
use Rattle.records.specs.Steps.{Ready, ReadyFitted}
use Rattle.records.proofs.Steps.{room_columns, room_marks}
use Rattle.records.proofs.Columns.{in_row, columns_length, marks_length, columns_held, marks_held, xs_held, ys_held, times_held}
use Rattle.records.proofs.Judged.{fixes_are}
use Rattle.records.proofs.Early.{early_in, early_records}

-- ---- the outcome by the checks

two_checks : (a b : Checked) (o : Outcome) (e : Refusal) → first_of a b ≡ Err e → unless_refused a (unless_refused b o) ≡ refused e
unfolding first_of unless_refused
two_checks (Err d) b o e h = cc
two_checks (Ok u) (Err d) o e h = cc
two_checks (Ok u) (Ok v) o e h = absurd (let z : ◌≡◌ {A = ℕ} 0 1 = cc in omega arith)

squares : (n cap : ℕ) → 1 ≤ cap → 0 < 4 * n + cap * cap
squares n zero h = absurd (omega arith)
squares n (suc k) h = omega arith

module _ (c : Config) (fs : List FixRecord) (lens : List ℕ) (labels cap columns marks floats words : ℕ) where
  abbrev verdict : Checked
  verdict = check_records c fs lens labels cap columns marks floats words

  abbrev outcome : Outcome
  outcome = fit_records c fs lens labels cap columns marks floats words

  pub outcome_refused : (e : Refusal) → verdict ≡ Err e → outcome ≡ refused e
  unfolding fit_records fit check_records
  outcome_refused e h = two_checks _ _ _ e h

  pub keeps_early : (d : Checked) → verdict ≡ d → keeps_work outcome ≡ is_refused d
  unfolding fit_records check_records
  keeps_early (Err e) h = ap keeps_work (outcome_refused e h) ∙ ap early_in (sym h) ∙ early_records c fs lens labels cap columns marks floats words
  keeps_early (Ok u) h =
      let both = first_both _ _ h in
      ap keeps_work (both_accepted c (xs_of fs) (ys_of fs) (times_of fs) (marks_of fs) lens labels cap (work_floats (length fs) columns marks floats) words
      both.0 both.1)
      ∙ free_work euclidean c cap (traces lens (fixes (xs_of fs) (ys_of fs) (times_of fs) (marks_of fs)))

  -- Records that pass have room.
  pub has_room : verdict ≡ Ok tt → room_for (length fs) columns marks ≡ true
  unfolding check_records work_floats
  has_room h = go (room_for (length fs) columns marks) refl
    where
      go : (b : Bool) → room_for (length fs) columns marks ≡ b → b ≡ true
      go true e = refl
      go false e =
          let w = tracks_accepted (xs_of fs) (ys_of fs) (times_of fs) (marks_of fs) lens labels cap (cond (room_for (length fs) columns marks) floats 0)
          words (first_both _ _ h).1 in
          let l : 4 * length (xs_of fs) + cap * cap ≤ 0 = rw e at w.roomy.floats_length in
          let p = squares (length (xs_of fs)) cap w.some_place in
          absurd (omega arith)

-- ---- what `fit_taken` promises
module _ (m : Infostop) (fs : List FixRecord) (lens : List ℕ) (old : List ℤ) (cap : ℕ) (columns : List Float) (marks : List ℕ) (floats : List Float)
    (words : List ℤ) (n : ℕ)
    (w : Ready m.config fs lens (length old) cap (length floats) (length words) n columns marks) where
  abbrev o : Outcome
  o = outcome_of m fs lens cap old columns marks floats words

  abbrev Ends : Fit → List ℤ → List Float → List ℤ → Type 0
  Ends = Promised m old floats words o (traces lens (map fix_of fs))

  roomy : room_for (length fs) (length columns) (length marks) ≡ true
  roomy = has_room m.config fs lens (length old) cap (length columns) (length marks) (length floats) (length words) w.passes

  -- What is promised of columns that are those of the records.
  abbrev Of : Fit → List ℤ → List Float → List ℤ → List Float → List Float → List Float → List ℕ → ℕ → Type 0
  Of r labels floats' words' xs ys ts ms room =
      Promised m old floats words (fit m.config xs ys ts ms lens (length old) cap room (length words)) (traces lens (fixes xs ys ts ms)) r labels floats' words'

  by_columns : (r : Fit) (labels : List ℤ) (floats' : List Float) (words' : List ℤ) (xs ys ts : List Float) (ms : List ℕ) (room : ℕ)
      → xs ≡ xs_of fs → ys ≡ ys_of fs → ts ≡ times_of fs → ms ≡ marks_of fs → room ≡ work_floats (length fs) (length columns) (length marks) (length floats)
      → Of r labels floats' words' xs ys ts ms room → Ends r labels floats' words'
  unfolding fit_records
  by_columns r labels floats' words' xs ys ts ms room px py pt pm pr p =
      let W = work_floats (length fs) (length columns) (length marks) (length floats) in
      subst (λ (z : List Fix). Promised m old floats words (fit m.config (xs_of fs) (ys_of fs) (times_of fs) (marks_of fs) lens
      (length old) cap W (length words)) (traces lens z) r labels floats' words') (fixes_are fs)
      (subst (λ (z : ℕ). Of r labels floats' words' (xs_of fs) (ys_of fs) (times_of fs) (marks_of fs) z) pr
      (subst (λ (z : List ℕ). Of r labels floats' words' (xs_of fs) (ys_of fs) (times_of fs) z room) pm
      (subst (λ (z : List Float). Of r labels floats' words' (xs_of fs) (ys_of fs) z ms room) pt
      (subst (λ (z : List Float). Of r labels floats' words' (xs_of fs) z ts ms room) py
      (subst (λ (z : List Float). Of r labels floats' words' z ys ts ms room) px p)))))

  pub promised_taken : (r : Fit) (labels : List ℤ) (floats' : List Float) (words' : List ℤ)
      → Of r labels floats' words' (take n columns) (lent n (2 * n) columns) (lent (2 * n) (3 * n) columns) (take n marks) (length floats)
      → Ends r labels floats' words'
  unfolding work_floats
  promised_taken r labels floats' words' p =
      let is : length fs ≡ n = sym w.count in
      let l = room_columns (length fs) (length columns) (length marks) roomy in
      let held = w.columns_hold in
      let second : 2 * n - n ≡ length fs = omega arith in
      let third : 3 * n - 2 * n ≡ length fs = omega arith in
      let double : 2 * n ≡ 2 * length fs = omega arith in
      by_columns r labels floats' words' _ _ _ _ _
      (ap (λ (k : ℕ). take k columns) w.count ∙ xs_held fs columns l held)
      (rw (second, sym is) (ys_held fs columns l held))
      (rw (third, double) (times_held fs columns l held))
      (ap (λ (k : ℕ). take k marks) w.count ∙ w.marks_hold)
      (rw roomy)
      p

-- ---- how all ends
module _ (m : Infostop) (fs : List FixRecord) (lens : List ℕ) (old : List ℤ) (cap : ℕ) (columns : List Float) (marks : List ℕ) (floats : List Float)
    (words : List ℤ) where
  abbrev d : Checked
  d = check_records m.config fs lens (length old) cap (length columns) (length marks) (length floats) (length words)

  abbrev o₁ : Outcome
  o₁ = outcome_of m fs lens cap old columns marks floats words

  keeps : (z : Checked) → d ≡ z → keeps_work o₁ ≡ is_refused z
  keeps z h = keeps_early m.config fs lens (length old) cap (length columns) (length marks) (length floats) (length words) z h

  -- A refusal leaves all as it was.
  pub end_refused : {v : Checked} → v ≡ d → (e : Refusal) → v ≡ Err e → {columns' : List Float} {marks' : List ℕ} → columns' ≡ columns → marks' ≡ marks
      → RecordsFitted m fs lens cap old columns marks floats words (record { answer = Err e; model = m }) old columns' marks' floats words
  unfolding taken marked
  end_refused h e q a b =
      let r : d ≡ Err e = sym h ∙ q in (
        record {
          ended = refused_ends m old o₁ e (outcome_refused m.config fs lens (length old) cap (length columns) (length marks) (length floats) (length words) e r);
          work = λ z. (refl, refl);
          demand3 = λ k. λ n. λ z. no_kept _ _ _ _ (sym (ap told_by z));
        },
        rw (keeps (Err e) r) a,
        rw (keeps (Err e) r) b,
      )

  -- The checks pass, so all records are taken apart.
  module _ {v : Checked} (h : v ≡ d) (q : v ≡ Ok tt) where
    passed : d ≡ Ok tt
    passed = sym h ∙ q

    roomy₁ : room_for (length fs) (length columns) (length marks) ≡ true
    roomy₁ = has_room m.config fs lens (length old) cap (length columns) (length marks) (length floats) (length words) passed

    -- There is room for them,
    pub room_first : (3 * length fs ≤ length columns) × (length fs ≤ length marks)
    room_first = (room_columns (length fs) (length columns) (length marks) roomy₁, room_marks (length fs) (length columns) (length marks) roomy₁)

    module _ (columns' : List Float) (marks' : List ℕ) (a : columns' ≡ overlay (in_row fs) columns) (b : marks' ≡ overlay (marks_of fs) marks) where
      long : length columns' ≡ length columns
      long = ap length a ∙ columns_length fs columns room_first.0

      many : length marks' ≡ length marks
      many = ap length b ∙ marks_length fs marks room_first.1

      -- and then they are there.
      pub room_then : (3 * length fs ≤ length columns') × (length fs ≤ length marks')
      room_then = (omega (arith, long, room_first.0), omega (arith, many, room_first.1))

      pub end_taken : (r : Fit) (labels : List ℤ) (floats' : List Float) (words' : List ℤ)
          → ReadyFitted m (length fs) lens cap old columns' marks' floats words r labels floats' words'
          → RecordsFitted m fs lens cap old columns marks floats words r labels columns' marks' floats' words'
      unfolding taken marked
      end_taken r labels floats' words' f = (
        subst (λ (j : ℕ). promised j (length marks)) long (subst (λ (j : ℕ). promised (length columns') j) many (f fs is_ready)),
        rw (keeps (Ok tt) passed) a,
        rw (keeps (Ok tt) passed) b,
      )
        where
          is_ready : Ready m.config fs lens (length old) cap (length floats) (length words) (length fs) columns' marks'
          is_ready = record {
            passes = rw (long, many) passed;
            count = refl;
            columns_hold = ap (take (3 * length fs)) a ∙ columns_held fs columns;
            marks_hold = ap (take (length fs)) b ∙ marks_held fs marks;
          }

          -- The promise where columns and marks have these lengths.
          promised : ℕ → ℕ → Type 0
          promised i j =
              Promised m old floats words (fit_records m.config fs lens (length old) cap i j (length floats) (length words))
              (traces lens (map fix_of fs)) r labels floats' words'
