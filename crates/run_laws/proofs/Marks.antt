-- What the marks of a run mean.
use mathlib.Core.Path.{◌≡◌, refl, sym, ap, ◌∙◌, subst}
use mathlib.Core.Logic.{◌↔◌, ◌⊎◌, inl, inr}
use Prim.Native.Nat.{ℕ}
use native.Mathlib.Omega.{arith}
use mathlib.Core.Bool.{Bool, true, false}
use mathlib.Core.List.{List}
use lib.ListN.{length}
use lib.Ieee.{lt}
use Rattle.lists.specs.Lists.{upto}
use Rattle.lists.proofs.Tests.{clash}
use Rattle.float.specs.Binary64.{zero64, infinity64}
use Rattle.rng.specs.Rng.{seeded}
use Rattle.map_state.specs.Network.{Network}
use Rattle.optimize.specs.Rounds.{Run, optimize_partition}
use Rattle.optimize.proofs.Ends.{spent_after_100}
use Rattle.infomap.specs.Infomap.{Grouping, RunMark, rest, spent, none_kept, trial_mark, best_of_three, kept_grouping}
use Rattle.run_laws.specs.KeptTrial.{trial_at, trial_codelength, KeptQuiet}
use Rattle.run_laws.proofs.KeptTrial.{grouping_at, NoneBelow, trial_is, KeptWith, by_itself, Best, kept, none, best_is, best_kept}
use Rattle.run_laws.proofs.LastRound.{kept_quiet}

-- ---- the mark of a trial
moved_spent : (b : Bool) → trial_mark b ≡ spent → b ≡ true
unfolding trial_mark
moved_spent true e = refl
moved_spent false e = absurd (let z : ◌≡◌ {A = ℕ} 0 1 = cc in omega arith)

still_rest : (b : Bool) → trial_mark b ≡ rest → b ≡ false
unfolding trial_mark
still_rest true e = absurd (let z : ◌≡◌ {A = ℕ} 0 1 = cc in omega arith)
still_rest false e = refl

never_none : {A : Type 0} (b : Bool) → trial_mark b ≡ none_kept → A
unfolding trial_mark
never_none true e = absurd (let z : ◌≡◌ {A = ℕ} 0 1 = cc in omega arith)
never_none false e = absurd (let z : ◌≡◌ {A = ℕ} 0 1 = cc in omega arith)

none_rest : none_kept ≡ rest → ⊥
none_rest e = let z : ◌≡◌ {A = ℕ} 0 1 = cc in omega arith

none_spent : none_kept ≡ spent → ⊥
none_spent e = let z : ◌≡◌ {A = ℕ} 0 1 = cc in omega arith

rest_spent : rest ≡ spent → ⊥
rest_spent e = let z : ◌≡◌ {A = ℕ} 0 1 = cc in omega arith

-- ---- the best of three
module _ (net : Network) (x : ℕ) where
  mark_at : (t : ℕ) → (grouping_at net x t).mark ≡ trial_mark (trial_at net x t).moved
  unfolding grouping_at
  mark_at t = refl

  mark_kept : (b : Bool) → KeptWith net x b → (best_of_three net x).mark ≡ trial_mark b
  mark_kept b k = ap (λ (z : Grouping). z.mark) (best_kept net x k.trial k.is) ∙ mark_at k.trial ∙ ap trial_mark k.last

  kept_mark : (b : Bool) (m : RunMark) → ((c : Bool) → trial_mark c ≡ m → c ≡ b) → (none_kept ≡ m → ⊥) → (best_of_three net x).mark ≡ m → KeptWith net x b
  kept_mark b m f g e = pick (best_is net x)
    where
      pick : Best net x (best_of_three net x) → KeptWith net x b
      pick (kept t k i) = record { trial = t; is = k; last = f (trial_at net x t).moved (sym (mark_at t) ∙ ap (λ (z : Grouping). z.mark) (sym i) ∙ e) }
      pick (none n i) = absurd (g (ap (λ (z : Grouping). z.mark) (sym i) ∙ e))

  -- The mark is rest exactly when there is a kept trial whose last round moved nothing.
  pub best_rest : ((best_of_three net x).mark ≡ rest) ↔ KeptWith net x false
  unfolding trial_mark
  best_rest = (kept_mark false rest still_rest none_rest, mark_kept false)

  -- It is spent exactly when there is one whose last round still moved something.
  pub best_spent : ((best_of_three net x).mark ≡ spent) ↔ KeptWith net x true
  unfolding trial_mark
  best_spent = (kept_mark true spent moved_spent none_spent, mark_kept true)

  -- It is none kept exactly when no trial's codelength is below infinity.
  pub best_none : ((best_of_three net x).mark ≡ none_kept) ↔ NoneBelow net x
  best_none = (to (best_is net x), back (best_is net x))
    where
      to : Best net x (best_of_three net x) → (best_of_three net x).mark ≡ none_kept → NoneBelow net x
      to (kept t k i) e = never_none (trial_at net x t).moved (sym (mark_at t) ∙ ap (λ (z : Grouping). z.mark) (sym i) ∙ e)
      to (none n i) e = n

      back : Best net x (best_of_three net x) → NoneBelow net x → (best_of_three net x).mark ≡ none_kept
      back (kept t k i) n = clash (lt (trial_codelength net x t) infinity64) k.lowest.below_infinity (n t k.one)
      back (none m i) n = ap (λ (z : Grouping). z.mark) i

  -- With none kept, each node is by itself, after 0 rounds.
  pub best_by_itself : (best_of_three net x).mark ≡ none_kept → best_of_three net x ≡ by_itself net
  best_by_itself e = pick (best_is net x)
    where
      pick : Best net x (best_of_three net x) → best_of_three net x ≡ by_itself net
      pick (kept t k i) = clash (lt (trial_codelength net x t) infinity64) k.lowest.below_infinity (best_none.0 e t k.one)
      pick (none n i) = i

  -- A spent trial has had 100 rounds.
  pub best_spent_rounds : (best_of_three net x).mark ≡ spent → (best_of_three net x).rounds ≡ 100
  unfolding grouping_at
  best_spent_rounds e =
      let k = best_spent.0 e in
      let y = trial_is net x k.trial in
      ap (λ (z : Grouping). z.rounds) (best_kept net x k.trial k.is) ∙ ap (λ (z : Run). z.rounds) y.1
      ∙ spent_after_100 net y.0 (ap (λ (z : Run). z.moved) (sym y.1) ∙ k.last)

-- A trial on the generator's state y that came to rest, with this partition and so many rounds.
pub record TrialAtRest (net : Network) (part : List ℕ) (rounds : ℕ) : Type 0 where
  pub rng : ℕ
  pub still : (optimize_partition net rng).moved ≡ false
  pub partition : part ≡ (optimize_partition net rng).state.partition
  pub count : rounds ≡ (optimize_partition net rng).rounds

-- Under rest, the partition and rounds of the best of three are those of a trial that came to rest.
pub best_at_rest : (net : Network) (x : ℕ) → (best_of_three net x).mark ≡ rest → TrialAtRest net (best_of_three net x).partition (best_of_three net x).rounds
unfolding grouping_at
best_at_rest net x e =
    let k = (best_rest net x).0 e in
    let y = trial_is net x k.trial in
    let b = best_kept net x k.trial k.is in
    record {
      rng = y.0;
      still = ap (λ (z : Run). z.moved) (sym y.1) ∙ k.last;
      partition = ap (λ (z : Grouping). z.partition) b ∙ ap (λ (z : Run). z.state.partition) y.1;
      count = ap (λ (z : Grouping). z.rounds) b ∙ ap (λ (z : Run). z.rounds) y.1;
    }

-- ---- the kept grouping
module _ (net : Network) (seed : ℕ) where
  abbrev unlinked : Grouping
  unlinked = record { partition = upto (length net.strength); mark = rest; rounds = 0; codelength = zero64 }

  -- Where D is above 0, it is the best of three trials.
  pub kept_linked : lt zero64 net.d ≡ true → kept_grouping net seed ≡ best_of_three net (seeded seed)
  unfolding kept_grouping
  kept_linked h = rw h

  -- Where it is not, each node is by itself, at rest after 0 rounds.
  pub kept_unlinked : lt zero64 net.d ≡ false → kept_grouping net seed ≡ unlinked
  unfolding kept_grouping
  kept_unlinked h = rw h

  -- a fact of the kept grouping, with links and without
  by_links : (P : Grouping → Type 0) → (lt zero64 net.d ≡ true → P (best_of_three net (seeded seed))) → (lt zero64 net.d ≡ false → P unlinked) → P (kept_grouping net seed)
  by_links P a b = pick (lt zero64 net.d) refl
    where
      pick : (c : Bool) → lt zero64 net.d ≡ c → P (kept_grouping net seed)
      pick true h = subst P (sym (kept_linked h)) (a h)
      pick false h = subst P (sym (kept_unlinked h)) (b h)

  -- The mark is rest exactly when D is not above 0 or there is a kept trial in whose last round no node changed its group.
  pub kept_rest : ((kept_grouping net seed).mark ≡ rest) ↔ ((lt zero64 net.d ≡ false) ⊎ ((lt zero64 net.d ≡ true) × KeptQuiet net (seeded seed)))
  kept_rest =
      let q = kept_quiet net (seeded seed) in
      by_links (λ k. (k.mark ≡ rest) ↔ ((lt zero64 net.d ≡ false) ⊎ ((lt zero64 net.d ≡ true) × KeptQuiet net (seeded seed))))
      (λ h. (λ e. inr (h, q.0 ((best_rest net (seeded seed)).0 e)), elim [ inl f ↦ clash (lt zero64 net.d) h f | inr k ↦ (best_rest net (seeded seed)).1 (q.1 k.1) ]))
      (λ h. (λ e. inl h, λ w. refl))

  -- It is spent exactly when D is above 0 and there is one whose last round still moved something,
  pub kept_spent : ((kept_grouping net seed).mark ≡ spent) ↔ ((lt zero64 net.d ≡ true) × KeptWith net (seeded seed) true)
  kept_spent =
      by_links (λ k. (k.mark ≡ spent) ↔ ((lt zero64 net.d ≡ true) × KeptWith net (seeded seed) true))
      (λ h. (λ e. (h, (best_spent net (seeded seed)).0 e), λ k. (best_spent net (seeded seed)).1 k.1))
      (λ h. (λ e. absurd (rest_spent e), λ k. clash (lt zero64 net.d) k.0 h))

  -- and then the rounds are 100.
  pub kept_spent_rounds : (kept_grouping net seed).mark ≡ spent → (kept_grouping net seed).rounds ≡ 100
  kept_spent_rounds = by_links (λ k. k.mark ≡ spent → k.rounds ≡ 100) (λ h. best_spent_rounds net (seeded seed)) (λ h e. absurd (rest_spent e))

  -- It is none kept exactly when D is above 0 and no trial's codelength is below infinity,
  pub kept_none : ((kept_grouping net seed).mark ≡ none_kept) ↔ ((lt zero64 net.d ≡ true) × NoneBelow net (seeded seed))
  kept_none =
      by_links (λ k. (k.mark ≡ none_kept) ↔ ((lt zero64 net.d ≡ true) × NoneBelow net (seeded seed)))
      (λ h. (λ e. (h, (best_none net (seeded seed)).0 e), λ k. (best_none net (seeded seed)).1 k.1))
      (λ h. (λ e. absurd (none_rest (sym e)), λ k. clash (lt zero64 net.d) k.0 h))

  -- and then each node is by itself, after 0 rounds.
  pub kept_by_itself : (kept_grouping net seed).mark ≡ none_kept → kept_grouping net seed ≡ by_itself net
  kept_by_itself = by_links (λ k. k.mark ≡ none_kept → k ≡ by_itself net) (λ h. best_by_itself net (seeded seed)) (λ h e. absurd (none_rest (sym e)))

  -- Under rest and with D above 0, its partition and rounds are those of a trial that came to rest.
  pub kept_at_rest : lt zero64 net.d ≡ true → (kept_grouping net seed).mark ≡ rest → TrialAtRest net (kept_grouping net seed).partition (kept_grouping net seed).rounds
  kept_at_rest h = subst (λ (k : Grouping). k.mark ≡ rest → TrialAtRest net k.partition k.rounds) (sym (kept_linked h)) (best_at_rest net (seeded seed))
