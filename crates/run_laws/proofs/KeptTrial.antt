-- Which of the trials is kept.
use mathlib.Core.Path.{◌≡◌, refl, sym, ap, ◌∙◌, subst}
use mathlib.Core.Logic.{◌⊎◌, inl, inr}
use Prim.Native.Nat.{ℕ, zero, suc, ◌<◌}
use native.Mathlib.Nat.{zero-lt-suc}
use native.Mathlib.Decide.{dec_lt}
use native.Mathlib.Omega.{arith}
use mathlib.Core.Bool.{Bool, true, false, cond}
use lib.ListN.{length}
use lib.Ieee.{Float, lt}
use Rattle.lists.specs.Lists.{upto}
use Rattle.lists.proofs.Tests.{clash}
use Rattle.float.specs.Binary64.{infinity64}
use Rattle.float.proofs.Order.{lt_asym, lt_trans, lt_irrefl, lt_numbers, lt_weak}
use Rattle.map_state.specs.Network.{Network}
use Rattle.optimize.specs.Rounds.{optimize_partition}
use Rattle.infomap.specs.Infomap.{Grouping, none_kept, trial_mark, keep, trials, best_of_three}
use Rattle.run_laws.specs.KeptTrial.{generator_at, trial_at, trial_codelength, Lowest, IsKept}

-- The grouping of trial t, with its mark, rounds and codelength.
unfoldable pub grouping_at : Network → ℕ → ℕ → Grouping
grouping_at net x t = record {
  partition = (trial_at net x t).state.partition;
  mark = trial_mark (trial_at net x t).moved;
  rounds = (trial_at net x t).rounds;
  codelength = trial_codelength net x t;
}

-- None of the three has a codelength below infinity.
abbrev pub NoneBelow : Network → ℕ → Type 0
NoneBelow net x = (s : ℕ) → s < 3 → lt (trial_codelength net x s) infinity64 ≡ false

not_true : (b : Bool) → (b ≡ true → ⊥) → b ≡ false
not_true true f = absurd (f refl)
not_true false f = refl

-- ---- the codelength to beat

-- After a trial of codelength l there is to beat l, or c as before where l is not below it.
data ToBeat (l c : Float) : Float → Type 0 where
  lower : lt l c ≡ true → ToBeat l c l
  same : lt l c ≡ false → ToBeat l c c

beat_both : {l c d : Float} (k : Float) → ToBeat l c d → lt k d ≡ true → lt k c ≡ true
beat_both {l} {c} k (lower a) e = lt_trans k l c e a
beat_both k (same a) e = e

beat_first : {l c d : Float} (k : Float) → ToBeat l c d → lt k d ≡ true → lt l k ≡ false
beat_first {l} k (lower a) e = lt_asym k l e
beat_first {l} {c} k (same a) e = not_true (lt l k) (λ b. clash (lt l c) (lt_trans l k c b e) a)

not_lowest : {l c d : Float} (k : Float) → ToBeat l c d → lt k d ≡ true → lt l c ≡ true → lt k l ≡ false → ⊥
not_lowest {l} k (lower a) e b f = clash (lt k l) e f
not_lowest {l} {c} k (same a) e b f = clash (lt l c) b a

lowest_below : {l c d : Float} (k j : Float) → ToBeat l c d → lt k d ≡ true → lt j c ≡ true → lt k j ≡ false → lt j d ≡ true
lowest_below {l} {c} k j (lower a) e b f = pick (lt_weak k j l (lt_numbers j c b).0 e)
  where
    pick : (lt k j ≡ true) ⊎ (lt j l ≡ true) → lt j l ≡ true
    pick (inl g) = clash (lt k j) g f
    pick (inr g) = g
lowest_below k j (same a) e b f = b

-- ---- so many trials, after something kept whose codelength is c

-- Of m trials, t's codelength is below c and above none of theirs.
record LowestOf (net : Network) (x m : ℕ) (c : Float) (t : ℕ) : Type 0 where
  pub below : lt (trial_codelength net x t) c ≡ true
  pub least : (s : ℕ) → s < m → lt (trial_codelength net x s) (trial_codelength net x t) ≡ false

-- t is the first such, and k is its grouping.
record FirstOf (net : Network) (x m : ℕ) (c : Float) (k : Grouping) : Type 0 where
  pub t : ℕ
  pub one : t < m
  pub lowest : LowestOf net x m c t
  pub first : (s : ℕ) → s < t → LowestOf net x m c s → ⊥
  pub is : k ≡ grouping_at net x t

-- Or none is, and what was kept before is kept.
abbrev Result : Network → ℕ → ℕ → Grouping → Grouping → Type 0
Result net x m k end = ((end ≡ k) × ((s : ℕ) → s < m → lt (trial_codelength net x s) k.codelength ≡ false)) ⊎ FirstOf net x m k.codelength end

module _ (net : Network) (x : ℕ) where
  abbrev L : ℕ → Float
  L t = trial_codelength net x t

  -- the generator's state after the first trial
  abbrev next : ℕ
  next = (optimize_partition net x).rng

  later_length : (t : ℕ) → trial_codelength net next t ≡ L (suc t)
  unfolding trial_codelength trial_at generator_at
  later_length t = refl

  later_grouping : (t : ℕ) → grouping_at net next t ≡ grouping_at net x (suc t)
  unfolding grouping_at trial_codelength trial_at generator_at
  later_grouping t = refl

  -- all of suc m trials, from the first and the others
  each : (m : ℕ) (P : Float → Type 0) → P (L 0) → ((s : ℕ) → s < m → P (trial_codelength net next s)) → (s : ℕ) → s < suc m → P (L s)
  each m P a f zero h = a
  each m P a f (suc s) h = subst P (later_length s) (f s (omega arith))

  -- the first trial is kept where none of the others is below it
  first_kept : (m : ℕ) (c : Float) (end : Grouping) → lt (L 0) c ≡ true → end ≡ grouping_at net x 0 → ((s : ℕ) → s < m → lt (trial_codelength net next s) (L 0) ≡ false) → FirstOf net x (suc m) c end
  first_kept m c end a e f = record {
    t = 0;
    one = zero-lt-suc m;
    lowest = record { below = a; least = each m (λ l. lt l (L 0) ≡ false) (lt_irrefl (L 0)) f };
    first = λ s h. absurd (omega arith);
    is = e;
  }

  -- a later trial is kept
  later_kept : (m : ℕ) (c d : Float) (end : Grouping) → ToBeat (L 0) c d → FirstOf net next m d end → FirstOf net x (suc m) c end
  later_kept m c d end w r = record {
    t = suc r.t;
    one = omega (arith, r.one);
    lowest = record { below = beat_both (L (suc r.t)) w low; least = each m (λ l. lt l (L (suc r.t)) ≡ false) (beat_first (L (suc r.t)) w low) others };
    first = first;
    is = r.is ∙ later_grouping r.t;
  }
    where
      low : lt (L (suc r.t)) d ≡ true
      low = subst (λ (l : Float). lt l d ≡ true) (later_length r.t) r.lowest.below

      others : (s : ℕ) → s < m → lt (trial_codelength net next s) (L (suc r.t)) ≡ false
      others s h = subst (λ (l : Float). lt (trial_codelength net next s) l ≡ false) (later_length r.t) (r.lowest.least s h)

      least : (s : ℕ) → LowestOf net x (suc m) c s → lt (L (suc r.t)) (L s) ≡ false
      least s z = z.least (suc r.t) (omega (arith, r.one))

      first : (s : ℕ) → s < suc r.t → LowestOf net x (suc m) c s → ⊥
      first zero h z = not_lowest (L (suc r.t)) w low z.below (least 0 z)
      first (suc s) h z = r.first s (omega arith) (record {
        below = subst (λ (l : Float). lt l d ≡ true) (sym (later_length s)) (lowest_below (L (suc r.t)) (L (suc s)) w low z.below (least (suc s) z));
        least = λ i k. subst (λ (l : Float). lt l (trial_codelength net next s) ≡ false) (sym (later_length i)) (subst (λ (l : Float). lt (L (suc i)) l ≡ false) (sym (later_length s)) (z.least (suc i) (omega arith)));
      })

  abbrev one_more : Grouping → Bool → Grouping
  one_more k b = cond b (grouping_at net x 0) k

  keep_is : (k : Grouping) → keep net k (optimize_partition net x) ≡ one_more k (lt (L 0) k.codelength)
  unfolding keep grouping_at trial_codelength trial_at generator_at
  keep_is k = refl

  length_is : (grouping_at net x 0).codelength ≡ L 0
  unfolding grouping_at
  length_is = refl

  after_first : (m : ℕ) (k end : Grouping) (b : Bool) → lt (L 0) k.codelength ≡ b → Result net next m (one_more k b) end → Result net x (suc m) k end
  after_first m k end true a (inl r) = inr (first_kept m k.codelength end a r.0 (λ s h. subst (λ (l : Float). lt (trial_codelength net next s) l ≡ false) length_is (r.1 s h)))
  after_first m k end true a (inr r) = inr (later_kept m k.codelength (grouping_at net x 0).codelength end (subst (λ (l : Float). ToBeat (L 0) k.codelength l) (sym length_is) (lower a)) r)
  after_first m k end false a (inl r) = inl (r.0, each m (λ l. lt l k.codelength ≡ false) a r.1)
  after_first m k end false a (inr r) = inr (later_kept m k.codelength k.codelength end (same a) r)

trials_result : (net : Network) (m x : ℕ) (k : Grouping) → Result net x m k (trials net m x k)
unfolding trials
trials_result net zero x k = inl (refl, λ s h. absurd (omega arith))
trials_result net (suc m) x k =
    after_first net x m k (trials net m (optimize_partition net x).rng (keep net k (optimize_partition net x))) (lt (trial_codelength net x 0) k.codelength) refl
    (subst (λ (z : Grouping). Result net (optimize_partition net x).rng m z (trials net m (optimize_partition net x).rng (keep net k (optimize_partition net x)))) (keep_is net x k)
    (trials_result net m (optimize_partition net x).rng (keep net k (optimize_partition net x))))

-- ---- the best of three

-- Trial t is a trial on some state of the generator.
pub trial_is : (net : Network) (x t : ℕ) → (y : ℕ) × (trial_at net x t ≡ optimize_partition net y)
unfolding trial_at
trial_is net x t = (generator_at net x t, refl)

-- There is a kept trial, and `moved` is what its last round told.
pub record KeptWith (net : Network) (x : ℕ) (moved : Bool) : Type 0 where
  pub trial : ℕ
  pub is : IsKept net x trial
  pub last : (trial_at net x trial).moved ≡ moved

-- What there is before the first trial.
abbrev pub by_itself : Network → Grouping
by_itself net = record { partition = upto (length net.strength); mark = none_kept; rounds = 0; codelength = infinity64 }

-- What the best of three is: the kept trial's grouping, or, with no trial below infinity, each node by itself.
pub data Best (net : Network) (x : ℕ) (k : Grouping) : Type 0 where
  kept : (t : ℕ) → IsKept net x t → k ≡ grouping_at net x t → Best net x k
  none : NoneBelow net x → k ≡ by_itself net → Best net x k

-- The best of three is one or the other.
pub best_is : (net : Network) (x : ℕ) → Best net x (best_of_three net x)
unfolding best_of_three
best_is net x = pick (trials_result net 3 x (by_itself net))
  where
    lowest_of : (t : ℕ) → LowestOf net x 3 infinity64 t → Lowest net x t
    lowest_of t l = record { below_infinity = l.below; least = l.least }

    of_lowest : (t : ℕ) → Lowest net x t → LowestOf net x 3 infinity64 t
    of_lowest t l = record { below = l.below_infinity; least = l.least }

    pick : Result net x 3 (by_itself net) (trials net 3 x (by_itself net)) → Best net x (trials net 3 x (by_itself net))
    pick (inl r) = none r.1 r.0
    pick (inr r) = kept r.t (record { one = r.one; lowest = lowest_of r.t r.lowest; first = λ s h l. r.first s h (of_lowest s l) }) r.is

-- Only one trial is the kept one.
pub kept_once : (net : Network) (x t s : ℕ) → IsKept net x t → IsKept net x s → t ≡ s
kept_once net x t s p q = pick (dec_lt t s) (dec_lt s t)
  where
    pick : Dec (t < s) → Dec (s < t) → t ≡ s
    pick (yes a) b = absurd (q.first t a p.lowest)
    pick (no a) (yes b) = absurd (p.first s b q.lowest)
    pick (no a) (no b) = omega arith

-- The best of three is the grouping of any trial that is the kept one.
pub best_kept : (net : Network) (x t : ℕ) → IsKept net x t → best_of_three net x ≡ grouping_at net x t
best_kept net x t k = pick (best_is net x)
  where
    pick : Best net x (best_of_three net x) → best_of_three net x ≡ grouping_at net x t
    pick (kept s i e) = e ∙ ap (grouping_at net x) (kept_once net x s t i k)
    pick (none n e) = clash (lt (trial_codelength net x t) infinity64) k.lowest.below_infinity (n t k.one)
