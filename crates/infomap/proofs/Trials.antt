-- A trial kept or not, and the trials one after the other.
use mathlib.Core.Path.{◌≡◌, sym, ap, ◌∙◌}
use mathlib.Core.Bool.{true, false}
use mathlib.Core.List.{List, ◌++◌}
use Prim.Native.Nat.{ℕ, suc, ◌+◌, ◌-◌, ◌<◌, ◌≤◌}
use native.Mathlib.Omega.{arith}
use lib.ListN.{length, take, replicate}
use lib.Seq.{length-take-le, take_at}
use lib.Ieee.{Float, lt}
use Rattle.lists.specs.Lists.{upto}
use Rattle.float.specs.Binary64.{zero64}
use Rattle.rng.specs.Rng.{seeded}
use Rattle.map_state.specs.Network.{Network, network}
use Rattle.map_state.proofs.Rows.{length_network}
use Rattle.codelength.specs.Codelength.{codelength}
use Rattle.optimize.specs.Rounds.{Run, optimize_partition}
use Rattle.infomap.specs.declared.Kept.{Kept}
use Rattle.infomap.specs.Steps.{grouping_of}
use Rattle.infomap.specs.Infomap.{Grouping, RunMark, rest, trial_mark, keep, trials, best_of_three, kept_grouping, relabel_dense, run_infomap}

module _ (n : Network) (k : Grouping) (s : Run) {l : Float} (len : l ≡ codelength n s.state.partition) where
  pub keep_yes : {m : RunMark} {best : List ℕ} → lt l k.codelength ≡ true → best ≡ s.state.partition → m ≡ trial_mark s.moved
      → ◌≡◌ {A = Grouping} (record { partition = best; mark = m; rounds = s.rounds; codelength = l }) (keep n k s)
  unfolding keep
  keep_yes t b m =
      let c : lt (codelength n s.state.partition) k.codelength ≡ true = rw (sym len) t in
      rw (c, b, m, len)

  pub keep_no : lt l k.codelength ≡ false → k ≡ keep n k s
  unfolding keep
  keep_no t =
      let c : lt (codelength n s.state.partition) k.codelength ≡ false = rw (sym len) t in
      rw c

-- the first of the three trials
pub trials_first : (n : Network) (x : ℕ) (k : Grouping) {x' : ℕ} {k' : Grouping} → x' ≡ (optimize_partition n x).rng → k' ≡ keep n k (optimize_partition n x) → trials n 2 x' k' ≡ trials n 3 x k
unfolding trials
trials_first n x k p q = rw (p, q)

-- one of m trials more, after i of them
pub trials_on : (n : Network) (m i x : ℕ) (k : Grouping) {x' : ℕ} {k' : Grouping} → i < m → x' ≡ (optimize_partition n x).rng → k' ≡ keep n k (optimize_partition n x) → trials n (m - (i + 1)) x' k' ≡ trials n (m - i) x k
unfolding trials
trials_on n m i x k h p q =
    let s : m - i ≡ suc (m - (i + 1)) = omega arith in
    rw (p, q, s)

pub trials_end : (n : Network) (m i x : ℕ) (k : Grouping) → m ≤ i → k ≡ trials n (m - i) x k
unfolding trials
trials_end n m i x k h =
    let s : m - i ≡ 0 = omega arith in
    rw s

-- ---- with and without links
pub kept_links : (n : Network) (seed : ℕ) {k : Grouping} → lt zero64 n.d ≡ true → k ≡ best_of_three n (seeded seed) → k ≡ kept_grouping n seed
unfolding kept_grouping
kept_links n seed h e = e ∙ rw h

pub kept_none : (n : Network) (seed c : ℕ) {part : List ℕ} → lt zero64 n.d ≡ false → c ≡ length n.strength → part ≡ upto c → ◌≡◌ {A = Grouping} (record { partition = part; mark = rest; rounds = 0; codelength = zero64 }) (kept_grouping n seed)
unfolding kept_grouping
kept_none n seed c h p e = rw (h, e, p)

-- in front of 512 numbers, as many as the network has nodes
pub nodes_front : (t : List Float) (m k : ℕ) {net : Network} → net ≡ network t m k → k ≤ 512 → length {A = ℕ} (take k (replicate 512 0)) ≡ length net.strength
nodes_front t m k e h = length-take-le k (replicate 512 0) h ∙ sym (ap (λ (x : Network). length x.strength) e ∙ length_network t m k)

pub run_is : (n : Network) (seed k : ℕ) (r : Kept) (best end : List ℕ) {labels : List ℕ} {net : Network} → net ≡ n → grouping_of best r ≡ kept_grouping net seed → labels ≡ relabel_dense (take k (best ++ end))
    → length best ≡ length {A = ℕ} (take k (replicate 512 0)) → k ≤ 512 → grouping_of labels r ≡ run_infomap n seed
unfolding run_infomap
run_is n seed k r best end e g d l h =
    let o : take k (best ++ end) ≡ best = take_at best end k (l ∙ length-take-le k (replicate 512 0) h) in
    rw (d, o, ← e, ← g)
