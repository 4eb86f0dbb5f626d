-- The start of a trial, each node in a group of its own, and the trial from its parts.
use mathlib.Core.Path.{◌≡◌, sym, ap, ◌∙◌}
use mathlib.Core.Bool.{true}
use mathlib.Core.List.{List, [], ◌++◌}
use Prim.Native.Nat.{ℕ, zero, suc, ◌+◌, ◌<◌, ◌≤◌}
use native.Mathlib.Nat.{add-zero}
use native.Mathlib.Omega.{arith}
use borrow.Author.Tests.{eq-eqb, ne_eqb}
use lib.ListN.{length, take}
use Rattle.std.proofs.lemmas.List.{get_or_append_left, take_at}
use Rattle.lists.specs.Lists.{from, upto}
use Rattle.lists.proofs.Upto.{length_upto, get_or_upto}
use Rattle.map_state.specs.Network.{Network}
use Rattle.map_state.specs.MapState.{MapState, lowest}
use Rattle.map_state.specs.Steps.{Firsts}
use Rattle.map_state.proofs.Leaders.{firsts_of_lem}
use Rattle.codelength.specs.Codelength.{from_partition}
use Rattle.optimize.specs.Rounds.{Run, run_rounds, optimize_partition}
use Rattle.optimize.proofs.Numbers.{at_most_more}
use Rattle.optimize.specs.Steps.{last_visits_from, last_visits, AtMost}

lowest_from : (i n v : ℕ) → v < n → lowest (i + v) (from i n) ≡ v
unfolding from lowest
lowest_from i zero v h = absurd (omega arith)
lowest_from i (suc n) zero h = rw (eq-eqb i (i + 0) (sym (add-zero i)))
lowest_from i (suc n) (suc v) h =
    let e : i + suc v ≡ suc i + v = omega arith in
    rw (ne_eqb i (i + suc v) (λ p. omega arith)) (ap suc (ap (λ (x : ℕ). lowest x (from (suc i) n)) e ∙ lowest_from (suc i) n v (omega arith)))

lowest_upto : (n v : ℕ) → v < n → lowest v (upto n) ≡ v
unfolding upto
lowest_upto n v h =
    let e : 0 + v ≡ v = omega arith in
    rw e at (lowest_from 0 n v h)

firsts_upto : (n : ℕ) → Firsts (upto n) (upto n)
unfolding Firsts
firsts_upto n v h =
    let i : v < n = omega (arith, length_upto n) in
    rw (get_or_upto n v i) (sym (lowest_upto n v i))

-- a state that has no nodes yet
pub no_firsts : (first : List ℕ) → Firsts [] first
unfolding Firsts
no_firsts first v h = absurd (omega arith)

-- ---- in the first n places of the code's arrays, which are filled up to there

pub filled : (n : ℕ) (part behind : List ℕ) → part ≡ upto n → take n (part ++ behind) ≡ upto n
filled n part behind p = take_at part behind n (ap length p ∙ length_upto n) ∙ p

pub firsts_filled : (n : ℕ) (part first behind beside : List ℕ) → part ≡ upto n → first ≡ upto n → Firsts (take n (part ++ behind)) (first ++ beside)
unfolding Firsts
firsts_filled n part first behind beside p q v h =
    let t = filled n part behind p in
    let i : v < length (upto n) = rw t at h in
    let j : v < n = omega (arith, length_upto n) in
    rw (t, get_or_append_left first beside 0 v (rw q i), q) (firsts_of_lem (upto n) (upto n) (firsts_upto n) v i)

pub at_most_upto : (n : ℕ) → AtMost n (upto n)
unfolding AtMost
at_most_upto n v h =
    let i : v < n = omega (arith, length_upto n) in
    rw (get_or_upto n v i) (omega arith)

pub at_most_filled : (n : ℕ) {part : List ℕ} → n ≤ 512 → part ≡ upto n → AtMost 512 part
at_most_filled n h p = rw p (at_most_more n 512 (upto n) h (at_most_upto n))

pub optimize_partition_is : (n : Network) (x k : ℕ) {part : List ℕ} {s : MapState} {r : Run} → k ≡ length n.strength → part ≡ upto k → s ≡ from_partition n part → r ≡ run_rounds n 100 true (record { state = s; rng = x; rounds = 0; moved = true }) → r ≡ optimize_partition n x
unfolding optimize_partition
optimize_partition_is n x k h p q e = e ∙ rw (q, p, h)

-- there is a first round, so what the slice held before it does not matter
pub last_visits_is : (n : Network) (x k : ℕ) (o : List ℕ) {part o' : List ℕ} {s : MapState} → k ≡ length n.strength → part ≡ upto k → s ≡ from_partition n part
    → o' ≡ last_visits_from n 100 true (record { state = s; rng = x; rounds = 0; moved = true }) o → o' ≡ last_visits n x
unfolding last_visits last_visits_from
last_visits_is n x k o h p q e = e ∙ rw (q, p, h)
