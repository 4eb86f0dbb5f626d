-- A round from its parts, and the rounds one after the other.
use mathlib.Core.Path.{◌≡◌, refl, sym, ap, subst, ◌∙◌}
use mathlib.Core.Bool.{Bool, true, false}
use mathlib.Core.List.{List}
use Prim.Native.Nat.{ℕ, zero, suc, ◌+◌, ◌-◌, ◌<◌, ◌≤◌}
use native.Mathlib.Omega.{arith}
use lib.ListN.{length}
use Rattle.map_state.specs.Network.{Network}
use Rattle.scan.specs.Scan.{scan, isolate}
use Rattle.rng.specs.Rng.{Shuffled, shuffle, order}
use Rattle.lists.specs.Lists.{upto}
-- Named so that the examples are checked before these lemmas.
use Rattle.optimize.specs.Examples
use Rattle.optimize.specs.Rounds.{Pass, Run, pass, round, run_rounds, visits}
use Rattle.optimize.specs.Steps.{last_visits_from, AtMost}
use Rattle.rng.proofs.Visits.{order_length}
use Rattle.optimize.proofs.Passes.{pass_length}
use Rattle.optimize.proofs.Numbers.{move_pass_at_most, isolation_pass_at_most}

pub round_is : (n : Network) (r : Run) {k : ℕ} {o : List ℕ} {x : ℕ} {v w : Pass} → k ≡ length n.strength → shuffle r.rng (upto k) ≡ record { list = o; rng = x }
    → v ≡ pass scan n (record { state = r.state; moved = false }) o → w ≡ pass isolate n v o
    → ◌≡◌ {A = Run} (record { state = w.state; rng = x; rounds = r.rounds + 1; moved = w.moved }) (round n r)
unfolding round
round_is n r h e p q = rw (q, p, ← h, e)

pub round_at_most : (b : ℕ) (n : Network) (r : Run) → AtMost b r.state.partition → AtMost (b + length n.strength) (round n r).state.partition
unfolding round
round_at_most b n r f =
    let o = (shuffle r.rng (upto (length n.strength))).list in
    rw (order_length r.rng (length n.strength)) at
    (isolation_pass_at_most b n (pass scan n (record { state = r.state; moved = false }) o) o (move_pass_at_most b n (record { state = r.state; moved = false }) o f))

pub round_counts : (n : Network) (r : Run) → (round n r).rounds ≡ r.rounds + 1
unfolding round
round_counts n r = refl

-- a run that has come to rest stays as it is
rest : (n : Network) (k : ℕ) (r : Run) → run_rounds n k false r ≡ r
unfolding run_rounds
rest n zero r = refl
rest n (suc k) r = refl

-- The rounds that are left after i of the 100, from r on: past a round that moved something they give what they gave before it (z), after one that did not
-- they are that round, and at the end there are none.
pub rounds_on : (n : Network) (i : ℕ) (r : Run) {s z : Run} → run_rounds n (100 - i) true r ≡ z → i < 100 → s ≡ round n r → s.moved ≡ true → run_rounds n (100 - (i + 1)) true s ≡ z
unfolding run_rounds
rounds_on n i r {z = z} f h p m =
    let o : 100 - i ≡ suc (100 - (i + 1)) = omega arith in
    let e : (round n r).moved ≡ true = rw (← p) m in
    let g : run_rounds n (100 - (i + 1)) (round n r).moved (round n r) ≡ z = rw o at f in
    rw p (subst (λ (b : Bool). run_rounds n (100 - (i + 1)) b (round n r) ≡ z) e g)

pub rounds_rest : (n : Network) (i : ℕ) (r : Run) → i < 100 → (round n r).moved ≡ false → run_rounds n (100 - i) true r ≡ round n r
unfolding run_rounds
rounds_rest n i r h e =
    let o : 100 - i ≡ suc (100 - (i + 1)) = omega arith in
    rw o (subst (λ (b : Bool). run_rounds n (100 - (i + 1)) b (round n r) ≡ round n r) (sym e) (rest n (100 - (i + 1)) (round n r)))

pub rounds_end : (n : Network) (i : ℕ) (r : Run) → 100 ≤ i → run_rounds n (100 - i) true r ≡ r
unfolding run_rounds
rounds_end n i r h =
    let o : 100 - i ≡ 0 = omega arith in
    rw o

pub moved_at_most : (b : ℕ) (n : Network) (w : Pass) (us : List ℕ) {v : Pass} → v ≡ pass scan n w us → AtMost b w.state.partition → AtMost b v.state.partition
moved_at_most b n w us e f = rw e (move_pass_at_most b n w us f)

pub run_at_most : (b : ℕ) (n : Network) (r : Run) {s : Run} → s ≡ round n r → AtMost b r.state.partition → AtMost (b + length n.strength) s.state.partition
run_at_most b n r e f = rw e (round_at_most b n r f)

pub run_counts : (n : Network) (r : Run) {s : Run} → s ≡ round n r → s.rounds ≡ r.rounds + 1
run_counts n r e = ap (λ (q : Run). q.rounds) e ∙ round_counts n r

-- ---- the order of visiting

pub visits_is : (n : Network) (r : Run) {k x : ℕ} {o : List ℕ} → k ≡ length n.strength → order r.rng k ≡ record { list = o; rng = x } → o ≡ visits n r
visits_is n r p e = sym (ap (λ (s : Shuffled). s.list) e) ∙ ap (λ (z : ℕ). (order r.rng z).list) p

visits_kept : (n : Network) (k : ℕ) (r : Run) (o : List ℕ) → last_visits_from n k false r o ≡ o
unfolding last_visits_from
visits_kept n zero r o = refl
visits_kept n (suc k) r o = refl

pub visits_on : (n : Network) (i : ℕ) (r : Run) (o : List ℕ) {s : Run} {o' z : List ℕ} → last_visits_from n (100 - i) true r o ≡ z → i < 100 → s ≡ round n r → s.moved ≡ true → o' ≡ visits n r
    → last_visits_from n (100 - (i + 1)) true s o' ≡ z
unfolding last_visits_from
visits_on n i r o {z = z} f h p m v =
    let k : 100 - i ≡ suc (100 - (i + 1)) = omega arith in
    let e : (round n r).moved ≡ true = rw (← p) m in
    let g : last_visits_from n (100 - (i + 1)) (round n r).moved (round n r) (visits n r) ≡ z = rw k at f in
    rw (p, v) (subst (λ (b : Bool). last_visits_from n (100 - (i + 1)) b (round n r) (visits n r) ≡ z) e g)

pub visits_rest : (n : Network) (i : ℕ) (r : Run) (o : List ℕ) → i < 100 → (round n r).moved ≡ false → last_visits_from n (100 - i) true r o ≡ visits n r
unfolding last_visits_from
visits_rest n i r o h e =
    let k : 100 - i ≡ suc (100 - (i + 1)) = omega arith in
    rw k (subst (λ (b : Bool). last_visits_from n (100 - (i + 1)) b (round n r) (visits n r) ≡ visits n r) (sym e) (visits_kept n (100 - (i + 1)) (round n r) (visits n r)))

pub visits_end : (n : Network) (i : ℕ) (r : Run) (o : List ℕ) → 100 ≤ i → last_visits_from n (100 - i) true r o ≡ o
unfolding last_visits_from
visits_end n i r o h =
    let k : 100 - i ≡ 0 = omega arith in
    rw k

-- ---- a round keeps the number of nodes

pub round_length : (n : Network) (r : Run) → length (round n r).state.partition ≡ length r.state.partition
unfolding round
round_length n r =
    let o = (shuffle r.rng (upto (length n.strength))).list in
    pass_length isolate n (pass scan n (record { state = r.state; moved = false }) o) o ∙ pass_length scan n (record { state = r.state; moved = false }) o
