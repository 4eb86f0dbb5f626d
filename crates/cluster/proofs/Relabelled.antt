-- Dense labels show the same groups as internal numbers.
use mathlib.Core.Path.{◌≡◌, sym, ap, ◌∙◌, subst}
use mathlib.Core.Bool.{Bool, true, false, cond}
use mathlib.Core.List.{List}
use Prim.Native.Nat.{ℕ, zero, suc, ◌+◌, ◌-◌, ◌<◌, ◌≤◌}
use native.Mathlib.Decide.{dec_lt}
use native.Mathlib.Omega.{arith}
use lib.ListN.{length, get_or, length-map}
use Rattle.lists.proofs.Maps.{get_or_map}
use Rattle.lists.proofs.Tests.{eqb_like}
use Rattle.map_state.specs.MapState.{lowest, leads}
use Rattle.map_state.proofs.Leaders.{lowest_of}
use Rattle.map_state.proofs.Groups.{lowest_at, lowest_leads}
use Rattle.infomap.specs.Infomap.{rank, relabel_dense}
use Rattle.exact_sums.proofs.Whole.{Alike}

rank_rises : (part : List ℕ) (a k : ℕ) → rank part a ≤ rank part (k + a)
unfolding rank
rank_rises part a zero = subst (λ (z : ℕ). rank part a ≤ rank part z) (let q : a ≡ 0 + a = omega arith in q) (omega arith)
rank_rises part a (suc k) =
    subst (λ (z : ℕ). rank part a ≤ rank part z) (let q : suc (k + a) ≡ suc k + a = omega arith in q) (go (leads part (k + a)) (rank_rises part a k))
  where
    go : (b : Bool) → rank part a ≤ rank part (k + a) → rank part a ≤ cond b (suc (rank part (k + a))) (rank part (k + a))
    go true h = omega arith
    go false h = h

-- The groups with a first member below b that is above a's: a leads, so it counts.
rank_above : (part : List ℕ) (a b : ℕ) → leads part a ≡ true → a < b → rank part a < rank part b
rank_above part a b l h =
    let r : rank part (suc a) ≡ suc (rank part a) = one in
    let s : rank part (suc a) ≤ rank part b = subst (λ (z : ℕ). rank part (suc a) ≤ rank part z) (let q : (b - suc a) + suc a ≡ b = omega arith in q) (rank_rises part (suc a) (b - suc a)) in
    omega arith
  where
    one : rank part (suc a) ≡ suc (rank part a)
    one = unfold rank in ap (λ (t : Bool). cond t (suc (rank part a)) (rank part a)) l

-- The lowest member of a node's group leads it.
leads_of : (part : List ℕ) (v : ℕ) → v < length part → leads part (lowest (get_or part v 0) part) ≡ true
leads_of part v h = let a = lowest_of part v h in lowest_leads (get_or part v 0) part (omega arith)

-- Two nodes with one label are in one group.
same_group : (part : List ℕ) (v x : ℕ) → v < length part → x < length part → rank part (lowest (get_or part v 0) part) ≡ rank part (lowest (get_or part x 0) part) → get_or part v 0 ≡ get_or part x 0
same_group part v x h k e = go (dec_lt a b) (dec_lt b a)
  where
    a : ℕ
    a = lowest (get_or part v 0) part

    b : ℕ
    b = lowest (get_or part x 0) part

    go : Dec (a < b) → Dec (b < a) → get_or part v 0 ≡ get_or part x 0
    go (yes p) q = absurd (let r = rank_above part a b (leads_of part v h) p in omega arith)
    go (no p) (yes q) = absurd (let r = rank_above part b a (leads_of part x k) q in omega arith)
    go (no p) (no q) =
        let s : a ≡ b = omega arith in
        let av = lowest_of part v h in
        let bx = lowest_of part x k in
        sym (lowest_at (get_or part v 0) part (omega arith)) ∙ ap (λ (z : ℕ). get_or part z 0) s ∙ lowest_at (get_or part x 0) part (omega arith)

pub relabel_at : (part : List ℕ) (v : ℕ) → v < length part → get_or (relabel_dense part) v 0 ≡ rank part (lowest (get_or part v 0) part)
unfolding relabel_dense
relabel_at part v h = get_or_map (λ (g : ℕ). rank part (lowest g part)) part v 0 0 h

pub relabel_long : (part : List ℕ) → length (relabel_dense part) ≡ length part
unfolding relabel_dense
relabel_long part = length-map part (λ g. rank part (lowest g part))

pub relabel_alike : (part : List ℕ) → Alike part (relabel_dense part)
relabel_alike part = record {
  long = relabel_long part;
  groups = λ v x h k. eqb_like (get_or part v 0) (get_or part x 0) (get_or (relabel_dense part) v 0) (get_or (relabel_dense part) x 0)
      (λ e. relabel_at part v h ∙ ap (λ (z : ℕ). rank part (lowest z part)) e ∙ sym (relabel_at part x k))
      (λ e. same_group part v x h k (sym (relabel_at part v h) ∙ e ∙ relabel_at part x k));
}
