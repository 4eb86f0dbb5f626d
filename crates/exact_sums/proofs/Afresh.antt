-- The sums that `from_partition` makes are the whole numbers of the partition.
use mathlib.Core.Path.{◌≡◌, refl, sym, ap, ap₂, ◌∙◌, subst}
use mathlib.Core.Bool.{Bool}
use mathlib.Core.List.{List}
use Prim.Native.Nat.{ℕ, zero, suc, ◌+◌, ◌^◌, ◌<◌, ◌≤◌}
use native.Mathlib.Nat.{le_trans, add-zero}
use native.Mathlib.Decide.{ℕ_discrete, dec_lt}
use native.Mathlib.Omega.{arith}
use borrow.Author.Tests.{eq-eqb, ne_eqb}
use lib.Dec.{eqb}
use lib.ListN.{length, get_or, set, length-set, length-replicate, get_or-replicate}
use lib.Seq.{get_or-set_same, get_or-set_other}
use lib.Ieee.{Float, nan}
use Rattle.lists.proofs.Sums.{sum, only, sum_last, sum_more, sum_zero}
use Rattle.float.specs.Binary64.{add64, whole64, zero64}
use Rattle.float.proofs.Exact.{whole_add, zero_whole}
use Rattle.map_state.specs.Network.{Network, row}
use Rattle.map_state.specs.MapState.{lowest, stats_at}
use Rattle.map_state.specs.declared.ModuleStats.{ModuleStats}
use Rattle.lists.proofs.Maps.{get_or_inside}
use Rattle.map_state.proofs.Leaders.{lowest_of, stats_none, count_none}
use Rattle.map_state.proofs.Groups.{apart}
use Rattle.codelength.specs.Codelength.{exit_from, Sums, add_node, add_nodes_from, no_sums, module_sums, from_partition}
use Rattle.exact_sums.proofs.Whole.{wholes, WholeWeights, into, out_of, exit_of, strength_of, whole_stats}
use Rattle.exact_sums.proofs.WholeSums.{exit_whole}
use Rattle.exact_sums.proofs.WholeMoves.{row_le, exit_le, strength_le}

pub stats_path : {e e' s s' : Float} {c c' : ℕ} → e ≡ e' → s ≡ s' → c ≡ c' → ◌≡◌ {A = ModuleStats} (record { exit = e; strength = s; n_nodes = c }) (record { exit = e'; strength = s'; n_nodes = c' })
stats_path p q r = λ i. record { exit = p i; strength = q i; n_nodes = r i }

-- A group without members has no sums.
pub into_none : (part : List ℕ) (g : ℕ) (f : ℕ → ℕ) → length part ≤ lowest g part → into part g f ≡ 0
unfolding into
into_none part g f h = sum_zero (length part) (λ v. only (eqb (get_or part v 0) g) (f v)) (λ v p. ap (λ (b : Bool). only b (f v)) (ne_eqb (get_or part v 0) g (λ e. far v p e)))
  where
    far : (v : ℕ) → v < length part → get_or part v 0 ≡ g → ⊥
    far v p e = let a : lowest g part ≤ v = subst (λ (z : ℕ). lowest z part ≤ v) e (lowest_of part v p) in omega arith

pub stats_empty : (w : ℕ → ℕ → ℕ) (part : List ℕ) (exits strengths : List Float) (g : ℕ) → length exits ≡ length part → length strengths ≡ length part → length part ≤ lowest g part
    → stats_at part exits strengths g ≡ whole_stats w part g
unfolding exit_of strength_of
stats_empty w part exits strengths g p q h =
    sym (stats_none part exits strengths g p q h)
    ∙ stats_path (zero_whole ∙ ap whole64 (sym (into_none part g (λ v. out_of part g (w v)) h))) (zero_whole ∙ ap whole64 (sym (into_none part g (λ v. sum (length part) (w v)) h))) (sym (count_none g part h))

module _ (net : Network) (w : ℕ → ℕ → ℕ) (ww : WholeWeights net w) (part : List ℕ) (long : length part ≡ length net.strength) where
  abbrev n : ℕ
  n = length part

  -- The first k members of g.
  abbrev first : ℕ → ℕ → (ℕ → ℕ) → ℕ
  first k g f = sum k (λ v. only (eqb (get_or part v 0) g) (f v))

  abbrev outs : ℕ → ℕ → ℕ
  outs g v = out_of part g (w v)

  abbrev rows : ℕ → ℕ
  rows v = sum n (w v)

  -- The sums after the first k nodes.
  record After (s : Sums) (k : ℕ) : Type 0 where
    long_e : length s.exits ≡ n
    long_s : length s.strengths ≡ n
    exit : (g : ℕ) → lowest g part < n → get_or s.exits (lowest g part) nan ≡ whole64 (first k g (outs g))
    strength : (g : ℕ) → lowest g part < n → get_or s.strengths (lowest g part) nan ≡ whole64 (first k g rows)

  small : sum n (λ u. sum n (w u)) ≤ 2 ^ 52
  small = subst (λ (m : ℕ). sum m (λ u. sum m (w u)) ≤ 2 ^ 52) (sym long) ww.small

  row_of : (v : ℕ) → v < n → row net v ≡ wholes n (w v)
  row_of v h = subst (λ (m : ℕ). row net v ≡ wholes m (w v)) (sym long) (ww.rows v (subst (λ (m : ℕ). v < m) long h))

  strength_of_lem : (v : ℕ) → v < n → get_or net.strength v nan ≡ whole64 (rows v)
  strength_of_lem v h = subst (λ (m : ℕ). get_or net.strength v nan ≡ whole64 (sum m (w v))) (sym long) (ww.strengths v (subst (λ (m : ℕ). v < m) long h))

  first_exit : (k g : ℕ) → k ≤ n → first k g (outs g) ≤ sum n (λ u. sum n (w u))
  first_exit k g h = le_trans (sum_more k n (λ v. only (eqb (get_or part v 0) g) (outs g v)) h) (unfold exit_of into in exit_le w part g)

  first_strength : (k g : ℕ) → k ≤ n → first k g rows ≤ sum n (λ u. sum n (w u))
  first_strength k g h = le_trans (sum_more k n (λ v. only (eqb (get_or part v 0) g) (rows v)) h) (unfold strength_of into in strength_le w part g)

  -- One node more.
  module _ (s : Sums) (k : ℕ) (a : After s k) (hk : k < n) where
    abbrev g0 : ℕ
    g0 = get_or part k 0

    at : lowest g0 part < n
    at = let b = lowest_of part k hk in omega arith

    row_small : sum n (w k) ≤ 2 ^ 52
    row_small = le_trans (row_le w n k hk) small

    new_exit : exit_from g0 (get_or s.exits (lowest g0 part) nan) part (row net k) ≡ whole64 (first k g0 (outs g0) + outs g0 k)
    new_exit =
        ap₂ (λ (x : Float) (r : List Float). exit_from g0 x part r) (a.exit g0 at) (row_of k hk)
        ∙ exit_whole g0 part (w k) (first k g0 (outs g0)) (let b = first_exit k g0 (omega arith) in let c = small in let d = row_small in omega arith)

    new_strength : add64 (get_or s.strengths (lowest g0 part) nan) (get_or net.strength k nan) ≡ whole64 (first k g0 rows + rows k)
    new_strength =
        ap₂ add64 (a.strength g0 at) (strength_of_lem k hk)
        ∙ whole_add (first k g0 rows) (rows k) (let b = first_strength k g0 (omega arith) in let c = small in omega arith) (let d = row_small in omega arith)

    -- A list of sums with one of them put anew.
    put_anew : (xs : List Float) (x : Float) (f : ℕ → ℕ → ℕ) → length xs ≡ n → x ≡ whole64 (first k g0 (f g0) + f g0 k) → ((g : ℕ) → lowest g part < n → get_or xs (lowest g part) nan ≡ whole64 (first k g (f g)))
        → (g : ℕ) → lowest g part < n → get_or (set xs (lowest g0 part) x) (lowest g part) nan ≡ whole64 (first (suc k) g (f g))
    put_anew xs x f l e old g h = go (ℕ_discrete g g0)
      where
        go : Dec (g ≡ g0) → get_or (set xs (lowest g0 part) x) (lowest g part) nan ≡ whole64 (first (suc k) g (f g))
        go (yes q) =
            ap (λ (z : ℕ). get_or (set xs (lowest g0 part) x) (lowest z part) nan) q ∙ get_or-set_same xs (lowest g0 part) x nan (subst (λ (m : ℕ). lowest g0 part < m) (sym l) at) ∙ e
            ∙ ap whole64 (
            let b = sum_last k (λ v. only (eqb (get_or part v 0) g0) (f g0 v)) in
            let c : only (eqb g0 g0) (f g0 k) ≡ f g0 k = ap (λ (t : Bool). only t (f g0 k)) (eq-eqb g0 g0 refl) in
            let r : first k g0 (f g0) + f g0 k ≡ first (suc k) g0 (f g0) = omega arith in
            r)
            ∙ ap (λ (z : ℕ). whole64 (first (suc k) z (f z))) (sym q)
        go (no q) =
            get_or-set_other xs (lowest g0 part) (lowest g part) x nan (apart g g0 part q h) ∙ old g h
            ∙ ap whole64 (
            let b = sum_last k (λ v. only (eqb (get_or part v 0) g) (f g v)) in
            let c : only (eqb g0 g) (f g k) ≡ 0 = ap (λ (t : Bool). only t (f g k)) (ne_eqb g0 g (λ z. q (sym z))) in
            let r : first k g (f g) ≡ first (suc k) g (f g) = omega arith in
            r)

    after_one : After (add_node net part s k) (suc k)
    unfolding add_node
    after_one = record {
      long_e = length-set s.exits (lowest g0 part) _ ∙ a.long_e;
      long_s = length-set s.strengths (lowest g0 part) _ ∙ a.long_s;
      exit = put_anew s.exits _ outs a.long_e new_exit a.exit;
      strength = put_anew s.strengths _ (λ g. rows) a.long_s new_strength a.strength;
    }

  after_all : (s : Sums) (v k : ℕ) → v + k ≡ n → After s v → After (add_nodes_from net part s v k) n
  unfolding add_nodes_from
  after_all s v zero e a = subst (λ (m : ℕ). After s m) (sym (add-zero v) ∙ e) a
  after_all s v (suc k) e a = after_all (add_node net part s v) (suc v) k (omega arith) (after_one s v a (omega arith))

  after_none : After (no_sums n) 0
  unfolding sum
  after_none = record {
    long_e = length-replicate n zero64;
    long_s = length-replicate n zero64;
    exit = λ g h. get_or-replicate n (lowest g part) zero64 nan h ∙ zero_whole;
    strength = λ g h. get_or-replicate n (lowest g part) zero64 nan h ∙ zero_whole;
  }

  done : After (module_sums net part) n
  unfolding module_sums
  done = after_all (no_sums n) 0 n (omega arith) after_none

  pub afresh_long_e : length (from_partition net part).exits ≡ length part
  unfolding from_partition
  afresh_long_e = done.long_e

  pub afresh_long_s : length (from_partition net part).strengths ≡ length part
  unfolding from_partition
  afresh_long_s = done.long_s

  -- What `from_partition` has for a group.
  pub afresh_stats : (g : ℕ) → stats_at part (from_partition net part).exits (from_partition net part).strengths g ≡ whole_stats w part g
  afresh_stats g = go (dec_lt (lowest g part) n)
    where
      E : List Float
      E = (module_sums net part).exits

      S : List Float
      S = (module_sums net part).strengths

      go : Dec (lowest g part < n) → stats_at part (from_partition net part).exits (from_partition net part).strengths g ≡ whole_stats w part g
      go (yes h) = unfold from_partition stats_at exit_of strength_of into in stats_path
          (get_or_inside E (lowest g part) zero64 nan (subst (λ (m : ℕ). lowest g part < m) (sym done.long_e) h) ∙ done.exit g h)
          (get_or_inside S (lowest g part) zero64 nan (subst (λ (m : ℕ). lowest g part < m) (sym done.long_s) h) ∙ done.strength g h) refl
      go (no h) = stats_empty w part (from_partition net part).exits (from_partition net part).strengths g afresh_long_e afresh_long_s (omega arith)
