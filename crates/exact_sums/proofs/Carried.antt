-- The sums that the run carries are those made afresh, and so is the change of codelength that it works out.
use mathlib.Core.Path.{◌≡◌, refl, sym, ap, ◌∙◌, subst}
use mathlib.Core.Logic.{◌≢◌}
use mathlib.Core.Bool.{true}
use mathlib.Core.List.{List}
use Prim.Native.Nat.{ℕ, ◌+◌, ◌-◌, ◌^◌, ◌<◌, ◌≤◌}
use native.Mathlib.Nat.{le_trans}
use native.Mathlib.Decide.{ℕ_discrete, dec_lt}
use native.Mathlib.Omega.{arith}
use borrow.Author.Tests.{eqb-true}
use lib.ListN.{length, get_or, set, length-set}
use lib.Ieee.{Float, nan}
use Rattle.lists.proofs.Sums.{sum}
use Rattle.float.specs.Binary64.{whole64, zero64}
use Rattle.float.proofs.Exact.{whole_add, whole_sub, add_minus_minus, add_plus_minus}
use Rattle.map_state.specs.Network.{Network, row}
use Rattle.map_state.specs.MapState.{MapState, lowest, leads, stats_at, stats_of, sum_q, link_weights, after_move, moved_from, moved_by, delta_from, delta_move, apply_move}
use Rattle.map_state.specs.declared.ModuleStats.{ModuleStats}
use Rattle.map_state.specs.declared.Moved.{Moved}
use Rattle.lists.proofs.Maps.{get_or_inside}
use Rattle.map_state.proofs.Groups as groups
use Rattle.codelength.specs.Codelength.{from_partition}
use Rattle.exact_sums.proofs.Whole.{wholes, WholeWeights, into, out_of, aside, exit_of, strength_of, whole_stats}
use Rattle.exact_sums.proofs.WholeSums.{into_le, out_le, out_split, aside_sym, whole_links, links_whole}
use Rattle.exact_sums.proofs.WholeMoves.{row_le, exit_le, strength_le, exit_left, exit_joined, exit_other, strength_left, strength_joined, strength_other}
use Rattle.exact_sums.proofs.Afresh.{stats_path, stats_empty, afresh_long_e, afresh_long_s, afresh_stats}

-- What the run's state has, where the weights are the whole numbers w.
pub record Carried (net : Network) (w : ℕ → ℕ → ℕ) (s : MapState) : Type 0 where
  pub long : length s.partition ≡ length net.strength
  pub long_e : length s.exits ≡ length s.partition
  pub long_s : length s.strengths ≡ length s.partition
  pub stats : (g : ℕ) → stats_of s g ≡ whole_stats w s.partition g
  pub q : s.q_sum ≡ sum_q net.d s.partition s.exits

-- ---- the state made afresh

pub carried_afresh : (net : Network) (w : ℕ → ℕ → ℕ) → WholeWeights net w → (part : List ℕ) → length part ≡ length net.strength → Carried net w (from_partition net part)
unfolding from_partition
carried_afresh net w ww part long = record {
  long = long;
  long_e = afresh_long_e net w ww part long;
  long_s = afresh_long_s net w ww part long;
  stats = afresh_stats net w ww part long;
  q = refl;
}

-- ---- a move of u to another group h
module _ (net : Network) (w : ℕ → ℕ → ℕ) (ww : WholeWeights net w) (s : MapState) (c : Carried net w s) (u h : ℕ) (hu : u < length s.partition) (d : h ≢ get_or s.partition u 0) where
  abbrev part : List ℕ
  part = s.partition

  abbrev g : ℕ
  g = get_or part u 0

  abbrev after : List ℕ
  after = set part u h

  d' : g ≢ h
  d' e = d (sym e)

  both : (u v : ℕ) → u < length part → v < length part → w u v ≡ w v u
  both x y p q = ww.both x y (subst (λ (m : ℕ). x < m) c.long p) (subst (λ (m : ℕ). y < m) c.long q)

  none : (u : ℕ) → u < length part → w u u ≡ 0
  none x p = ww.none x (subst (λ (m : ℕ). x < m) c.long p)

  small : sum (length part) (λ u. sum (length part) (w u)) ≤ 2 ^ 52
  small = subst (λ (m : ℕ). sum m (λ u. sum m (w u)) ≤ 2 ^ 52) (sym c.long) ww.small

  row_small : sum (length part) (w u) ≤ 2 ^ 52
  row_small = le_trans (row_le w (length part) u hu) small

  links : link_weights g h part (row net u) ≡ whole_links (into part g (w u)) (into part h (w u)) (aside part g h (w u))
  links =
      ap (link_weights g h part) (ww.rows u (subst (λ (m : ℕ). u < m) c.long hu) ∙ ap (λ (m : ℕ). wholes m (w u)) (sym c.long))
      ∙ links_whole g h d' part (w u) (let a = row_small in omega arith)

  strength_u : get_or net.strength u nan ≡ whole64 (sum (length part) (w u))
  strength_u = ww.strengths u (subst (λ (m : ℕ). u < m) c.long hu) ∙ ap (λ (m : ℕ). whole64 (sum m (w u))) (sym c.long)

  -- The move in whole numbers.
  moved_is : moved_by net s u h ≡ after_move (whole_links (into part g (w u)) (into part h (w u)) (aside part g h (w u))) (whole64 (sum (length part) (w u))) (whole_stats w part g) (whole_stats w part h)
  unfolding moved_from
  moved_is = λ i. after_move (links i) (strength_u i) (c.stats g i) (c.stats h i)

  abbrev a : ℕ
  a = into part g (w u)

  abbrev b : ℕ
  b = into part h (w u)

  abbrev o : ℕ
  o = aside part g h (w u)

  split_g : b + o ≡ out_of part g (w u)
  split_g = out_split part g h (w u) d'

  split_h : a + o ≡ out_of part h (w u)
  split_h = ap (λ (z : ℕ). a + z) (aside_sym part g h (w u)) ∙ out_split part h g (w u) d

  src_exit : (moved_by net s u h).src.exit ≡ whole64 (exit_of w after g)
  unfolding after_move
  src_exit =
      ap (λ (m : Moved). m.src.exit) moved_is
      ∙ add_minus_minus (exit_of w part g) a b o (let z = exit_le w part g in let y = small in omega arith) (let z = into_le part g (w u) in let y = row_small in omega arith)
      (let z = out_le part g (w u) in let y = row_small in let x = split_g in omega arith) (let z = exit_left w part both none u h hu d in let x = split_g in omega arith)
      ∙ ap whole64 (let z = exit_left w part both none u h hu d in let x = split_g in let r : exit_of w part g + a - (b + o) ≡ exit_of w after g = omega arith in r)

  dest_exit : (moved_by net s u h).dest.exit ≡ whole64 (exit_of w after h)
  unfolding after_move
  dest_exit =
      ap (λ (m : Moved). m.dest.exit) moved_is
      ∙ add_plus_minus (exit_of w part h) a b o (let z = exit_le w part h in let y = small in omega arith) (let z = out_le part h (w u) in let y = row_small in let x = split_h in omega arith)
      (let z = into_le part h (w u) in let y = row_small in omega arith) (let z = exit_joined w part both none u h hu d in let x = split_h in omega arith)
      ∙ ap whole64 (let z = exit_joined w part both none u h hu d in let x = split_h in let r : exit_of w part h + (a + o) - b ≡ exit_of w after h = omega arith in r)

  src_strength : (moved_by net s u h).src.strength ≡ whole64 (strength_of w after g)
  unfolding after_move
  src_strength =
      ap (λ (m : Moved). m.src.strength) moved_is
      ∙ whole_sub (strength_of w part g) (sum (length part) (w u)) (let z = strength_le w part g in let y = small in omega arith) (let z = strength_left w part both none u h hu d in omega arith)
      ∙ ap whole64 (let z = strength_left w part both none u h hu d in let r : strength_of w part g - sum (length part) (w u) ≡ strength_of w after g = omega arith in r)

  dest_strength : (moved_by net s u h).dest.strength ≡ whole64 (strength_of w after h)
  unfolding after_move
  dest_strength =
      ap (λ (m : Moved). m.dest.strength) moved_is
      ∙ whole_add (strength_of w part h) (sum (length part) (w u)) (let z = strength_le w part h in let y = small in omega arith) (let y = row_small in omega arith)
      ∙ ap whole64 (sym (strength_joined w part both none u h hu d))

  abbrev next : MapState
  next = apply_move net s u h

  same_part : next.partition ≡ after
  unfolding apply_move
  same_part = refl

  len_after : length after ≡ length part
  len_after = length-set part u h

  next_long_e : length next.exits ≡ length part
  unfolding apply_move
  next_long_e = length-set (set s.exits (lowest g after) (moved_by net s u h).src.exit) (lowest h after) (moved_by net s u h).dest.exit ∙ length-set s.exits (lowest g after) (moved_by net s u h).src.exit ∙ c.long_e

  next_long_s : length next.strengths ≡ length part
  unfolding apply_move
  next_long_s =
      length-set (set s.strengths (lowest g after) (moved_by net s u h).src.strength) (lowest h after) (moved_by net s u h).dest.strength ∙ length-set s.strengths (lowest g after) (moved_by net s u h).src.strength
      ∙ c.long_s

  -- The three kinds of group that have members after the move.
  some_stats : (x : ℕ) → lowest x after < length after → Dec (x ≡ h) → Dec (x ≡ g) → stats_at after next.exits next.strengths x ≡ whole_stats w after x
  unfolding apply_move
  some_stats x p (yes e) f = subst (λ (z : ℕ). stats_at after next.exits next.strengths z ≡ whole_stats w after z) (sym e) (unfold stats_at in stats_path
      (groups.exit_to net s u h hu d' c.long_e c.long_s ∙ dest_exit) (groups.strength_to net s u h hu d' c.long_e c.long_s ∙ dest_strength) refl)
  some_stats x p (no e) (yes f) = subst (λ (z : ℕ). lowest z after < length after → stats_at after next.exits next.strengths z ≡ whole_stats w after z) (sym f)
      (λ q. unfold stats_at in stats_path (groups.exit_from net s u h hu d' c.long_e c.long_s q ∙ src_exit) (groups.strength_from net s u h hu d' c.long_e c.long_s q ∙ src_strength) refl) p
  some_stats x p (no e) (no f) = unfold stats_at in stats_path
      (groups.exit_other net s u h hu d' c.long_e c.long_s x f e p ∙ ap (λ (m : ModuleStats). m.exit) (c.stats x) ∙ ap whole64 (sym (exit_other w part both none u h hu d x f e)))
      (groups.strength_other net s u h hu d' c.long_e c.long_s x f e p ∙ ap (λ (m : ModuleStats). m.strength) (c.stats x) ∙ ap whole64 (sym (strength_other w part both none u h hu d x f e))) refl

  all_stats : (x : ℕ) → Dec (lowest x after < length after) → stats_at after next.exits next.strengths x ≡ whole_stats w after x
  all_stats x (yes p) = some_stats x p (ℕ_discrete x h) (ℕ_discrete x g)
  all_stats x (no p) = stats_empty w after next.exits next.strengths x (next_long_e ∙ sym len_after) (next_long_s ∙ sym len_after) (omega arith)

  pub carried_move : Carried net w (apply_move net s u h)
  carried_move = record {
    long = ap length same_part ∙ len_after ∙ c.long;
    long_e = next_long_e ∙ sym (ap length same_part ∙ len_after);
    long_s = next_long_s ∙ sym (ap length same_part ∙ len_after);
    stats = λ x. unfold apply_move in all_stats x (dec_lt (lowest x after) (length after));
    q = unfold apply_move in refl;
  }

-- At a lowest member stands its group's exit weight.
pub exit_at : (w : ℕ → ℕ → ℕ) (part : List ℕ) (exits strengths : List Float) → length exits ≡ length part → ((g : ℕ) → stats_at part exits strengths g ≡ whole_stats w part g) → (i : ℕ) → i < length part → leads part i ≡ true
    → get_or exits i nan ≡ whole64 (exit_of w part (get_or part i 0))
unfolding leads
exit_at w part exits strengths l st i h e =
    let p : lowest (get_or part i 0) part ≡ i = eqb-true (lowest (get_or part i 0) part) i e in
    get_or_inside exits i nan zero64 (subst (λ (m : ℕ). i < m) (sym l) h) ∙ ap (λ (z : ℕ). get_or exits z zero64) (sym p) ∙ (unfold stats_at in ap (λ (m : ModuleStats). m.exit) (st (get_or part i 0)))

-- The change that the run works out is the one made afresh from its partition.
pub change_afresh : (net : Network) (w : ℕ → ℕ → ℕ) → WholeWeights net w → (s : MapState) → Carried net w s → (u h : ℕ) → delta_move net s u h ≡ delta_move net (from_partition net s.partition) u h
unfolding delta_move from_partition
change_afresh net w ww s c u h = λ i. delta_from net s.partition (same_q i) u h (stats (get_or s.partition u 0) i) (stats h i)
  where
    f : Carried net w (from_partition net s.partition)
    f = carried_afresh net w ww s.partition c.long

    stats : (x : ℕ) → stats_of s x ≡ stats_of (from_partition net s.partition) x
    stats x = c.stats x ∙ sym (f.stats x)

    same_q : s.q_sum ≡ (from_partition net s.partition).q_sum
    same_q = c.q ∙ groups.sum_q_ext net.d s.partition s.exits (from_partition net s.partition).exits
        (λ i h l. exit_at w s.partition s.exits s.strengths c.long_e c.stats i h l
        ∙ sym (exit_at w s.partition (from_partition net s.partition).exits (from_partition net s.partition).strengths f.long_e f.stats i h l))
