-- What a move makes of the groups: sums that stand at the lowest member behave as a table by group number, and those that stand at
-- other nodes are not read.
use mathlib.Core.Path.{◌≡◌, refl, sym, ap, ap₂, ◌∙◌}
use mathlib.Core.Bool.{Bool, true, false, cond}
use mathlib.Core.List.{List, [], ◌∷◌}
use mathlib.Core.Logic.{◌≢◌}
use Prim.Native.Nat.{ℕ, zero, suc, ◌+◌, ◌<◌, ◌≤◌}
use native.Mathlib.Decide.{dec_lt}
use native.Mathlib.Omega.{arith}
use borrow.Author.Tests.{eqb-true, eq-eqb}
use lib.Dec.{eqb}
use lib.ListN.{length, get_or, set, length-set, get_or-eq_default}
use lib.Seq.{get_or-set_same, get_or-set_other}
use lib.Ieee.{Float, nan}
use Rattle.float.specs.Binary64.{add64, div64, zero64}
use Rattle.map_state.specs.Network.{Network}
use Rattle.map_state.specs.MapState.{MapState, stats_of, stats_at, moved_by, apply_move, lowest, count, leads, sum_q_from, sum_q}
use Rattle.map_state.specs.declared.ModuleStats.{ModuleStats}
use Rattle.map_state.proofs.Leaders.{lowest_of, lowest_other}

-- where a group's lowest member stands, the group is
pub lowest_at : (g : ℕ) (part : List ℕ) → lowest g part < length part → get_or part (lowest g part) 0 ≡ g
unfolding lowest
lowest_at g [] h = absurd (omega arith)
lowest_at g (x ∷ xs) h = go (lowest_at g xs) (eqb x g) refl h where
  go : (lowest g xs < length xs → get_or xs (lowest g xs) 0 ≡ g) → (b : Bool) → eqb x g ≡ b → cond b 0 (suc (lowest g xs)) < suc (length xs) → get_or (x ∷ xs) (cond b 0 (suc (lowest g xs))) 0 ≡ g
  go i true e k = eqb-true x g e
  go i false e k = i (omega arith)

-- so it leads it
pub lowest_leads : (g : ℕ) (part : List ℕ) → lowest g part < length part → leads part (lowest g part) ≡ true
unfolding leads
lowest_leads g part h = eq-eqb _ _ (ap (λ (z : ℕ). lowest z part) (lowest_at g part h))

-- two groups with members have different lowest members
pub apart : (g h : ℕ) (part : List ℕ) → g ≢ h → lowest g part < length part → lowest g part ≢ lowest h part
apart g h part d p e = d (sym (lowest_at g part p) ∙ ap (λ (z : ℕ). get_or part z 0) e ∙ lowest_at h part (rw e at p))

module _ (part : List ℕ) (xs : List Float) (g h : ℕ) (d : g ≢ h) (long : length xs ≡ length part) where
  abbrev both : Float → Float → List Float
  both a b = set (set xs (lowest g part) a) (lowest h part) b

  -- what was put last is read
  pub put_last : (a b z : Float) → lowest h part < length part → get_or (both a b) (lowest h part) z ≡ b
  put_last a b z p = get_or-set_same (set xs (lowest g part) a) (lowest h part) b z (rw (length-set xs (lowest g part) a, long) p)

  -- and what was put before it, at a group that has a member
  pub put_first : (a b z : Float) → lowest g part < length part → get_or (both a b) (lowest g part) z ≡ a
  put_first a b z p = get_or-set_other (set xs (lowest g part) a) (lowest h part) (lowest g part) b z (apart g h part d p) ∙ get_or-set_same xs (lowest g part) a z (rw long p)

  -- the other groups keep theirs
  pub put_other : (x : ℕ) (a b z : Float) → x ≢ g → x ≢ h → lowest x part < length part → get_or (both a b) (lowest x part) z ≡ get_or xs (lowest x part) z
  put_other x a b z m n p = get_or-set_other (set xs (lowest g part) a) (lowest h part) (lowest x part) b z (apart x h part n p) ∙ get_or-set_other xs (lowest g part) (lowest x part) a z (apart x g part m p)

module _ (n : Network) (s : MapState) (u h : ℕ) (hu : u < length s.partition) (d : get_or s.partition u 0 ≢ h) (le : length s.exits ≡ length s.partition) (ls : length s.strengths ≡ length s.partition) where
  abbrev old : ℕ
  old = get_or s.partition u 0

  abbrev after : List ℕ
  after = set s.partition u h

  same : length s.exits ≡ length after
  same = le ∙ sym (length-set s.partition u h)

  same' : length s.strengths ≡ length after
  same' = ls ∙ sym (length-set s.partition u h)

  there : lowest h after < length after
  there =
      let e : get_or after u 0 ≡ h = get_or-set_same s.partition u h 0 hu in
      let o = lowest_of after u (rw (length-set s.partition u h) hu) in
      let p : lowest h after ≤ u = rw e at o in
      omega (arith, length-set s.partition u h)

  -- the group that u moves to
  pub exit_to : (stats_of (apply_move n s u h) h).exit ≡ (moved_by n s u h).dest.exit
  unfolding apply_move stats_at
  exit_to = put_last after s.exits old h d same _ _ zero64 there

  pub strength_to : (stats_of (apply_move n s u h) h).strength ≡ (moved_by n s u h).dest.strength
  unfolding apply_move stats_at
  strength_to = put_last after s.strengths old h d same' _ _ zero64 there

  -- the group that u left, if it has a member still
  pub exit_from : lowest old after < length after → (stats_of (apply_move n s u h) old).exit ≡ (moved_by n s u h).src.exit
  unfolding apply_move stats_at
  exit_from p = put_first after s.exits old h d same _ _ zero64 p

  pub strength_from : lowest old after < length after → (stats_of (apply_move n s u h) old).strength ≡ (moved_by n s u h).src.strength
  unfolding apply_move stats_at
  strength_from p = put_first after s.strengths old h d same' _ _ zero64 p

  -- every other group with a member
  pub exit_other : (x : ℕ) → x ≢ old → x ≢ h → lowest x after < length after → (stats_of (apply_move n s u h) x).exit ≡ (stats_of s x).exit
  unfolding apply_move stats_at
  exit_other x a b p = put_other after s.exits old h d same x _ _ zero64 a b p ∙ ap (λ (z : ℕ). get_or s.exits z zero64) (lowest_other x h s.partition u b a)

  pub strength_other : (x : ℕ) → x ≢ old → x ≢ h → lowest x after < length after → (stats_of (apply_move n s u h) x).strength ≡ (stats_of s x).strength
  unfolding apply_move stats_at
  strength_other x a b p = put_other after s.strengths old h d same' x _ _ zero64 a b p ∙ ap (λ (z : ℕ). get_or s.strengths z zero64) (lowest_other x h s.partition u b a)

-- two lists of sums that agree at the nodes that lead agree where a group is asked for
read_alike : (part : List ℕ) (xs ys : List Float) → length xs ≡ length part → length ys ≡ length part
    → ((v : ℕ) → v < length part → leads part v ≡ true → get_or xs v zero64 ≡ get_or ys v zero64) → (g : ℕ) → get_or xs (lowest g part) zero64 ≡ get_or ys (lowest g part) zero64
read_alike part xs ys p q e g = go (dec_lt (lowest g part) (length part))
  where
    go : Dec (lowest g part < length part) → get_or xs (lowest g part) zero64 ≡ get_or ys (lowest g part) zero64
    go (yes h) = e (lowest g part) h (lowest_leads g part h)
    go (no h) = get_or-eq_default xs zero64 {n = lowest g part} (omega arith) ∙ sym (get_or-eq_default ys zero64 {n = lowest g part} (omega arith))

-- so what stands at the other nodes does not matter
pub stats_read : (part : List ℕ) (xs ys ss ts : List Float) → length xs ≡ length part → length ys ≡ length part → length ss ≡ length part → length ts ≡ length part
    → ((v : ℕ) → v < length part → leads part v ≡ true → (get_or xs v zero64 ≡ get_or ys v zero64) × (get_or ss v zero64 ≡ get_or ts v zero64))
    → (g : ℕ) → stats_at part xs ss g ≡ stats_at part ys ts g
unfolding stats_at
stats_read part xs ys ss ts p q r t e g =
    ap₂ {C = ModuleStats} (λ (x s : Float). record { exit = x; strength = s; n_nodes = count g part })
    (read_alike part xs ys p q (λ v h l. (e v h l).0) g) (read_alike part ss ts r t (λ v h l. (e v h l).1) g)

-- ---- Q asks for the exit weights at lowest members alone, and for nothing else of a partition than which nodes lead
sum_q_from_lem : (d : Float) (part part' : List ℕ) (xs ys : List Float) (a : Float) (v k : ℕ) → ((i : ℕ) → i < v + k → leads part i ≡ leads part' i)
    → ((i : ℕ) → i < v + k → leads part i ≡ true → get_or xs i nan ≡ get_or ys i nan) → sum_q_from d part xs a v k ≡ sum_q_from d part' ys a v k
unfolding sum_q_from
sum_q_from_lem d part part' xs ys a v zero l e = refl
sum_q_from_lem d part part' xs ys a v (suc k) l e =
    ap (λ (z : Float). sum_q_from d part xs z (suc v) k) (go (leads part v) refl ∙ ap (λ (b : Bool). cond b (add64 a (div64 (get_or ys v nan) d)) a) (l v (omega arith)))
    ∙ sum_q_from_lem d part part' xs ys (cond (leads part' v) (add64 a (div64 (get_or ys v nan) d)) a) (suc v) k (λ i h. l i (omega arith)) (λ i h t. e i (omega arith) t)
  where
    go : (b : Bool) → leads part v ≡ b → cond b (add64 a (div64 (get_or xs v nan) d)) a ≡ cond b (add64 a (div64 (get_or ys v nan) d)) a
    go true t = ap (λ (z : Float). add64 a (div64 z d)) (e v (omega arith) t)
    go false t = refl

pub sum_q_like : (d : Float) (part part' : List ℕ) (xs ys : List Float) → length part' ≡ length part → ((i : ℕ) → i < length part → leads part i ≡ leads part' i)
    → ((i : ℕ) → i < length part → leads part i ≡ true → get_or xs i nan ≡ get_or ys i nan) → sum_q d part xs ≡ sum_q d part' ys
unfolding sum_q
sum_q_like d part part' xs ys long l e =
    sum_q_from_lem d part part' xs ys zero64 0 (length part) (λ i h. l i (omega arith)) (λ i h t. e i (omega arith) t)
    ∙ ap (λ (n : ℕ). sum_q_from d part' ys zero64 0 n) (sym long)

pub sum_q_ext : (d : Float) (part : List ℕ) (xs ys : List Float) → ((i : ℕ) → i < length part → leads part i ≡ true → get_or xs i nan ≡ get_or ys i nan) → sum_q d part xs ≡ sum_q d part ys
sum_q_ext d part xs ys e = sum_q_like d part part xs ys refl (λ i h. refl) e
