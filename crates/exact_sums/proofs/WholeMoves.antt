-- What a move changes in the exit weights and strengths of the groups, as whole numbers.
use mathlib.Core.Path.{◌≡◌, sym, ap, ◌∙◌, subst}
use mathlib.Core.Logic.{◌≢◌}
use mathlib.Core.Bool.{Bool, cond}
use mathlib.Core.List.{List}
use Prim.Native.Nat.{ℕ, ◌+◌, ◌<◌, ◌≤◌}
use native.Mathlib.Nat.{le_trans}
use native.Mathlib.Omega.{arith}
use borrow.Author.Tests.{ne_eqb}
use lib.Dec.{eqb}
use lib.ListN.{length, get_or, set, length-set}
use lib.Seq.{get_or-set_same, get_or-set_other}
use Rattle.lists.proofs.Sums.{sum, only, sum_ext, sum_add, sum_off, sum_le, sum_at, only_add, only_le}
use Rattle.lists.proofs.Tests.{eqb_self}
use Rattle.exact_sums.proofs.Whole.{into, out_of, exit_of, strength_of}
use Rattle.exact_sums.proofs.WholeSums.{into_le, out_le}

-- ---- node u goes from its group g to another, h
module _ (part : List ℕ) (u h : ℕ) (hu : u < length part) (d : h ≢ get_or part u 0) where
  abbrev g : ℕ
  g = get_or part u 0

  abbrev new : List ℕ
  new = set part u h

  long : length new ≡ length part
  long = length-set part u h

  at_u : get_or new u 0 ≡ h
  at_u = get_or-set_same part u h 0 hu

  at_v : (v : ℕ) → v ≢ u → get_or new v 0 ≡ get_or part v 0
  at_v v n = get_or-set_other part u v h 0 n

  -- A sum over the nodes by a test of their groups, before and after: it changes at u alone.
  by_group : (t : ℕ → ℕ → ℕ) → sum (length new) (λ v. t v (get_or new v 0)) + t u g ≡ sum (length part) (λ v. t v (get_or part v 0)) + t u h
  by_group t =
      ap (λ (n : ℕ). sum n (λ v. t v (get_or new v 0)) + t u g) long
      ∙ sum_off (length part) (λ v. t v (get_or new v 0)) (λ v. t v (get_or part v 0)) u hu (λ v p n. ap (t v) (at_v v n))
      ∙ ap (λ (z : ℕ). sum (length part) (λ v. t v (get_or part v 0)) + t u z) at_u

  yes_g : (x : ℕ) → only (eqb g g) x ≡ x
  yes_g x = ap (λ (b : Bool). only b x) (eqb_self g)

  no_hg : (x : ℕ) → only (eqb h g) x ≡ 0
  no_hg x = ap (λ (b : Bool). only b x) (ne_eqb h g d)

  yes_h : (x : ℕ) → only (eqb h h) x ≡ x
  yes_h x = ap (λ (b : Bool). only b x) (eqb_self h)

  no_gh : (x : ℕ) → only (eqb g h) x ≡ 0
  no_gh x = ap (λ (b : Bool). only b x) (ne_eqb g h (λ e. d (sym e)))

  -- Weights into a group: g loses u's, h gains it, another keeps its own.
  pub into_left : (f : ℕ → ℕ) → into new g f + f u ≡ into part g f
  unfolding into
  into_left f =
      let a = by_group (λ v x. only (eqb x g) (f v)) in
      let b = yes_g (f u) in
      let c = no_hg (f u) in
      omega arith

  pub into_joined : (f : ℕ → ℕ) → into new h f ≡ into part h f + f u
  unfolding into
  into_joined f =
      let a = by_group (λ v x. only (eqb x h) (f v)) in
      let b = yes_h (f u) in
      let c = no_gh (f u) in
      omega arith

  pub into_other : (x : ℕ) (f : ℕ → ℕ) → x ≢ g → x ≢ h → into new x f ≡ into part x f
  unfolding into
  into_other x f p q =
      let a = by_group (λ v y. only (eqb y x) (f v)) in
      let b : only (eqb g x) (f u) ≡ 0 = ap (λ (b : Bool). only b (f u)) (ne_eqb g x (λ e. p (sym e))) in
      let c : only (eqb h x) (f u) ≡ 0 = ap (λ (b : Bool). only b (f u)) (ne_eqb h x (λ e. q (sym e))) in
      omega arith

  -- Weights out of a group: the other way round.
  pub out_left : (f : ℕ → ℕ) → out_of new g f ≡ out_of part g f + f u
  unfolding out_of
  out_left f =
      let a = by_group (λ v x. cond (eqb x g) 0 (f v)) in
      let b : cond (eqb g g) 0 (f u) ≡ 0 = ap (λ (b : Bool). cond b 0 (f u)) (eqb_self g) in
      let c : cond (eqb h g) 0 (f u) ≡ f u = ap (λ (b : Bool). cond b 0 (f u)) (ne_eqb h g d) in
      omega arith

  pub out_joined : (f : ℕ → ℕ) → out_of part h f ≡ out_of new h f + f u
  unfolding out_of
  out_joined f =
      let a = by_group (λ v x. cond (eqb x h) 0 (f v)) in
      let b : cond (eqb h h) 0 (f u) ≡ 0 = ap (λ (b : Bool). cond b 0 (f u)) (eqb_self h) in
      let c : cond (eqb g h) 0 (f u) ≡ f u = ap (λ (b : Bool). cond b 0 (f u)) (ne_eqb g h (λ e. d (sym e))) in
      omega arith

  pub out_other : (x : ℕ) (f : ℕ → ℕ) → x ≢ g → x ≢ h → out_of new x f ≡ out_of part x f
  unfolding out_of
  out_other x f p q =
      let a = by_group (λ v y. cond (eqb y x) 0 (f v)) in
      let b : cond (eqb g x) 0 (f u) ≡ f u = ap (λ (b : Bool). cond b 0 (f u)) (ne_eqb g x (λ e. p (sym e))) in
      let c : cond (eqb h x) 0 (f u) ≡ f u = ap (λ (b : Bool). cond b 0 (f u)) (ne_eqb h x (λ e. q (sym e))) in
      omega arith

-- ---- sums of a partition's weights
pub into_ext : (part : List ℕ) (g : ℕ) (f f' : ℕ → ℕ) → ((v : ℕ) → v < length part → f v ≡ f' v) → into part g f ≡ into part g f'
unfolding into
into_ext part g f f' h = sum_ext (length part) (λ v. only (eqb (get_or part v 0) g) (f v)) (λ v. only (eqb (get_or part v 0) g) (f' v)) (λ v p. ap (only (eqb (get_or part v 0) g)) (h v p))

pub into_add : (part : List ℕ) (g : ℕ) (f f' : ℕ → ℕ) → into part g (λ v. f v + f' v) ≡ into part g f + into part g f'
unfolding into
into_add part g f f' =
    sum_ext (length part) (λ v. only (eqb (get_or part v 0) g) (f v + f' v)) (λ v. only (eqb (get_or part v 0) g) (f v) + only (eqb (get_or part v 0) g) (f' v)) (λ v p. only_add (eqb (get_or part v 0) g) (f v) (f' v))
    ∙ sum_add (length part) (λ v. only (eqb (get_or part v 0) g) (f v)) (λ v. only (eqb (get_or part v 0) g) (f' v))

module _ (w : ℕ → ℕ → ℕ) (part : List ℕ) (both : (u v : ℕ) → u < length part → v < length part → w u v ≡ w v u) (none : (u : ℕ) → u < length part → w u u ≡ 0) where
  -- The weights from the members of g to u are those from u into g.
  from_members : (g u : ℕ) → u < length part → into part g (λ v. w v u) ≡ into part g (w u)
  from_members g u hu = into_ext part g (λ v. w v u) (w u) (λ v p. both v u p hu)

  module _ (u h : ℕ) (hu : u < length part) (d : h ≢ get_or part u 0) where
    abbrev src : ℕ
    src = get_or part u 0

    abbrev after : List ℕ
    after = set part u h

    same : length after ≡ length part
    same = length-set part u h

    -- The group that u leaves.
    pub exit_left : exit_of w after src + out_of part src (w u) ≡ exit_of w part src + into part src (w u)
    unfolding exit_of
    exit_left =
        let a = into_left part u h hu d (λ v. out_of after src (w v)) in
        let b = into_ext part src (λ v. out_of after src (w v)) (λ v. out_of part src (w v) + w v u) (λ v p. out_left part u h hu d (w v)) in
        let c = into_add part src (λ v. out_of part src (w v)) (λ v. w v u) in
        let m = from_members src u hu in
        let l = out_left part u h hu d (w u) in
        let z = none u hu in
        omega arith

    -- The group that u joins.
    pub exit_joined : exit_of w after h + into part h (w u) ≡ exit_of w part h + out_of part h (w u)
    unfolding exit_of
    exit_joined =
        let a = into_joined part u h hu d (λ v. out_of after h (w v)) in
        let b = into_ext part h (λ v. out_of part h (w v)) (λ v. out_of after h (w v) + w v u) (λ v p. out_joined part u h hu d (w v)) in
        let c = into_add part h (λ v. out_of after h (w v)) (λ v. w v u) in
        let m = from_members h u hu in
        let l = out_joined part u h hu d (w u) in
        let z = none u hu in
        omega arith

    pub exit_other : (x : ℕ) → x ≢ src → x ≢ h → exit_of w after x ≡ exit_of w part x
    unfolding exit_of
    exit_other x p q = into_other part u h hu d x (λ v. out_of after x (w v)) p q ∙ into_ext part x (λ v. out_of after x (w v)) (λ v. out_of part x (w v)) (λ v r. out_other part u h hu d x (w v) p q)

    pub strength_left : strength_of w after src + sum (length part) (w u) ≡ strength_of w part src
    unfolding strength_of
    strength_left =
        subst (λ (n : ℕ). into after src (λ v. sum n (w v)) + sum (length part) (w u) ≡ into part src (λ v. sum (length part) (w v))) (sym same) (into_left part u h hu d (λ v. sum (length part) (w v)))

    pub strength_joined : strength_of w after h ≡ strength_of w part h + sum (length part) (w u)
    unfolding strength_of
    strength_joined =
        subst (λ (n : ℕ). into after h (λ v. sum n (w v)) ≡ into part h (λ v. sum (length part) (w v)) + sum (length part) (w u)) (sym same) (into_joined part u h hu d (λ v. sum (length part) (w v)))

    pub strength_other : (x : ℕ) → x ≢ src → x ≢ h → strength_of w after x ≡ strength_of w part x
    unfolding strength_of
    strength_other x p q =
        subst (λ (n : ℕ). into after x (λ v. sum n (w v)) ≡ into part x (λ v. sum (length part) (w v))) (sym same) (into_other part u h hu d x (λ v. sum (length part) (w v)) p q)

-- ---- bounds
pub exit_le : (w : ℕ → ℕ → ℕ) (part : List ℕ) (g : ℕ) → exit_of w part g ≤ sum (length part) (λ u. sum (length part) (w u))
unfolding exit_of into
exit_le w part g =
    sum_le (length part) (λ v. only (eqb (get_or part v 0) g) (out_of part g (w v))) (λ v. sum (length part) (w v))
    (λ v p. le_trans (only_le (eqb (get_or part v 0) g) (out_of part g (w v))) (out_le part g (w v)))

pub strength_le : (w : ℕ → ℕ → ℕ) (part : List ℕ) (g : ℕ) → strength_of w part g ≤ sum (length part) (λ u. sum (length part) (w u))
unfolding strength_of
strength_le w part g = into_le part g (λ v. sum (length part) (w v))

pub row_le : (w : ℕ → ℕ → ℕ) (n u : ℕ) → u < n → sum n (w u) ≤ sum n (λ v. sum n (w v))
row_le w n u h = sum_at n (λ v. sum n (w v)) u h
