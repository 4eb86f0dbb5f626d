-- The change of codelength does not turn on how the groups are numbered.
use mathlib.Core.Path.{◌≡◌, refl, sym, ap, ap₂, ◌∙◌, subst}
use mathlib.Core.Bool.{Bool, cond}
use mathlib.Core.List.{List, [], ◌∷◌}
use Prim.Native.Nat.{ℕ, suc, ◌<◌}
use native.Mathlib.Nat.{zero-lt-suc}
use native.Mathlib.Omega.{arith}
use lib.Dec.{eqb}
use lib.ListN.{length, get_or}
use lib.Ieee.{Float, nan, lt}
use Rattle.lists.proofs.Sums.{sum, only, sum_ext}
use Rattle.float.specs.Binary64.{add64, whole64, zero64}
use Rattle.map_state.specs.Network.{Network, row}
use Rattle.map_state.specs.MapState.{lowest, count, leads, stats_of, add_link, link_weights_from, link_weights, after_move, module_pair_delta, moved_from, delta_from, delta_move}
use Rattle.map_state.specs.declared.Links.{Links}
use Rattle.map_state.proofs.Groups.{sum_q_like}
use Rattle.codelength.specs.Codelength.{from_partition}
use Rattle.exact_sums.proofs.Whole.{WholeWeights, into, out_of, exit_of, strength_of, whole_stats, Match, Alike}
use Rattle.exact_sums.proofs.Afresh.{stats_path}
use Rattle.exact_sums.proofs.Carried.{Carried, carried_afresh, exit_at}

-- ---- a group under two numbers

tail : (p p' : ℕ) (ps ps' : List ℕ) (g g' : ℕ) → Match (p ∷ ps) (p' ∷ ps') g g' → Match ps ps' g g'
tail p p' ps ps' g g' m v h = m (suc v) (omega arith)

pub lowest_like : (part part' : List ℕ) (g g' : ℕ) → length part' ≡ length part → Match part part' g g' → lowest g part ≡ lowest g' part'
unfolding lowest
lowest_like [] [] g g' l m = refl
lowest_like [] (p' ∷ ps') g g' l m = absurd (omega arith)
lowest_like (p ∷ ps) [] g g' l m = absurd (omega arith)
lowest_like (p ∷ ps) (p' ∷ ps') g g' l m = ap₂ (λ (b : Bool) (r : ℕ). cond b 0 (suc r)) (m 0 (zero-lt-suc (length ps))) (lowest_like ps ps' g g' (omega arith) (tail p p' ps ps' g g' m))

count_like : (part part' : List ℕ) (g g' : ℕ) → length part' ≡ length part → Match part part' g g' → count g part ≡ count g' part'
unfolding count
count_like [] [] g g' l m = refl
count_like [] (p' ∷ ps') g g' l m = absurd (omega arith)
count_like (p ∷ ps) [] g g' l m = absurd (omega arith)
count_like (p ∷ ps) (p' ∷ ps') g g' l m = ap₂ (λ (b : Bool) (r : ℕ). cond b (suc r) r) (m 0 (zero-lt-suc (length ps))) (count_like ps ps' g g' (omega arith) (tail p p' ps ps' g g' m))

links_like : (part part' : List ℕ) (ws : List Float) (g g' h h' : ℕ) (l : Links) → length part' ≡ length part → Match part part' g g' → Match part part' h h' → link_weights_from g h l part ws ≡ link_weights_from g' h' l part' ws
unfolding link_weights_from
links_like [] [] ws g g' h h' l e m k = refl
links_like [] (p' ∷ ps') ws g g' h h' l e m k = absurd (omega arith)
links_like (p ∷ ps) [] ws g g' h h' l e m k = absurd (omega arith)
links_like (p ∷ ps) (p' ∷ ps') [] g g' h h' l e m k = refl
links_like (p ∷ ps) (p' ∷ ps') (x ∷ xs) g g' h h' l e m k =
    ap (λ (z : Links). link_weights_from g h z ps xs) one ∙ links_like ps ps' xs g g' h h' (add_link g' h' l p' x) (omega arith) (tail p p' ps ps' g g' m) (tail p p' ps ps' h h' k)
  where
    one : add_link g h l p x ≡ add_link g' h' l p' x
    one = unfold add_link in ap₂
        (λ (b c : Bool).
        cond (lt zero64 x)
        (cond b (record { src = add64 l.src x; dest = l.dest; other = l.other })
        (cond c (record { src = l.src; dest = add64 l.dest x; other = l.other }) (record { src = l.src; dest = l.dest; other = add64 l.other x }))) l)
        (m 0 (zero-lt-suc (length ps))) (k 0 (zero-lt-suc (length ps)))

module _ (w : ℕ → ℕ → ℕ) (part part' : List ℕ) (long : length part' ≡ length part) where
  into_like : (g g' : ℕ) (f f' : ℕ → ℕ) → Match part part' g g' → ((v : ℕ) → v < length part → f v ≡ f' v) → into part g f ≡ into part' g' f'
  unfolding into
  into_like g g' f f' m e =
      sum_ext (length part) (λ v. only (eqb (get_or part v 0) g) (f v)) (λ v. only (eqb (get_or part' v 0) g') (f' v)) (λ v p. ap₂ only (m v p) (e v p))
      ∙ ap (λ (n : ℕ). sum n (λ v. only (eqb (get_or part' v 0) g') (f' v))) (sym long)

  out_like : (g g' : ℕ) (f : ℕ → ℕ) → Match part part' g g' → out_of part g f ≡ out_of part' g' f
  unfolding out_of
  out_like g g' f m =
      sum_ext (length part) (λ v. cond (eqb (get_or part v 0) g) 0 (f v)) (λ v. cond (eqb (get_or part' v 0) g') 0 (f v)) (λ v p. ap (λ (b : Bool). cond b 0 (f v)) (m v p))
      ∙ ap (λ (n : ℕ). sum n (λ v. cond (eqb (get_or part' v 0) g') 0 (f v))) (sym long)

  exit_like : (g g' : ℕ) → Match part part' g g' → exit_of w part g ≡ exit_of w part' g'
  unfolding exit_of
  exit_like g g' m = into_like g g' (λ v. out_of part g (w v)) (λ v. out_of part' g' (w v)) m (λ v p. out_like g g' (w v) m)

  strength_like : (g g' : ℕ) → Match part part' g g' → strength_of w part g ≡ strength_of w part' g'
  unfolding strength_of
  strength_like g g' m = into_like g g' (λ v. sum (length part) (w v)) (λ v. sum (length part') (w v)) m (λ v p. ap (λ (n : ℕ). sum n (w v)) (sym long))

  pub stats_like : (g g' : ℕ) → Match part part' g g' → whole_stats w part g ≡ whole_stats w part' g'
  stats_like g g' m = stats_path (ap whole64 (exit_like g g' m)) (ap whole64 (strength_like g g' m)) (count_like part part' g g' long m)

-- ---- partitions alike
pub match_at : (part part' : List ℕ) → Alike part part' → (x : ℕ) → x < length part → Match part part' (get_or part x 0) (get_or part' x 0)
match_at part part' al x h v p = al.groups v x p h

module _ (net : Network) (w : ℕ → ℕ → ℕ) (ww : WholeWeights net w) (part part' : List ℕ) (len : length part ≡ length net.strength) (al : Alike part part') where
  s : Carried net w (from_partition net part)
  s = carried_afresh net w ww part len

  s' : Carried net w (from_partition net part')
  s' = carried_afresh net w ww part' (al.long ∙ len)

  leads_like : (i : ℕ) → i < length part → leads part i ≡ leads part' i
  unfolding leads
  leads_like i h = ap (λ (z : ℕ). eqb z i) (lowest_like part part' (get_or part i 0) (get_or part' i 0) al.long (match_at part part' al i h))

  same_q : (from_partition net part).q_sum ≡ (from_partition net part').q_sum
  unfolding from_partition
  same_q =
      sum_q_like net.d part part' (from_partition net part).exits (from_partition net part').exits al.long leads_like
      (λ i p t. exit_at w part (from_partition net part).exits (from_partition net part).strengths s.long_e s.stats i p t
      ∙ ap whole64 (exit_like w part part' al.long (get_or part i 0) (get_or part' i 0) (match_at part part' al i p))
      ∙ sym (exit_at w part' (from_partition net part').exits (from_partition net part').strengths s'.long_e s'.stats i (subst (λ (m : ℕ). i < m) (sym al.long) p) (sym (leads_like i p) ∙ t)))

  -- The change of a move of u, made afresh under either numbering.
  pub change_like : (u h h' : ℕ) → u < length part → Match part part' h h' → delta_move net (from_partition net part) u h ≡ delta_move net (from_partition net part') u h'
  unfolding delta_move delta_from moved_from from_partition
  change_like u h h' hu m = λ i. module_pair_delta net.d (same_q i) (stats g g' mg i) (stats h h' m i) (after_move (links i) (get_or net.strength u nan) (stats g g' mg i) (stats h h' m i))
    where
      g : ℕ
      g = get_or part u 0

      g' : ℕ
      g' = get_or part' u 0

      mg : Match part part' g g'
      mg = match_at part part' al u hu

      links : link_weights g h part (row net u) ≡ link_weights g' h' part' (row net u)
      links = links_like part part' (row net u) g g' h h' (record { src = zero64; dest = zero64; other = zero64 }) al.long mg m

      stats : (x x' : ℕ) → Match part part' x x' → stats_of (from_partition net part) x ≡ stats_of (from_partition net part') x'
      stats x x' k = s.stats x ∙ stats_like w part part' al.long x x' k ∙ sym (s'.stats x')
