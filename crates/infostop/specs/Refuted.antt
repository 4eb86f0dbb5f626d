-- What the promises of a fit rule out: for each of their fields a small wrong answer, and the proof that the promise is false of it.
use Rattle.std.proofs.Math.Path.{◌≡◌, ap}
use Rattle.std.specs.Prelude.{refl, ◌≢◌, ◌⊎◌, ℕ, zero, suc, ◌<◌, true, false, List, [], ◌∷◌, ℤ, pos, negsuc, length, get_or, Float, Ok, Err}
use Rattle.std.proofs.Common.{sym, ◌∙◌, subst, inl, inr, true≢false}
use Rattle.std.proofs.Math.Option.{none, some}
use native.Mathlib.Omega.{arith}
use Rattle.std.proofs.Math.IntN.{pos-ne-negsuc}
use Rattle.std.specs.Float.Ieee.{size, add, sub, mul, div, neg, lt, eq, le, ne, of_int, of_bits, to_bits, is_nan}
use Rattle.lists.specs.Lists.{from, upto, any_of, select, minus_one}
use Rattle.float.specs.Binary64.{whole64, zero64, one64, infinity64, same_bits}
use Rattle.float.specs.Root.{root}
use Rattle.float.specs.Ln.{ln2}
use Rattle.distance.specs.declared.Point.{Point}
use Rattle.distance.specs.Distance.{euclidean, Metric}
use Rattle.trace.specs.Trace.{Fix, fix_count}
use Rattle.stay.specs.Stays.{stay_medians, fix_medians, all_medians, all_fix_medians}
use Rattle.neighbors.specs.Places.{Place, same_place, sighted, sighted_all, places, place_of}
use Rattle.neighbors.specs.Links.{apart, link, weight, linked, nodes}
use Rattle.neighbors.specs.Chains.{Chain, alone, step}
use Rattle.neighbors.specs.Tables.{rows_of, table_of}
use Rattle.rng.specs.Rng.{seeded}
use Rattle.map_state.specs.Network.{Network}
use Rattle.codelength.specs.Codelength.{add_module, terms_from, node_plogp_from, codelength_of, codelength}
use Rattle.infomap.specs.declared.Mark.TheVariants.{Rest, Spent}
use Rattle.infomap.specs.Facts.{linked_pair}
use Rattle.infomap.specs.Infomap.{RunMark, rest, spent, mark_of}
use Rattle.cluster.specs.Cluster.{node_network}
use Rattle.settings.specs.declared.refusal.Refusal.{Refusal}
use Rattle.settings.specs.declared.refusal.Refusal.TheVariants.{Lengths, TimeOrder, NoStop, TooManyPlaces, MinSpatialResolution}
use Rattle.infostop.specs.Demand.{Given, is_in, label_in, numbered, net, medians, distinct, label_of, Outside, LiesIn, Alone, linked_medians, median_label, shown_groups, NeighbourGroup, change, Demand3}
use Rattle.infostop.specs.Fit.{Fitted, refused, fitted}
use Rattle.settings.specs.Tries.{with_step, settings}
use Rattle.infostop.specs.declared.model.Infostop.{Infostop}
use Rattle.infostop.specs.declared.answer.Fit.{Fit}
use Rattle.scan.specs.Scan.{margin}
use Rattle.optimize.specs.Examples.{trial_computed}
use Rattle.run_laws.specs.KeptTrial.{remains, all_remain, quiet_round, after_rounds, quiet_end, generator_at, trial_at, trial_codelength, KeptQuiet}
use Rattle.infostop.specs.Ends.{told_by, Ended, WorkEnds}

-- ---- demand 3, with the settings 10 10 1 300 86400 2 42

-- What is computed below, in parts: to unfold one of these is to unfold all that it names.
unfoldable tracks_computed : Unit {0}
unfolding size add sub mul div neg lt eq le ne of_int of_bits to_bits is_nan from upto any_of select same_bits root euclidean stay_medians fix_medians
    same_place sighted sighted_all
    places place_of apart link linked nodes all_medians all_fix_medians
tracks_computed = tt

unfoldable groups_computed : Unit {0}
unfolding weight rows_of table_of node_network is_in label_in numbered
groups_computed = tt

unfoldable last_round_computed : Unit {0}
unfolding trial_computed add_module terms_from node_plogp_from codelength_of codelength generator_at trial_at trial_codelength remains all_remain quiet_round
    after_rounds quiet_end
last_round_computed = tt

-- A fix without a time, and two of them.
abbrev pub at : ℕ → ℕ → Fix
at x y = record { at = record { x = whole64 x; y = whole64 y }; time = none }

abbrev pub stand : ℕ → ℕ → List Fix
stand x y = at x y ∷ at x y ∷ []

abbrev pub answered : List (List Fix) → List ℤ → RunMark → Given
answered ts labels mark = record { dist = euclidean; config = settings; traces = ts; labels = labels; mark = mark }

abbrev pub False : Type 0 → Type 0
False P = P → ⊥

-- Two fixes have one label.
pub one_label_too_few : False (Demand3 (answered (stand 0 0 ∷ []) (pos 0 ∷ []) rest))
unfolding fix_count
one_label_too_few d = let e = d.each in omega arith

-- All are -2.
pub below_minus_one : False (Demand3 (answered (stand 0 0 ∷ []) (negsuc 1 ∷ negsuc 1 ∷ []) rest))
unfolding fix_count
below_minus_one d = why (d.numbers 0 (omega arith))
  where
    why : (negsuc 1 ≡ minus_one) ⊎ ((l : ℕ) × (negsuc 1 ≡ pos l)) → ⊥
    why (inl e) = let z : ◌≡◌ {A = ℕ} 1 0 = cc in omega arith
    why (inr (l, e)) = pos-ne-negsuc l 1 (sym e)

-- (a) All are -1, for (0,0), (6,8).
abbrev pub all_unlabelled : Given
all_unlabelled = answered ((at 0 0 ∷ at 6 8 ∷ []) ∷ []) (minus_one ∷ minus_one ∷ []) rest

in_stay : get_or (medians all_unlabelled) 0 none ≡ some (record { x = whole64 3; y = whole64 4 })
unfolding tracks_computed
in_stay = refl

pub all_unlabelled_lem : False (Demand3 all_unlabelled)
unfolding fix_count
all_unlabelled_lem d = why ((d.unlabelled 0 (omega arith)).0 refl)
  where
    why : Outside all_unlabelled 0 ⊎ ((i : ℕ) × LiesIn all_unlabelled 0 i × Alone all_unlabelled i × (true ≡ false)) → ⊥
    why (inl e) = let q = sym in_stay ∙ e in let z : ◌≡◌ {A = ℕ} 0 1 = cc in omega arith
    why (inr (i, l, a, n)) = true≢false n

-- (a) One -1 too few: (0,0) twice and (100,0) have one label.
abbrev pub unlabelled_too_few : Given
unlabelled_too_few = answered ((at 0 0 ∷ at 0 0 ∷ at 100 0 ∷ []) ∷ []) (pos 0 ∷ pos 0 ∷ pos 0 ∷ []) rest

in_no_stay : get_or (medians unlabelled_too_few) 2 none ≡ none
unfolding tracks_computed
in_no_stay = refl

pub unlabelled_too_few_lem : False (Demand3 unlabelled_too_few)
unfolding fix_count
unlabelled_too_few_lem d = pos-ne-negsuc 0 0 ((d.unlabelled 2 (omega arith)).1 (inl in_no_stay))

begins_inside : {dist : Metric} {r2 : Float} {ps : List Place} {i k : ℕ} → Chain dist r2 ps i k → i < length ps
begins_inside (alone h) = h
begins_inside (step h e c) = h

-- A chain from a place that has no link goes nowhere else.
pub no_chain : {dist : Metric} {r2 : Float} {ps : List Place} {i k : ℕ} → Chain dist r2 ps i k → ((j : ℕ) → j < length ps → link dist r2 ps i j ≡ false) → k ≡ i
no_chain (alone h) n = refl
no_chain (step {j = j} h l c) n = absurd (true≢false (sym l ∙ n j (begins_inside c)))

-- Two standing traces have one label, and their medians p and q are the places 0 and 1, of which the first has no link.
record Unlinked (g : Given) (p q : Point) : Type 0 where
  first : get_or (medians g) 0 none ≡ some p
  second : get_or (medians g) 2 none ≡ some q
  place_0 : place_of (distinct g) p ≡ 0
  place_1 : place_of (distinct g) q ≡ 1
  none_near : Alone g 0

not_joined : (g : Given) (p q : Point) → Unlinked g p q → 2 < fix_count g.traces → label_of g 0 ≡ pos 0 → label_of g 2 ≡ pos 0 → False (Demand3 g)
not_joined g p q u n h k d =
    let w = d.joined 0 2 0 (omega arith) n h k in
    let l = w.2 in
    let l' = w.3 in
    let m : l.median ≡ p = (let e = sym u.first ∙ l.lies in cc) in
    let m' : l'.median ≡ q = (let e = sym u.second ∙ l'.lies in cc) in
    let a = sym l.place ∙ ap (place_of (distinct g)) m ∙ u.place_0 in
    let b = sym l'.place ∙ ap (place_of (distinct g)) m' ∙ u.place_1 in
    let c = no_chain w.4 (λ j h. subst (λ (z : ℕ). link g.dist g.config.r2 (distinct g) z j ≡ false) (sym a) (u.none_near j h)) in
    omega arith

-- (b) Two far places have one label: (0,0) twice; (100,0) twice.
abbrev pub far_together : Given
far_together = answered (stand 0 0 ∷ stand 100 0 ∷ []) (pos 0 ∷ pos 0 ∷ pos 0 ∷ pos 0 ∷ []) rest

far_alone : Alone far_together 0
unfolding tracks_computed
far_alone zero h = refl
far_alone (suc zero) h = refl
far_alone (suc (suc j)) h = absurd (omega arith)

far_unlinked : Unlinked far_together (at 0 0).at (at 100 0).at
unfolding tracks_computed
far_unlinked = record { first = refl; second = refl; place_0 = refl; place_1 = refl; none_near = far_alone }

pub far_together_lem : False (Demand3 far_together)
unfolding fix_count
far_together_lem = not_joined far_together (at 0 0).at (at 100 0).at far_unlinked (omega arith) refl refl

-- (b) Labels by the medians off the grid: (3,0) twice; (11,0) twice, with step 7. They are 8 apart, and 14 on the grid.
abbrev pub off_grid : Given
off_grid =
    record {
      dist = euclidean;
      config = with_step (whole64 7);
      traces = stand 3 0 ∷ stand 11 0 ∷ [];
      labels = pos 0 ∷ pos 0 ∷ pos 0 ∷ pos 0 ∷ [];
      mark = rest;
    }

grid_alone : Alone off_grid 0
unfolding tracks_computed
grid_alone zero h = refl
grid_alone (suc zero) h = refl
grid_alone (suc (suc j)) h = absurd (omega arith)

grid_unlinked : Unlinked off_grid (at 0 0).at (at 14 0).at
unfolding tracks_computed
grid_unlinked = record { first = refl; second = refl; place_0 = refl; place_1 = refl; none_near = grid_alone }

pub off_grid_lem : False (Demand3 off_grid)
unfolding fix_count
off_grid_lem = not_joined off_grid (at 0 0).at (at 14 0).at grid_unlinked (omega arith) refl refl

-- (c) Spent, where no median is linked.
abbrev pub spent_alone : Given
spent_alone = answered (stand 0 0 ∷ []) (pos 0 ∷ pos 0 ∷ []) spent

by_itself : (i : ℕ) → i < length (distinct spent_alone) → Alone spent_alone i
unfolding tracks_computed
by_itself zero h zero k = refl
by_itself zero h (suc j) k = absurd (omega arith)
by_itself (suc i) h j k = absurd (omega arith)

pub spent_alone_lem : False (Demand3 spent_alone)
spent_alone_lem d = let q = d.marked.1 (inl by_itself) in let z : ◌≡◌ {A = ℕ} 0 1 = cc in omega arith

-- (c) Spent, where the kept trial's last round moved nothing: (0,0) twice; (10,0) twice.
abbrev pub spent_at_rest : Given
spent_at_rest = answered (stand 0 0 ∷ stand 10 0 ∷ []) (pos 0 ∷ pos 0 ∷ pos 0 ∷ pos 0 ∷ []) spent

-- Its network, and the codelengths of the three trials on it, which are equal.
pair_net : net spent_at_rest ≡ linked_pair
unfolding tracks_computed trial_computed groups_computed
pair_net = refl

length_0 : trial_codelength linked_pair (seeded 42) 0 ≡ ln2
unfolding tracks_computed trial_computed last_round_computed
length_0 = refl

length_1 : trial_codelength linked_pair (seeded 42) 1 ≡ ln2
unfolding tracks_computed trial_computed last_round_computed
length_1 = refl

length_2 : trial_codelength linked_pair (seeded 42) 2 ≡ ln2
unfolding tracks_computed trial_computed last_round_computed
length_2 = refl

quiet_0 : quiet_end linked_pair (generator_at linked_pair (seeded 42) 0) ≡ true
unfolding tracks_computed trial_computed last_round_computed
quiet_0 = refl

first_kept : KeptQuiet linked_pair (seeded 42)
unfolding lt of_bits
first_kept = record {
  trial = 0;
  is = record {
    one = omega arith;
    lowest = record { below_infinity = ap (λ (z : Float). lt z infinity64) length_0; least = none_lower };
    first = λ s h. absurd (omega arith);
  };
  quiet = quiet_0;
}
  where
    none_lower : (s : ℕ) → s < 3 → lt (trial_codelength linked_pair (seeded 42) s) (trial_codelength linked_pair (seeded 42) 0) ≡ false
    none_lower zero h = rw length_0
    none_lower (suc zero) h = rw (length_0, length_1)
    none_lower (suc (suc zero)) h = rw (length_0, length_2)
    none_lower (suc (suc (suc s))) h = absurd (omega arith)

pub spent_at_rest_lem : False (Demand3 spent_at_rest)
spent_at_rest_lem d = let q = d.marked.1 (inr (subst (λ (z : Network). KeptQuiet z (seeded 42)) (sym pair_net) first_kept)) in let z : ◌≡◌ {A = ℕ} 0 1 = cc in omega arith

-- (d) Two labels at one median: (0,0) twice.
abbrev pub two_at_one : Given
two_at_one = answered (stand 0 0 ∷ []) (pos 0 ∷ pos 1 ∷ []) rest

lies_there : LiesIn two_at_one 1 0
unfolding tracks_computed
lies_there = record { median = (at 0 0).at; lies = refl; place = refl; inside = omega arith }

label_there : median_label two_at_one 0 ≡ pos 0
unfolding tracks_computed groups_computed
label_there = refl

pub two_at_one_lem : False (Demand3 two_at_one)
two_at_one_lem d = let q = d.shown 1 0 lies_there ∙ label_there in let z : ◌≡◌ {A = ℕ} 0 1 = cc in omega arith

-- (d) Rest with a better move: (0,0) twice; (10,0) twice, each with a label of its own. If the second joins the first the codelength falls by 1.386.
abbrev pub better_move : Given
better_move = answered (stand 0 0 ∷ stand 10 0 ∷ []) (pos 0 ∷ pos 0 ∷ pos 1 ∷ pos 1 ∷ []) rest

better : lt (change better_move 1 0) (neg margin) ≡ true
unfolding tracks_computed trial_computed groups_computed
better = refl

into_first : NeighbourGroup better_move 1 0
unfolding tracks_computed trial_computed groups_computed
into_first = record { node = 0; inside = omega arith; link = refl; group = refl; other = λ e. omega arith }

two_linked : length (linked_medians better_move) ≡ 2
unfolding tracks_computed
two_linked = refl

pub better_move_lem : False (Demand3 better_move)
better_move_lem d = true≢false (sym better ∙ d.settled refl 1 0 (omega (arith, two_linked)) (inl into_first))

-- (d) Rest with a better move into a group of its own: standing at 0, 10, 20 and 30, the last with the label of the first two. If it leaves them the
-- codelength falls by 0.174. All else of demand 3 holds.
abbrev pub better_alone : Given
better_alone = answered (stand 0 0 ∷ stand 10 0 ∷ stand 20 0 ∷ stand 30 0 ∷ []) (pos 0 ∷ pos 0 ∷ pos 0 ∷ pos 0 ∷ pos 1 ∷ pos 1 ∷ pos 0 ∷ pos 0 ∷ []) rest

row_of_four : linked_medians better_alone ≡ 0 ∷ 1 ∷ 2 ∷ 3 ∷ []
unfolding tracks_computed
row_of_four = refl

row_groups : shown_groups better_alone ≡ 0 ∷ 0 ∷ 2 ∷ 0 ∷ []
unfolding tracks_computed groups_computed
row_groups = refl

better_out : lt (change better_alone 3 4) (neg margin) ≡ true
unfolding tracks_computed trial_computed groups_computed
better_out = refl

unused : (v : ℕ) → ◌≢◌ {A = ℕ} (get_or (0 ∷ 0 ∷ 2 ∷ 0 ∷ []) v 0) 4
unused zero e = omega arith
unused (suc zero) e = omega arith
unused (suc (suc zero)) e = omega arith
unused (suc (suc (suc zero))) e = omega arith
unused (suc (suc (suc (suc v)))) e = omega arith

pub better_alone_lem : False (Demand3 better_alone)
better_alone_lem d =
    let few = ap length row_of_four in
    true≢false (sym better_out ∙ d.settled refl 3 4 (omega arith) (inr (λ v h. subst (λ (z : List ℕ). get_or z v 0 ≢ 4) (sym row_groups) (unused v))))

-- ---- how a fit ends
module _ (m : Infostop) (old : List ℤ) (r : Fit) (labels : List ℤ) where
  -- Spent without rounds, for a run that came to rest after two.
  pub spent_unrun : (f : Fitted) → f.mark ≡ rest → f.rounds ≡ 2 → r.answer ≡ Ok (record { mark = Spent; rounds = 0 }) → False (Ended m old (fitted f) r labels)
  unfolding mark_of
  spent_unrun f e n a x = let q = ap told_by (sym a) ∙ x.answer in let z : ◌≡◌ {A = ℕ} 0 1 = cc in omega arith

  -- Rounds that are not counted.
  pub rounds_uncounted : (f : Fitted) → f.rounds ≡ 2 → r.answer ≡ Ok (record { mark = Rest; rounds = 0 }) → False (Ended m old (fitted f) r labels)
  rounds_uncounted f n a x = let q = ap told_by (sym a) ∙ x.answer in let z : 0 ≡ f.rounds = cc in omega arith

  -- 18 where 19 is due, and another trace's number.
  pub wrong_number : r.answer ≡ Err NoStop → False (Ended m old (refused TooManyPlaces) r labels)
  wrong_number a x = let q = ap told_by (sym a) ∙ x.answer in let z : ◌≡◌ {A = ℕ} 18 19 = cc in omega arith

  pub wrong_trace : r.answer ≡ Err (TimeOrder 1) → False (Ended m old (refused (TimeOrder 0)) r labels)
  wrong_trace a x = let q = ap told_by (sym a) ∙ x.answer in let z : ◌≡◌ {A = ℕ} 1 0 = cc in omega arith

  -- A refusal, and labels that are not as they were.
  pub labels_changed : (e : Refusal) → labels ≢ old → False (Ended m old (refused e) r labels)
  labels_changed e n x = n x.fixes

  -- A refusal, and a model that is fitted and was not.
  pub model_changed : (e : Refusal) → m.fitted ≡ false → r.model.fitted ≡ true → False (Ended m old (refused e) r labels)
  model_changed e a b x = true≢false (sym b ∙ ap (λ (z : Infostop). z.fitted) x.model ∙ a)

-- A work slice that was touched on 8, of either kind.
pub floats_touched : False (WorkEnds (refused Lengths) (zero64 ∷ []) [] (one64 ∷ []) [])
unfolding lt of_bits
floats_touched w = true≢false (sym apart_they ∙ ap (λ (z : List Float). lt zero64 (get_or z 0 zero64)) (w refl).0)
  where
    apart_they : lt zero64 one64 ≡ true
    apart_they = refl

pub words_touched : False (WorkEnds (refused Lengths) [] (pos 0 ∷ []) [] (pos 1 ∷ []))
words_touched w = let q = (w refl).1 in let z : ◌≡◌ {A = ℕ} 0 1 = cc in omega arith

-- One that was touched on 23, whose number is above those of 18 and 19.
pub touched_on_23 : False (WorkEnds (refused MinSpatialResolution) [] (pos 0 ∷ []) [] (pos 1 ∷ []))
touched_on_23 w = let q = (w refl).1 in let z : ◌≡◌ {A = ℕ} 0 1 = cc in omega arith
