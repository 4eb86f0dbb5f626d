-- The stays trace by trace: what stands in the work slice and among the stay numbers before the traces that are left.
use mathlib.Core.Path.{◌≡◌, refl, sym, ap, ap₂, ◌∙◌, subst}
use mathlib.Core.List.{List, [], ◌∷◌, ◌++◌, map, append_assoc, append-nil}
use Prim.Native.Nat.{ℕ, zero, suc, ◌+◌, ◌*◌, ◌/◌, ◌≤◌}
use native.Mathlib.Omega.{arith}
use Rattle.std.proofs.Common.{zero-add}
use lib.IntN.{ℤ}
use lib.ListN.{length, take, drop, length-append, length-drop, length-map}
use lib.Seq.{take_at, take_all, take-take, length-take-le, sets}
use lib.Ieee.{Float}
use Rattle.distance.specs.declared.Point.{Point}
use Rattle.distance.specs.Distance.{euclidean, points}
use Rattle.settings.specs.declared.config.Config.{Config}
use Rattle.trace.specs.Trace.{Fix, total}
use Rattle.trace.specs.declared.Trace.{Trace}
use Rattle.trace.specs.Given.{fixes_of}
use Rattle.trace.specs.StepsTraces.{placed}
use Rattle.trace.proofs.Fixes.{fixes_length}
use Rattle.stay.specs.Stays.{stay_medians, all_medians}
use Rattle.stay.specs.StepsEvents.{event_map}
use Rattle.stay.specs.StepsFound.{quarter, Found}
use Rattle.stay.proofs.Groups.{medians_few}
use Rattle.stay.proofs.MediansRead.{medians_before}
use Rattle.stay.proofs.Lies.{event_map_length}
use Rattle.lists.proofs.Parts.{part_length, take_sets}
use Rattle.stay.specs.StepsAll.{all_events, medians_in, AllFound}

-- ---- points

abbrev px : Point → Float
px p = p.x

abbrev py : Point → Float
py p = p.y

points_append : (xs ys : List Float) (ms : List Point) → length xs ≡ length ys → points (xs ++ map px ms) (ys ++ map py ms) ≡ points xs ys ++ ms
unfolding points
points_append [] [] [] h = refl
points_append [] [] (m ∷ ms) h = ap (λ (r : List Point). m ∷ r) (points_append [] [] ms refl)
points_append [] (y ∷ ys) ms h = absurd (omega arith)
points_append (x ∷ xs) [] ms h = absurd (omega arith)
points_append (x ∷ xs) (y ∷ ys) ms h = ap {B = List Point} (λ r. record { x = x; y = y } ∷ r) (points_append xs ys ms (omega arith))

-- ---- traces one after the other

-- The traces, each with its place, follow one another from `at` on, and end at n.
abbrev pub Follow : ℕ → ℕ → List (ℕ × List Fix) → Type 0
Follow at n [] = at ≡ n
Follow at n (p ∷ ps) = (p.0 ≡ at) × Follow (at + length (p.1)) n ps

pub follow_placed : (at n : ℕ) (ns : List ℕ) (fs : List Fix) → total ns ≡ length fs → at + length fs ≡ n → Follow at n (placed at ns fs)
unfolding placed total
follow_placed at n [] fs h e = omega arith
follow_placed at n (k ∷ ns) fs h e =
    let l : length (take k fs) ≡ k = length-take-le k fs (omega arith) in
    let d = length-drop k fs in
    (refl, subst (λ (i : ℕ). Follow (at + i) n (placed (at + k) ns (drop k fs))) (sym l) (follow_placed (at + k) n ns (drop k fs) (omega arith) (omega arith)))

follow_ends : (at n : ℕ) (ps : List (ℕ × List Fix)) → Follow at n ps → at ≤ n
follow_ends at n [] f = omega arith
follow_ends at n (p ∷ ps) f = omega (arith, follow_ends (at + length (p.1)) n ps f.1)

abbrev pub traces_in : List (ℕ × List Fix) → List (List Fix)
traces_in ps = map (λ (p : ℕ × List Fix). p.1) ps

module _ (s : Config) (ts : List (List Fix)) (n : ℕ) where
  -- The medians of the `found` stays so far.
  abbrev medians_so_far : ℕ → List Float → List Point
  medians_so_far found w = points (take found (quarter 2 w)) (take found (quarter 3 w))

  -- `found` stays are in the traces before place `at`, and ps are those from there on.
  pub record Reached (at found : ℕ) (w : List Float) (e : List ℤ) (ps : List (ℕ × List Fix)) : Type 0 where
    pub follow : Follow at n ps
    pub few : found ≤ at
    pub count : found + length (all_medians euclidean s (traces_in ps)) ≡ length (all_medians euclidean s ts)
    pub medians : medians_so_far found w ++ all_medians euclidean s (traces_in ps) ≡ all_medians euclidean s ts
    pub numbered : take at e ++ all_events euclidean s found (traces_in ps) ≡ all_events euclidean s 0 ts

  pub reached_first : (w : List Float) (e : List ℤ) (ps : List (ℕ × List Fix)) → Follow 0 n ps → traces_in ps ≡ ts → Reached 0 0 w e ps
  unfolding points
  reached_first w e ps f h =
      record {
        follow = f;
        few = omega arith;
        count = omega (arith, ap (λ (z : List (List Fix)). length (all_medians euclidean s z)) h);
        medians = ap (all_medians euclidean s) h;
        numbered = ap (all_events euclidean s 0) h;
      }

  module _ (at found : ℕ) (w : List Float) (e : List ℤ) (a : ℕ) (t : List Fix) (ps qs : List (ℕ × List Fix)) (next : qs ≡ (a, t) ∷ ps) (inv : Reached at found w e qs) where
    follow_on : (a ≡ at) × Follow (at + length t) n ps
    follow_on = subst (Follow at n) next inv.follow

    begins : a ≡ at
    begins = follow_on.0

    ends : at + length t ≤ n
    ends = follow_ends (at + length t) n ps follow_on.1

    abbrev ms : List Point
    ms = stay_medians euclidean s t

    next_medians : all_medians euclidean s (traces_in qs) ≡ ms ++ all_medians euclidean s (traces_in ps)
    unfolding all_medians
    next_medians = ap (λ (z : List (ℕ × List Fix)). all_medians euclidean s (traces_in z)) next

    next_events : all_events euclidean s found (traces_in qs) ≡ event_map euclidean s found t ++ all_events euclidean s (found + length ms) (traces_in ps)
    unfolding all_events
    next_events = ap (λ (z : List (ℕ × List Fix)). all_events euclidean s found (traces_in z)) next

    ms_few : length ms ≤ length t
    ms_few = medians_few euclidean s t

    module _ (work_length : length w ≡ 4 * n) (events_length : length e ≡ n) (v : List Float) (p z : List ℤ) (r : ℕ) (f : Found s t found w v p r) where
      few_on : found + r ≤ at + length t
      few_on = omega (arith, f.count, inv.few, ms_few)

      quarter_on : (j : ℕ) (g : Point → Float) → j ≤ 3 → quarter j v ≡ sets (quarter j w) found (map g ms) → take (found + length ms) (quarter j v) ≡ take found (quarter j w) ++ map g ms
      quarter_on j g h q =
          let l : length w / 4 ≡ n = omega arith in
          let b : length (quarter j w) ≡ length w / 4 = part_length (j * (length w / 4)) (length w / 4) w (between j h) in
          let m : length (map g ms) ≡ length ms = length-map ms g in
          ap (λ (i : ℕ). take (found + i) (quarter j v)) (sym m) ∙ ap (take (found + length (map g ms))) q
          ∙ take_sets (quarter j w) found (map g ms) (omega (arith, inv.few, ends, ms_few))
        where
          between : (j : ℕ) → j ≤ 3 → j * (length w / 4) + length w / 4 ≤ length w
          between zero h = omega arith
          between (suc zero) h = omega arith
          between (suc (suc zero)) h = omega arith
          between (suc (suc (suc zero))) h = omega arith
          between (suc (suc (suc (suc j)))) h = absurd (omega arith)

      front_length : (j : ℕ) → j * (length w / 4) + length w / 4 ≤ length w → length (take found (quarter j w)) ≡ found
      front_length j h =
          let b : length (quarter j w) ≡ length w / 4 = part_length (j * (length w / 4)) (length w / 4) w h in
          length-take-le found (quarter j w) (omega (arith, inv.few, ends))

      medians_on : medians_so_far (found + length ms) v ≡ medians_so_far found w ++ ms
      medians_on =
          ap₂ points (quarter_on 2 px (omega arith) f.medians_x) (quarter_on 3 py (omega arith) f.medians_y)
          ∙ points_append (take found (quarter 2 w)) (take found (quarter 3 w)) ms (front_length 2 (omega arith) ∙ sym (front_length 3 (omega arith)))

      p_length : length p ≡ length t
      p_length = ap length f.numbered ∙ event_map_length euclidean s found t

      events_on : take (at + length t) (take at e ++ (p ++ z)) ≡ take at e ++ event_map euclidean s found t
      events_on =
          ap (take (at + length t)) (sym (append_assoc (take at e) p z))
          ∙ take_at (take at e ++ p) z (at + length t) (simp length-append (omega (arith, p_length, length-take-le at e (omega (arith, ends)))))
          ∙ ap (λ (l : List ℤ). take at e ++ l) f.numbered

      reached_medians : Reached (at + length t) (found + length ms) v (take at e ++ (p ++ z)) ps
      reached_medians =
          record {
            follow = follow_on.1;
            few = omega (arith, inv.few, ms_few);
            count = omega (arith, inv.count, ap length next_medians, length-append ms (all_medians euclidean s (traces_in ps)));
            medians = rw (medians_on, append_assoc) (rw next_medians at inv.medians);
            numbered = rw (events_on, append_assoc) (rw next_events at inv.numbered);
          }

      reached_on : Reached (at + length t) (found + r) v (take at e ++ (p ++ z)) ps
      reached_on = subst (λ (i : ℕ). Reached (at + length t) (found + i) v (take at e ++ (p ++ z)) ps) (sym f.count) reached_medians

  module _ (at found : ℕ) (w : List Float) (e : List ℤ) (ps : List (ℕ × List Fix)) (over : ps ≡ []) (inv : Reached at found w e ps) (work_length : length w ≡ 4 * n) (events_length : length e ≡ n) where
    no_medians : all_medians euclidean s (traces_in ps) ≡ []
    unfolding all_medians
    no_medians = ap (λ (z : List (ℕ × List Fix)). all_medians euclidean s (traces_in z)) over

    no_events : all_events euclidean s found (traces_in ps) ≡ []
    unfolding all_events
    no_events = ap (λ (z : List (ℕ × List Fix)). all_events euclidean s found (traces_in z)) over

    all_fixes : at ≡ n
    all_fixes = subst (Follow at n) over inv.follow

    in_quarter : (j : ℕ) → take found (drop (j * n) w) ≡ take found (quarter j w)
    in_quarter j =
        let q : length w / 4 ≡ n = omega arith in
        ap (λ (i : ℕ). take found (drop (j * i) w)) (sym q)
        ∙ sym (take-take found (length w / 4) (drop (j * (length w / 4)) w) (omega (arith, inv.few, all_fixes)))

    reached_end : AllFound s ts n w e found
    reached_end =
        record {
          count = omega (arith, inv.count, ap length no_medians);
          few = omega (arith, inv.few, all_fixes);
          numbered = sym (take_all at e (omega (arith, all_fixes))) ∙ sym (append-nil (take at e)) ∙ (rw no_events at inv.numbered);
          medians = ap₂ points (in_quarter 2) (in_quarter 3) ∙ sym (append-nil (medians_so_far found w)) ∙ (rw no_medians at inv.medians);
        }

  -- The place where the traces that are left begin, which no variable of the code holds.
  abbrev pub Somewhere : ℕ → List Float → List ℤ → List (ℕ × List Fix) → Type 0
  Somewhere found w e ps = (at : ℕ) × Reached at found w e ps

  module _ (found : ℕ) (w : List Float) (e : List ℤ) (a : ℕ) (t : Trace) (ps qs : List (ℕ × List Fix)) (next : qs ≡ (a, fixes_of t) ∷ ps) where
    -- The trace that comes next lies within.
    pub lies : Somewhere found w e qs → (a + length t.xs.now ≤ n) × (found ≤ a)
    lies (at, inv) =
        let l = fixes_length t.xs.now t.ys.now t.times.now t.marks.now t.ys_length t.times_length t.marks_length in
        let b = begins at found w e a (fixes_of t) ps qs next inv in
        let d = ends at found w e a (fixes_of t) ps qs next inv in
        (omega arith, omega (arith, inv.few))

    -- Its stays are found.
    pub goes_on : Somewhere found w e qs → length w ≡ 4 * n → length e ≡ n → (v : List Float) (p z : List ℤ) (r : ℕ) → Found s (fixes_of t) found w v p r
        → Somewhere (found + r) v (take a e ++ (p ++ z)) ps × (found + r ≤ n)
    goes_on (at, inv) k l v p z r f =
        let b = begins at found w e a (fixes_of t) ps qs next inv in
        let d = ends at found w e a (fixes_of t) ps qs next inv in
        let g = few_on at found w e a (fixes_of t) ps qs next inv k l v p z r f in
        subst (λ (i : ℕ). Somewhere (found + r) v (take i e ++ (p ++ z)) ps × (found + r ≤ n)) (sym b)
        ((at + length (fixes_of t), reached_on at found w e a (fixes_of t) ps qs next inv k l v p z r f), omega arith)

  pub all_found : (found : ℕ) (w : List Float) (e : List ℤ) (ps : List (ℕ × List Fix)) → ps ≡ [] → Somewhere found w e ps → length w ≡ 4 * n → length e ≡ n → AllFound s ts n w e found
  all_found found w e ps over (at, inv) k l = reached_end at found w e ps over inv k l

-- The stays of one trace alone, of n fixes, for which the front of the work slice was lent: how many there are, and the medians when it has come back.
module _ (s : Config) (n : ℕ) (w : List Float) (t : Trace) (v : List Float) (p : List ℤ) (r : ℕ) (e : n ≡ length t.xs.now) (f : Found s (fixes_of t) 0 w v p r) where
  abbrev fs : List Fix
  fs = fixes_of t

  fix_count : length fs ≡ n
  fix_count = fixes_length t.xs.now t.ys.now t.times.now t.marks.now t.ys_length t.times_length t.marks_length ∙ sym e

  pub alone_few : r ≤ n
  alone_few = omega (arith, f.count, medians_few euclidean s fs, fix_count)

  alone : length w ≡ 4 * n → length v ≡ 4 * n → medians_in n (0 + r) v ≡ stay_medians euclidean s fs
  unfolding all_medians
  alone long long' =
      let numbers : length p ≡ n = ap length f.numbered ∙ event_map_length euclidean s 0 fs ∙ fix_count in
      let first = reached_first s (fs ∷ []) n w p ((0, fs) ∷ []) (refl, omega (arith, fix_count)) refl in
      let after = goes_on s (fs ∷ []) n 0 w p 0 t [] _ refl (0, first) long numbers v p [] r f in
      (all_found s (fs ∷ []) n (0 + r) v (take 0 p ++ (p ++ [])) [] refl after.0 long' (ap length (append-nil p) ∙ numbers)).medians
      ∙ append-nil (stay_medians euclidean s fs)

  pub stays_alone : length w ≡ 4 * n → length v ≡ 4 * n → (z : List Float) → medians_in n r (v ++ z) ≡ stay_medians euclidean s fs
  stays_alone long long' z =
      medians_before n r v z alone_few long'
      ∙ ap (λ (k : ℕ). medians_in n k v) (sym (zero-add r)) ∙ alone long long'
