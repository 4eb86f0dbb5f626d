-- Labels of stays and of fixes: read by place, written in loops, and those of the fixes of all traces by their stay numbers.
use mathlib.Core.Path.{◌≡◌, refl, sym, ap, ◌∙◌}
use mathlib.Core.List.{List, [], ◌∷◌, ◌++◌, map}
use mathlib.Core.Logic.{inl, inr}
use mathlib.Core.Option.{Option, none, some}
use Prim.Native.Nat.{ℕ, zero, suc, ◌+◌, ◌*◌, ◌<◌, ◌≤◌}
use native.Mathlib.Numerals.{add-one}
use native.Mathlib.Omega.{arith}
use lib.IntN.{ℤ, pos, negsuc, nat_abs}
use mir.Syntax.{w32}
use mir.Val.{SFits}
use Rattle.std.specs.Int.{FitsUnsignedBits}
use lib.ListN.{length, get_or, take, drop, set, length-map, drop_of_length-le}
use lib.Seq.{drop-cons}
use lib.Ieee.{Float}
use Rattle.lists.proofs.Maps.{map_agree, map_map, get_or_map}
use Rattle.lists.proofs.Written.{written_on, written_end}
use Rattle.distance.specs.declared.Point.{Point}
use Rattle.settings.specs.declared.config.Config.{Config}
use Rattle.trace.specs.Trace.{Fix, fix_count}
use Rattle.stay.specs.Stays.{all_medians, all_fix_medians}
use Rattle.stay.specs.StepsAll.{all_events, AllFound}
use Rattle.stay.proofs.Lies.{median_at, Number}
use Rattle.lists.specs.Lists.{minus_one}
use Rattle.stay.proofs.AllMedians.{all_lies_length}
use Rattle.stay.proofs.AllEvents.{number_below, all_events_number, all_events_lie}
use Rattle.distance.specs.Distance.{Metric, euclidean, points}
use Rattle.std.specs.Prelude.{Some, None}
use Rattle.std.specs.Prelude as std
use Rattle.std.specs.Option.{unwrap_or}
use Rattle.distance.specs.Steps.{no_point}
use Rattle.neighbors.specs.Places.{Place, place_of}
use Rattle.neighbors.specs.StepsPlaces.{place_points, place_found, PlaceFound}
use Rattle.neighbors.proofs.Within.{length_place_points}
use Rattle.neighbors.proofs.Search.{found_some, found_no, place_le}
use Rattle.cluster.specs.FixLabels.{fix_labels, label_for, stay_labels}
use Rattle.cluster.specs.Steps.{event_label, event_labels}

-- ---- the label of a median's place

place_is : (ps : List Place) (m : Point) (o : std.Option ℕ) {n : ℕ} → o ≡ place_found ps m → n ≡ length ps → unwrap_or o n ≡ place_of ps m
place_is ps m (Some i) e q = (found_some ps m i e).0
place_is ps m None e q = let a = found_no ps m e in let b = place_le ps m in omega arith

pub label_at_place : (qs : List Point) (pl : List ℤ) (m : Point) {o : std.Option ℕ} {n : ℕ} {l : ℤ} → PlaceFound qs m o → n ≡ length qs → l ≡ get_or pl (unwrap_or o n) (negsuc 0)
    → (ps : List Place) → place_points ps ≡ qs → l ≡ label_for ps pl (some m)
unfolding label_for
label_at_place qs pl m {o} f p e ps q =
    e ∙ ap (λ (i : ℕ). get_or pl i (negsuc 0)) (place_is ps m o (f ps q) (p ∙ sym (ap length q) ∙ length_place_points ps))

-- ---- the label of a stay number

pub no_label : (sl : List ℤ) (e : ℤ) → SFits w32 e → (FitsUnsignedBits 64 e → ⊥) → negsuc 0 ≡ event_label sl e
unfolding event_label
no_label sl (pos n) s h = absurd (h (omega (arith, s.sfits)))
no_label sl (negsuc n) s h = refl

pub label_of : (sl : List ℤ) (e : ℤ) (i : ℕ) → FitsUnsignedBits 64 e × (i ≡ nat_abs e) → get_or sl i (negsuc 0) ≡ event_label sl e
unfolding event_label
label_of sl (pos n) i h = rw h.1 refl
label_of sl (negsuc n) i h = absurd h.0

-- ---- the labels of fixes

module _ (es sl : List ℤ) where
  abbrev pub FixesLabelled : List ℤ → ℕ → Type 0
  FixesLabelled out i = take i out ++ event_labels sl (drop i es) ≡ event_labels sl es

  pub fix_labelled : (out : List ℤ) (i : ℕ) (v : ℤ) → FixesLabelled out i → i < length es → length out ≡ length es → v ≡ event_label sl (get_or es i (pos 0)) → FixesLabelled (set out i v) (i + 1)
  unfolding event_labels
  fix_labelled out i v inv h l e =
      written_on out (map (event_label sl) (drop (i + 1) es)) (map (event_label sl) es) i v (omega arith)
      (rw (e, add-one i) (rw (drop-cons es i (pos 0) h) at inv))

  pub fixes_labelled : (out : List ℤ) (i : ℕ) → FixesLabelled out i → length es ≤ i → length out ≡ length es → out ≡ event_labels sl es
  unfolding event_labels
  fixes_labelled out i inv h l = written_end out (map (event_label sl) es) i (omega arith) (rw (drop_of_length-le es {i = i} h) at inv)

-- ---- the labels of stays

module _ (ms qs : List Point) (pl : List ℤ) where
  -- The labels of the first i stays are written; those of the medians in `left` are still to come.
  unfoldable pub StaysLabelled : List ℤ → ℕ → List Point → Type 0
  StaysLabelled out i left = (ps : List Place) → place_points ps ≡ qs → take i out ++ stay_labels ps pl left ≡ stay_labels ps pl ms

  pub stays_start : (out : List ℤ) (left : List Point) → left ≡ ms → StaysLabelled out 0 left
  unfolding StaysLabelled
  stays_start out left e ps q = ap (stay_labels ps pl) e

  pub stay_labelled : (out : List ℤ) (i : ℕ) (left rest : List Point) (m : Point) (v : ℤ) → StaysLabelled out i left → left ≡ m ∷ rest
      → i < length out → ((ps : List Place) → place_points ps ≡ qs → v ≡ label_for ps pl (some m)) → StaysLabelled (set out i v) (i + 1) rest
  unfolding StaysLabelled stay_labels
  stay_labelled out i left rest m v inv first h e ps q =
      written_on out (map label rest) (map label ms) i v h (rw (e ps q) (rw first at (inv ps q)))
    where
      label : Point → ℤ
      label p = label_for ps pl (some p)

  pub stays_labelled : (out : List ℤ) (i : ℕ) (left : List Point) → StaysLabelled out i left → left ≡ [] → length out ≤ i
      → (ps : List Place) → place_points ps ≡ qs → out ≡ stay_labels ps pl ms
  unfolding StaysLabelled stay_labels
  stays_labelled out i left inv e h ps q = written_end out (map (λ (p : Point). label_for ps pl (some p)) ms) i h (rw e at (inv ps q))

-- ---- the labels of the fixes of all traces

-- The label of a stay, by its number, is that of its median's place.
label_by_number : (ps : List Place) (pl : List ℤ) (ms : List Point) (e : ℤ) → Number (length ms) e → event_label (stay_labels ps pl ms) e ≡ label_for ps pl (median_at ms e)
unfolding event_label stay_labels label_for
label_by_number ps pl ms (pos n) (inl q) = absurd (let z : ◌≡◌ {A = ℕ} 0 1 = cc in omega arith)
label_by_number ps pl ms (pos n) (inr (i, q, l)) = get_or_map (λ (m : Point). label_for ps pl (some m)) ms n no_point (negsuc 0) (let z : n ≡ i = cc in omega arith)
label_by_number ps pl ms (negsuc n) q = refl

module _ (dist : Metric) (s : Config) where
  pub fix_labels_length : (ps : List Place) (pl : List ℤ) (ts : List (List Fix)) → length (fix_labels dist s ps pl ts) ≡ fix_count ts
  unfolding fix_labels
  fix_labels_length ps pl ts = length-map (all_fix_medians dist s ts) (label_for ps pl) ∙ all_lies_length dist s ts

  -- The label of fix k.
  pub label_at : (ps : List Place) (pl : List ℤ) (ts : List (List Fix)) (k : ℕ) → get_or (fix_labels dist s ps pl ts) k (negsuc 0) ≡ label_for ps pl (get_or (all_fix_medians dist s ts) k none)
  unfolding fix_labels label_for
  label_at ps pl ts k = at (all_fix_medians dist s ts) k
    where
      at : (l : List (Option Point)) (k : ℕ) → get_or (map (label_for ps pl) l) k (negsuc 0) ≡ label_for ps pl (get_or l k none)
      at [] k = refl
      at (x ∷ xs) zero = refl
      at (x ∷ xs) (suc k) = at xs k

  -- The labels of the fixes' stays are the labels of the fixes.
  pub event_fix_labels : (ps : List Place) (pl : List ℤ) (ts : List (List Fix)) → event_labels (stay_labels ps pl (all_medians dist s ts)) (all_events dist s 0 ts) ≡ fix_labels dist s ps pl ts
  unfolding event_labels fix_labels
  event_fix_labels ps pl ts =
      let ms = all_medians dist s ts in
      let es = all_events dist s 0 ts in
      map_agree (event_label (stay_labels ps pl ms)) (λ (e : ℤ). label_for ps pl (median_at ms e)) minus_one es
      (λ i. label_by_number ps pl ms (get_or es i minus_one)
      (number_below (0 + length ms) (length ms) (get_or es i minus_one) (omega arith) (all_events_number dist s 0 ts i)))
      ∙ sym (map_map (label_for ps pl) (median_at ms) es) ∙ ap (map (label_for ps pl)) (all_events_lie dist s 0 ts ms refl)

-- With the labels of the stays by the medians that `all_stays` leaves, the labels by its stay numbers are those of the fixes.
module _ (s : Config) (ts : List (List Fix)) (n : ℕ) (work : List Float) (events : List ℤ) (r : ℕ) (found : AllFound s ts n work events r) where
  pub found_labels : (ps : List Place) (pl : List ℤ)
      → event_labels (stay_labels ps pl (points (take r (drop (2 * n) work)) (take r (drop (3 * n) work)))) events ≡ fix_labels euclidean s ps pl ts
  found_labels ps pl = rw (found.medians, found.numbered) (event_fix_labels euclidean s ps pl ts)
