-- Every place is the place of a median that was sighted, and what holds of the medians holds of the places.
use mathlib.Core.Path.{◌≡◌, refl, ap, ◌∙◌}
use mathlib.Core.Logic.{◌⊎◌, inl, inr}
use mathlib.Core.Bool.{Bool, true, false, cond}
use mathlib.Core.List.{List, [], ◌∷◌, ◌++◌, append_assoc, append-nil}
use Prim.Native.Nat.{ℕ, zero, suc, ◌<◌}
use native.Mathlib.Nat.{zero-lt-suc}
use native.Mathlib.Omega.{arith}
use lib.ListN.{length}
use Rattle.distance.specs.declared.Point.{Point}
use Rattle.neighbors.specs.Places.{Place, same_place, place_of, sighted, sighted_all, places}
use Rattle.neighbors.proofs.SamePlace.{same_self}
use Rattle.lists.proofs.Items.{All, Among, among_left, among_right}

-- A median that has a place keeps its number.
kept_number : (ps : List Place) (q m : Point) → place_of ps m < length ps → place_of (sighted ps q) m ≡ place_of ps m
unfolding sighted place_of
kept_number [] q m h = absurd (omega arith)
kept_number (p ∷ ps) q m h = go (same_place p.at q) (same_place p.at m) refl (kept_number ps q m) h
  where
    go : (b c : Bool) → same_place p.at m ≡ c → (place_of ps m < length ps → place_of (sighted ps q) m ≡ place_of ps m)
        → cond c 0 (suc (place_of ps m)) < suc (length ps)
        → place_of (cond b (record { at = p.at; count = suc p.count } ∷ ps) (p ∷ sighted ps q)) m ≡ cond c 0 (suc (place_of ps m))
    go true c e ih k = rw e
    go false true e ih k = rw e
    go false false e ih k = rw e (ap suc (ih (omega arith)))

-- A place after one more median was one before, or is that median's.
old_or_new : (ps : List Place) (q : Point) (i : ℕ) → i < length (sighted ps q) → (i < length ps) ⊎ (place_of (sighted ps q) q ≡ i)
unfolding sighted place_of
old_or_new [] q zero h = inr (rw (same_self q))
old_or_new [] q (suc i) h = absurd (omega arith)
old_or_new (p ∷ ps) q i h = go (same_place p.at q) refl i h (old_or_new ps q)
  where
    go : (b : Bool) → same_place p.at q ≡ b → (i : ℕ) → i < length (cond b (record { at = p.at; count = suc p.count } ∷ ps) (p ∷ sighted ps q))
        → ((j : ℕ) → j < length (sighted ps q) → (j < length ps) ⊎ (place_of (sighted ps q) q ≡ j))
        → (i < suc (length ps)) ⊎ (place_of (cond b (record { at = p.at; count = suc p.count } ∷ ps) (p ∷ sighted ps q)) q ≡ i)
    go true e i k ih = inl k
    go false e zero k ih = inl (zero-lt-suc (length ps))
    go false e (suc i) k ih = elim (ih i (omega arith)) [ inl l ↦ inl (omega arith) | inr d ↦ inr (rw e (ap suc d)) ]

-- Place i is that of a median among ms.
pub record SourceOf (ps : List Place) (ms : List Point) (i : ℕ) : Type 0 where
  pub median : Point
  pub among : Among ms median
  pub place : place_of ps median ≡ i

abbrev Sources : List Place → List Point → Type 0
Sources ps ms = (i : ℕ) → i < length ps → SourceOf ps ms i

sources_on : (ps : List Place) (seen : List Point) (q : Point) → Sources ps seen → Sources (sighted ps q) (seen ++ (q ∷ []))
sources_on ps seen q f i h = go (old_or_new ps q i h)
  where
    go : (i < length ps) ⊎ (place_of (sighted ps q) q ≡ i) → SourceOf (sighted ps q) (seen ++ (q ∷ [])) i
    go (inl l) =
        let s = f i l in
        let k : place_of ps s.median < length ps = rw s.place l in
        record { median = s.median; among = among_left seen (q ∷ []) s.median s.among; place = kept_number ps q s.median k ∙ s.place }
    go (inr e) = record { median = q; among = among_right seen (q ∷ []) q (inl refl); place = e }

sources_all : (ps : List Place) (seen ms : List Point) → Sources ps seen → Sources (sighted_all ps ms) (seen ++ ms)
unfolding sighted_all
sources_all ps seen [] f = rw (append-nil seen) f
sources_all ps seen (m ∷ ms) f = rw (← append_assoc seen (m ∷ []) ms) (sources_all (sighted ps m) (seen ++ (m ∷ [])) ms (sources_on ps seen m f))

-- Every place of medians is that of one of them.
pub sources : (ms : List Point) (i : ℕ) → i < length (places ms) → SourceOf (places ms) ms i
unfolding places
sources ms i h = sources_all [] [] ms (λ j k. absurd (omega arith)) i h

-- ---- what holds of every median holds of every place
module _ (P : Point → Type 0) where
  abbrev pub AtPlace : Place → Type 0
  AtPlace p = P p.at

  sighted_all_lem : (ps : List Place) (q : Point) → All AtPlace ps → P q → All AtPlace (sighted ps q)
  unfolding sighted
  sighted_all_lem [] q a h = (h, tt)
  sighted_all_lem (p ∷ ps) q a h = go (same_place p.at q) (sighted_all_lem ps q a.1 h)
    where
      go : (b : Bool) → All AtPlace (sighted ps q) → All AtPlace (cond b (record { at = p.at; count = suc p.count } ∷ ps) (p ∷ sighted ps q))
      go true r = a
      go false r = (a.0, r)

  all_sighted : (ps : List Place) (ms : List Point) → All AtPlace ps → All P ms → All AtPlace (sighted_all ps ms)
  unfolding sighted_all
  all_sighted ps [] a b = a
  all_sighted ps (m ∷ ms) a b = all_sighted (sighted ps m) ms (sighted_all_lem ps m a b.0) b.1

  pub places_all : (ms : List Point) → All P ms → All AtPlace (places ms)
  unfolding places
  places_all ms b = all_sighted [] ms tt b
