-- A median's place is found again, and every place has a stay.
use mathlib.Core.Path.{◌≡◌, refl, sym, ◌∙◌, subst}
use mathlib.Core.Logic.{inl, inr}
use mathlib.Core.Bool.{Bool, true, false, cond}
use mathlib.Core.List.{List, [], ◌∷◌}
use Prim.Native.Nat.{ℕ, zero, suc, ◌<◌, ◌≤◌}
use native.Mathlib.Nat.{zero-lt-suc}
use native.Mathlib.Omega.{arith}
use lib.ListN.{length}
use Rattle.distance.specs.declared.Point.{Point}
use Rattle.neighbors.specs.Places.{Place, same_place, place_of, sighted, sighted_all, places, place_at}
use Rattle.neighbors.specs.StepsPlaces.{stay_count}
use Rattle.neighbors.proofs.SamePlace.{same_self}
use Rattle.lists.proofs.Items.{Among}
use Rattle.neighbors.proofs.Sighted.{counted_all, count_le, longer_all}

abbrev pub Placed : List Place → Point → Type 0
Placed ps m = place_of ps m < length ps

placed_now : (ps : List Place) (m : Point) → Placed (sighted ps m) m
unfolding sighted place_of
placed_now [] m = rw (same_self m) (zero-lt-suc 0)
placed_now (p ∷ ps) m = go (same_place p.at m) refl (placed_now ps m)
  where
    go : (b : Bool) → same_place p.at m ≡ b → Placed (sighted ps m) m → Placed (cond b (record { at = p.at; count = suc p.count } ∷ ps) (p ∷ sighted ps m)) m
    go true e ih = rw e (zero-lt-suc (length ps))
    go false e ih = rw e (omega arith)

placed_still : (ps : List Place) (q m : Point) → Placed ps m → Placed (sighted ps q) m
unfolding sighted place_of
placed_still [] q m h = absurd (omega arith)
placed_still (p ∷ ps) q m h = go (same_place p.at q) (same_place p.at m) refl (placed_still ps q m) h
  where
    go : (b c : Bool) → same_place p.at m ≡ c → (Placed ps m → Placed (sighted ps q) m) → cond c 0 (suc (place_of ps m)) < suc (length ps)
        → Placed (cond b (record { at = p.at; count = suc p.count } ∷ ps) (p ∷ sighted ps q)) m
    go true c e ih k = rw e k
    go false true e ih k = rw e (zero-lt-suc (length (sighted ps q)))
    go false false e ih k = rw e (let r = ih (omega arith) in omega arith)

placed_on : (ps : List Place) (ms : List Point) (m : Point) → Placed ps m → Placed (sighted_all ps ms) m
unfolding sighted_all
placed_on ps [] m h = h
placed_on ps (q ∷ ms) m h = placed_on (sighted ps q) ms m (placed_still ps q m h)

placed_all : (ps : List Place) (ms : List Point) (m : Point) → Among ms m → Placed (sighted_all ps ms) m
unfolding sighted_all
placed_all ps [] m h = absurd h
placed_all ps (q ∷ ms) m (inl e) = placed_on (sighted ps q) ms m (subst (λ (z : Point). Placed (sighted ps q) z) (sym e) (placed_now ps q))
placed_all ps (q ∷ ms) m (inr h) = placed_all (sighted ps q) ms m h

-- Every median has a place, and the search for it finds one of the same bit patterns.
pub placed : (ms : List Point) (m : Point) → Among ms m → Placed (places ms) m
unfolding places
placed ms m h = placed_all [] ms m h

pub placed_same : (ps : List Place) (m : Point) → Placed ps m → same_place (place_at ps (place_of ps m)).at m ≡ true
unfolding place_of
placed_same [] m h = absurd (omega arith)
placed_same (p ∷ ps) m h = go (same_place p.at m) refl h (placed_same ps m)
  where
    go : (b : Bool) → same_place p.at m ≡ b → cond b 0 (suc (place_of ps m)) < suc (length ps) → (Placed ps m → same_place (place_at ps (place_of ps m)).at m ≡ true)
        → same_place (place_at (p ∷ ps) (cond b 0 (suc (place_of ps m)))).at m ≡ true
    go true e k ih = e
    go false e k ih = ih (omega arith)

-- ---- counts

-- Every place has a stay.
abbrev pub Counted : List Place → Type 0
Counted ps = (i : ℕ) → i < length ps → 0 < (place_at ps i).count

counted_sighted : (ps : List Place) (m : Point) → Counted ps → Counted (sighted ps m)
unfolding sighted
counted_sighted [] m h zero k = zero-lt-suc 0
counted_sighted [] m h (suc i) k = absurd (omega arith)
counted_sighted (p ∷ ps) m h i k = go (same_place p.at m) i k (counted_sighted ps m (λ j l. h (suc j) (omega arith)))
  where
    go : (b : Bool) (i : ℕ) → i < length (cond b (record { at = p.at; count = suc p.count } ∷ ps) (p ∷ sighted ps m)) → Counted (sighted ps m)
        → 0 < (place_at (cond b (record { at = p.at; count = suc p.count } ∷ ps) (p ∷ sighted ps m)) i).count
    go true zero k ih = zero-lt-suc p.count
    go true (suc i) k ih = h (suc i) k
    go false zero k ih = h 0 (zero-lt-suc (length ps))
    go false (suc i) k ih = ih i (omega arith)

counted_from : (ps : List Place) (ms : List Point) → Counted ps → Counted (sighted_all ps ms)
unfolding sighted_all
counted_from ps [] h = h
counted_from ps (m ∷ ms) h = counted_from (sighted ps m) ms (counted_sighted ps m h)

pub counted : (ms : List Point) → Counted (places ms)
unfolding places
counted ms = counted_from [] ms (λ i h. absurd (omega arith))

-- The stays of all places are the medians.
pub all_counted : (ms : List Point) → stay_count (places ms) ≡ length ms
unfolding places stay_count
all_counted ms = counted_all [] ms ∙ (omega arith)

pub count_few : (ms : List Point) (i : ℕ) → (place_at (places ms) i).count ≤ length ms
count_few ms i = let a = count_le (places ms) i in let b = all_counted ms in omega arith

-- A median more than none is a place more than none.
pub some_place : (m : Point) (ms : List Point) → 0 < length (places (m ∷ ms))
unfolding places sighted_all sighted
some_place m ms = let a = longer_all (record { at = m; count = 1 } ∷ []) ms in omega arith
