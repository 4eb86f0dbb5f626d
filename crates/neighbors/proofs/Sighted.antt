-- One more stay: where the places stand after it, and that it is counted once.
use mathlib.Core.Path.{◌≡◌, refl, ap}
use mathlib.Core.Bool.{Bool, true, false, cond}
use mathlib.Core.List.{List, [], ◌∷◌, ◌++◌}
use Prim.Native.Nat.{ℕ, zero, suc, ◌+◌, ◌<◌, ◌≤◌}
use native.Mathlib.Omega.{arith}
use lib.ListN.{length, get_or, set}
use lib.Ieee.{Float}
use Rattle.distance.specs.declared.Point.{Point}
use Rattle.neighbors.specs.Places.{Place, same_place, place_of, sighted, sighted_all, places_in, place_at}
use Rattle.neighbors.specs.StepsPlaces.{stay_count}

pub length_places_in : (xs ys : List Float) (cs : List ℕ) → length ys ≡ length xs → length cs ≡ length xs → length (places_in xs ys cs) ≡ length xs
unfolding places_in
length_places_in [] ys cs p q = refl
length_places_in (x ∷ xs) [] cs p q = absurd (omega arith)
length_places_in (x ∷ xs) (y ∷ ys) [] p q = absurd (omega arith)
length_places_in (x ∷ xs) (y ∷ ys) (c ∷ cs) p q = ap suc (length_places_in xs ys cs (omega arith) (omega arith))

-- ---- counted again

pub sighted_old : (xs ys : List Float) (cs : List ℕ) (m : Point) → length ys ≡ length xs → length cs ≡ length xs → place_of (places_in xs ys cs) m < length xs
    → places_in xs ys (set cs (place_of (places_in xs ys cs) m) (suc (get_or cs (place_of (places_in xs ys cs) m) 0))) ≡ sighted (places_in xs ys cs) m
unfolding places_in place_of sighted
sighted_old [] ys cs m p q h = absurd (omega arith)
sighted_old (x ∷ xs) [] cs m p q h = absurd (omega arith)
sighted_old (x ∷ xs) (y ∷ ys) [] m p q h = absurd (omega arith)
sighted_old (x ∷ xs) (y ∷ ys) (c ∷ cs) m p q h = go (same_place (record { x = x; y = y }) m) h (sighted_old xs ys cs m (omega arith) (omega arith))
  where
    k : ℕ
    k = place_of (places_in xs ys cs) m

    Goal : Bool → Type 0
    Goal b =
        places_in (x ∷ xs) (y ∷ ys) (set (c ∷ cs) (cond b 0 (suc k)) (suc (get_or (c ∷ cs) (cond b 0 (suc k)) 0)))
        ≡ cond b (record { at = record { x = x; y = y }; count = suc c } ∷ places_in xs ys cs) (record { at = record { x = x; y = y }; count = c }
        ∷ sighted (places_in xs ys cs) m)

    go : (b : Bool) → cond b 0 (suc k) < suc (length xs) → (k < length xs → places_in xs ys (set cs k (suc (get_or cs k 0))) ≡ sighted (places_in xs ys cs) m) → Goal b
    go true l ih = refl
    go false l ih = ap {B = List Place} (λ r. record { at = record { x = x; y = y }; count = c } ∷ r) (ih (omega arith))

-- ---- a new place

pub sighted_new : (xs ys : List Float) (cs : List ℕ) (m : Point) → length ys ≡ length xs → length cs ≡ length xs → length xs ≤ place_of (places_in xs ys cs) m
    → places_in (xs ++ (m.x ∷ [])) (ys ++ (m.y ∷ [])) (cs ++ (1 ∷ [])) ≡ sighted (places_in xs ys cs) m
unfolding places_in place_of sighted
sighted_new [] [] [] m p q h = refl
sighted_new [] [] (c ∷ cs) m p q h = absurd (omega arith)
sighted_new [] (y ∷ ys) cs m p q h = absurd (omega arith)
sighted_new (x ∷ xs) [] cs m p q h = absurd (omega arith)
sighted_new (x ∷ xs) (y ∷ ys) [] m p q h = absurd (omega arith)
sighted_new (x ∷ xs) (y ∷ ys) (c ∷ cs) m p q h = go (same_place (record { x = x; y = y }) m) h (sighted_new xs ys cs m (omega arith) (omega arith))
  where
    k : ℕ
    k = place_of (places_in xs ys cs) m

    head : Place
    head = record { at = record { x = x; y = y }; count = c }

    go : (b : Bool) → suc (length xs) ≤ cond b 0 (suc k)
        → (length xs ≤ k → places_in (xs ++ (m.x ∷ [])) (ys ++ (m.y ∷ [])) (cs ++ (1 ∷ [])) ≡ sighted (places_in xs ys cs) m)
        → ◌≡◌ {A = List Place} (head ∷ places_in (xs ++ (m.x ∷ [])) (ys ++ (m.y ∷ [])) (cs ++ (1 ∷ [])))
        (cond b (record { at = record { x = x; y = y }; count = suc c } ∷ places_in xs ys cs) (head ∷ sighted (places_in xs ys cs) m))
    go true l ih = absurd (omega arith)
    go false l ih = ap {B = List Place} (λ r. head ∷ r) (ih (omega arith))

-- ---- lengths

pub length_old : (ps : List Place) (m : Point) → place_of ps m < length ps → length (sighted ps m) ≡ length ps
unfolding place_of sighted
length_old [] m h = absurd (omega arith)
length_old (p ∷ ps) m h = go (same_place p.at m) h (length_old ps m)
  where
    go : (b : Bool) → cond b 0 (suc (place_of ps m)) < suc (length ps) → (place_of ps m < length ps → length (sighted ps m) ≡ length ps)
        → length (cond b (record { at = p.at; count = suc p.count } ∷ ps) (p ∷ sighted ps m)) ≡ suc (length ps)
    go true l ih = refl
    go false l ih = ap suc (ih (omega arith))

pub length_new : (ps : List Place) (m : Point) → length ps ≤ place_of ps m → length (sighted ps m) ≡ length ps + 1
unfolding place_of sighted
length_new [] m h = refl
length_new (p ∷ ps) m h = go (same_place p.at m) h (length_new ps m)
  where
    go : (b : Bool) → suc (length ps) ≤ cond b 0 (suc (place_of ps m)) → (length ps ≤ place_of ps m → length (sighted ps m) ≡ length ps + 1)
        → length (cond b (record { at = p.at; count = suc p.count } ∷ ps) (p ∷ sighted ps m)) ≡ suc (length ps) + 1
    go true l ih = absurd (omega arith)
    go false l ih = let r = ih (omega arith) in omega arith

pub longer : (ps : List Place) (m : Point) → length ps ≤ length (sighted ps m)
unfolding sighted
longer [] m = omega arith
longer (p ∷ ps) m = go (same_place p.at m) (longer ps m)
  where
    go : (b : Bool) → length ps ≤ length (sighted ps m) → suc (length ps) ≤ length (cond b (record { at = p.at; count = suc p.count } ∷ ps) (p ∷ sighted ps m))
    go true l = omega arith
    go false l = omega arith

pub longer_all : (ps : List Place) (ms : List Point) → length ps ≤ length (sighted_all ps ms)
unfolding sighted_all
longer_all ps [] = omega arith
longer_all ps (m ∷ ms) = let a = longer ps m in let b = longer_all (sighted ps m) ms in omega arith

-- ---- every stay is counted once

pub counted_one : (ps : List Place) (m : Point) → stay_count (sighted ps m) ≡ suc (stay_count ps)
unfolding sighted stay_count
counted_one [] m = refl
counted_one (p ∷ ps) m = go (same_place p.at m) (counted_one ps m)
  where
    go : (b : Bool) → stay_count (sighted ps m) ≡ suc (stay_count ps)
        → stay_count (cond b (record { at = p.at; count = suc p.count } ∷ ps) (p ∷ sighted ps m)) ≡ suc (p.count + stay_count ps)
    go true e = let r : suc p.count + stay_count ps ≡ suc (p.count + stay_count ps) = omega arith in r
    go false e = let r : p.count + stay_count (sighted ps m) ≡ suc (p.count + stay_count ps) = omega arith in r

pub counted_all : (ps : List Place) (ms : List Point) → stay_count (sighted_all ps ms) ≡ stay_count ps + length ms
unfolding sighted_all
counted_all ps [] = omega arith
counted_all ps (m ∷ ms) = let a = counted_one ps m in let b = counted_all (sighted ps m) ms in omega arith

pub count_le : (ps : List Place) (i : ℕ) → (place_at ps i).count ≤ stay_count ps
unfolding stay_count
count_le [] i = omega arith
count_le (p ∷ ps) zero = omega arith
count_le (p ∷ ps) (suc i) = let r = count_le ps i in omega arith

pub count_in : (xs ys : List Float) (cs : List ℕ) (i : ℕ) → length ys ≡ length xs → length cs ≡ length xs → (place_at (places_in xs ys cs) i).count ≡ get_or cs i 0
unfolding places_in
count_in [] ys [] i p q = refl
count_in [] ys (c ∷ cs) i p q = absurd (omega arith)
count_in (x ∷ xs) [] cs i p q = absurd (omega arith)
count_in (x ∷ xs) (y ∷ ys) [] i p q = absurd (omega arith)
count_in (x ∷ xs) (y ∷ ys) (c ∷ cs) zero p q = refl
count_in (x ∷ xs) (y ∷ ys) (c ∷ cs) (suc i) p q = count_in xs ys cs i (omega arith) (omega arith)
