-- The places of medians differ: of two with different numbers a bit pattern differs.
use mathlib.Core.Path.{◌≡◌, refl, sym, ap₂, ◌∙◌, subst}
use mathlib.Core.Logic.{◌≢◌}
use mathlib.Core.Bool.{Bool, true, false, ◌&&◌, cond}
use mathlib.Core.List.{List, [], ◌∷◌, map}
use Prim.Native.Nat.{ℕ, zero, suc, ◌<◌}
use native.Mathlib.Decide.{dec_lt}
use native.Mathlib.Omega.{arith}
use lib.ListN.{length, length-map, get_or-map}
use lib.Ieee.{Float, binary64, to_bits}
use Rattle.lists.proofs.Tests.{eqb_like}
use Rattle.float.specs.Binary64.{same_bits}
use Rattle.distance.specs.declared.Point.{Point}
-- Named so that the example is checked before these lemmas.
use Rattle.neighbors.specs.Examples
use Rattle.neighbors.specs.Places.{same_place, Place, sighted, sighted_all, places, no_place, place_at, AllDiffer}

bits_swap : (x y : Float) → same_bits x y ≡ same_bits y x
unfolding same_bits
bits_swap x y = eqb_like (to_bits binary64 x) (to_bits binary64 y) (to_bits binary64 y) (to_bits binary64 x) sym sym

same_swap : (p q : Point) → same_place p q ≡ same_place q p
unfolding same_place
same_swap p q = ap₂ ◌&&◌ (bits_swap p.x q.x) (bits_swap p.y q.y)

-- Each place differs from those behind it.
Behind : List Place → Type 0
Behind ps = (i j : ℕ) → i < j → j < length ps → same_place (place_at ps i).at (place_at ps j).at ≡ false

-- What holds of m and of every place holds of every place after m.
each_sighted : (P : Point → Type 0) (ps : List Place) (m : Point) → ((i : ℕ) → i < length ps → P (place_at ps i).at) → P m
    → (i : ℕ) → i < length (sighted ps m) → P (place_at (sighted ps m) i).at
unfolding sighted
each_sighted P [] m h k zero l = k
each_sighted P [] m h k (suc i) l = absurd (omega arith)
each_sighted P (p ∷ ps) m h k i l = go (same_place p.at m) i l (each_sighted P ps m (λ j q. h (suc j) (omega arith)) k)
  where
    after : Bool → List Place
    after b = cond b (record { at = p.at; count = suc p.count } ∷ ps) (p ∷ sighted ps m)

    go : (b : Bool) (i : ℕ) → i < length (after b) → ((j : ℕ) → j < length (sighted ps m) → P (place_at (sighted ps m) j).at) → P (place_at (after b) i).at
    go true zero l ih = h 0 (omega arith)
    go true (suc i) l ih = h (suc i) (omega arith)
    go false zero l ih = h 0 (omega arith)
    go false (suc i) l ih = ih i (omega arith)

behind_sighted : (ps : List Place) (m : Point) → Behind ps → Behind (sighted ps m)
unfolding sighted Behind
behind_sighted [] m h i j a l = absurd (omega arith)
behind_sighted (p ∷ ps) m h i j a l = go (same_place p.at m) refl i j a l (behind_sighted ps m (λ u v q r. h (suc u) (suc v) (omega arith) (omega arith)))
  where
    after : Bool → List Place
    after b = cond b (record { at = p.at; count = suc p.count } ∷ ps) (p ∷ sighted ps m)

    go : (b : Bool) → same_place p.at m ≡ b → (i j : ℕ) → i < j → j < length (after b) → Behind (sighted ps m)
        → same_place (place_at (after b) i).at (place_at (after b) j).at ≡ false
    go b e i zero a l ih = absurd (omega arith)
    go true e zero (suc j) a l ih = h 0 (suc j) (omega arith) (omega arith)
    go true e (suc i) (suc j) a l ih = h (suc i) (suc j) (omega arith) (omega arith)
    go false e zero (suc j) a l ih =
        each_sighted (λ (q : Point). same_place p.at q ≡ false) ps m (λ k q. h 0 (suc k) (omega arith) (omega arith)) e j (omega arith)
    go false e (suc i) (suc j) a l ih = ih i j (omega arith) (omega arith)

behind_from : (ps : List Place) (ms : List Point) → Behind ps → Behind (sighted_all ps ms)
unfolding sighted_all
behind_from ps [] h = h
behind_from ps (m ∷ ms) h = behind_from (sighted ps m) ms (behind_sighted ps m h)

behind : (ms : List Point) → Behind (places ms)
unfolding places Behind
behind ms = behind_from [] ms (λ i j a l. absurd (omega arith))

pub places_differ : (ms : List Point) → AllDiffer (map (λ (p : Place). p.at) (places ms))
unfolding Behind
places_differ ms i j h k d =
    let a : i < length (places ms) = subst (λ (n : ℕ). i < n) (length-map (places ms) (λ (p : Place). p.at)) h in
    let b : j < length (places ms) = subst (λ (n : ℕ). j < n) (length-map (places ms) (λ (p : Place). p.at)) k in
    ap₂ same_place (get_or-map (λ (p : Place). p.at) (places ms) i no_place) (get_or-map (λ (p : Place). p.at) (places ms) j no_place) ∙ go a b (dec_lt i j)
  where
    go : i < length (places ms) → j < length (places ms) → Dec (i < j) → same_place (place_at (places ms) i).at (place_at (places ms) j).at ≡ false
    go a b (yes p) = behind ms i j p b
    go a b (no p) = same_swap (place_at (places ms) i).at (place_at (places ms) j).at ∙ behind ms j i (let n : i ≢ j = d in omega arith) a
