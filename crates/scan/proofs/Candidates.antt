-- The candidates in rising order, taken one at a time as the lowest at or above a floor.
use mathlib.Core.Path.{◌≡◌, refl, ap, ◌∙◌}
use mathlib.Core.Bool.{Bool, true, false, cond}
use mathlib.Core.List.{List, [], ◌∷◌}
use mathlib.Core.Logic.{inl, inr}
use Rattle.std.specs.Prelude.{Option, Some, None}
use Rattle.std.specs.List.{fold}
use Prim.Native.Nat.{ℕ, max, zero, suc, ◌+◌, ◌^◌, ◌<◌, ◌≤◌}
use native.Mathlib.Omega.{arith}
use native.Mathlib.Numerals.{add-one}
use borrow.Author.Tests.{ltb-true, ltb-false, lt-ltb, le-ltb, eqb-true, eqb-false}
use lib.Dec.{ltb, eqb}
use lib.ListN.{length, get_or}
use lib.Ieee.{Float, nan, lt, of_bits}
use Rattle.lists.specs.Lists.{Has}
use Rattle.lists.proofs.Tests.{clash}
use Rattle.lists.proofs.Items.{All}
use Rattle.float.specs.Binary64.{zero64}
use Rattle.map_state.specs.Network.{Network, row}
use Rattle.map_state.specs.MapState.{MapState}
use Rattle.scan.specs.Scan.{insert_group, candidates, consider, scan_from, scan, highest_from, Answer, no_move}
use Rattle.scan.specs.Steps.{Lowest, Next}
use Rattle.scan.specs.declared.Candidate.{Candidate}

abbrev RisingFrom : ℕ → List ℕ → Type 0
RisingFrom f [] = Unit {0}
RisingFrom f (c ∷ cs) = (f ≤ c) × RisingFrom (suc c) cs

-- those at or above f of a rising list
unfoldable pub up_from : ℕ → List ℕ → List ℕ
up_from f [] = []
up_from f (c ∷ cs) = cond (ltb c f) (up_from f cs) (c ∷ cs)

up_same : (f : ℕ) (cs : List ℕ) → RisingFrom f cs → up_from f cs ≡ cs
unfolding up_from
up_same f [] r = refl
up_same f (c ∷ cs) r = rw (le-ltb c f r.0)

above : (f x : ℕ) (cs : List ℕ) → RisingFrom f cs → Has cs x → f ≤ x
above f x [] r h = absurd h
above f x (c ∷ cs) r (inl e) = omega arith
above f x (c ∷ cs) r (inr h) = let a = above (suc c) x cs r.1 h in omega arith

up_none : (f : ℕ) (cs : List ℕ) → All (λ y. y < f) cs → up_from f cs ≡ []
unfolding up_from
up_none f [] a = refl
up_none f (c ∷ cs) a = rw (lt-ltb c f a.0) (up_none f cs a.1)

up_next : (f lo x : ℕ) (cs : List ℕ) → RisingFrom lo cs → Has cs x → f ≤ x → All (λ y. f ≤ y → x ≤ y) cs → up_from f cs ≡ x ∷ up_from (suc x) cs
unfolding up_from
up_next f lo x [] r h g a = absurd h
up_next f lo x (c ∷ cs) r h g a = go (λ k. up_next f (suc c) x cs r.1 k g a.1) (ltb c f) refl h where
  go : (Has cs x → up_from f cs ≡ x ∷ up_from (suc x) cs) → (b : Bool) → ltb c f ≡ b → Has (c ∷ cs) x → cond b (up_from f cs) (c ∷ cs) ≡ x ∷ cond (ltb c (suc x)) (up_from (suc x) cs) (c ∷ cs)
  go i true t (inl e) = let s = ltb-true c f t in absurd (omega arith)
  go i true t (inr k) = let s = ltb-true c f t in rw (lt-ltb c (suc x) (omega arith)) (i k)
  go i false t (inl e) = rw (e, lt-ltb c (suc c) (omega arith), up_same (suc c) cs r.1)
  go i' false t (inr k) = let s = ltb-false c f t in let o = above (suc c) x cs r.1 k in let i = a.0 s in absurd (omega arith)

-- ---- an ordered insertion
module _ (g : ℕ) where
  insert_rising : (f : ℕ) (cs : List ℕ) → f ≤ g → RisingFrom f cs → RisingFrom f (insert_group g cs)
  unfolding insert_group
  insert_rising f [] h r = (h, tt)
  insert_rising f (c ∷ cs) h r = go (λ k. insert_rising (suc c) cs k r.1) (ltb g c) (eqb g c) refl refl where
    go : (suc c ≤ g → RisingFrom (suc c) (insert_group g cs)) → (b d : Bool) → ltb g c ≡ b → eqb g c ≡ d → RisingFrom f (cond b (g ∷ c ∷ cs) (cond d (c ∷ cs) (c ∷ insert_group g cs)))
    go i true d p q = (h, (ltb-true g c p, r.1))
    go i false true p q = r
    go i false false p q = let a = ltb-false g c p in let b = eqb-false g c q in (r.0, i (omega arith))

  insert_all : (P : ℕ → Type 0) (cs : List ℕ) → P g → All P cs → All P (insert_group g cs)
  unfolding insert_group
  insert_all P [] h a = (h, tt)
  insert_all P (c ∷ cs) h a = go (insert_all P cs h a.1) (ltb g c) (eqb g c) where
    go : All P (insert_group g cs) → (b d : Bool) → All P (cond b (g ∷ c ∷ cs) (cond d (c ∷ cs) (c ∷ insert_group g cs)))
    go i true d = (h, (a.0, a.1))
    go i false true = a
    go i false false = (a.0, i)

  insert_self : (cs : List ℕ) → Has (insert_group g cs) g
  unfolding insert_group
  insert_self [] = inl refl
  insert_self (c ∷ cs) = go (insert_self cs) (ltb g c) (eqb g c) refl where
    go : Has (insert_group g cs) g → (b d : Bool) → eqb g c ≡ d → Has (cond b (g ∷ c ∷ cs) (cond d (c ∷ cs) (c ∷ insert_group g cs))) g
    go i true d q = inl refl
    go i false true q = inl (eqb-true g c q)
    go i false false q = inr i

  insert_has : (x : ℕ) (cs : List ℕ) → Has cs x → Has (insert_group g cs) x
  unfolding insert_group
  insert_has x [] h = absurd h
  insert_has x (c ∷ cs) h = go (insert_has x cs) (ltb g c) (eqb g c) h where
    go : (Has cs x → Has (insert_group g cs) x) → (b d : Bool) → Has (c ∷ cs) x → Has (cond b (g ∷ c ∷ cs) (cond d (c ∷ cs) (c ∷ insert_group g cs))) x
    go i true d k = inr k
    go i false true k = k
    go i false false (inl e) = inl e
    go i false false (inr k) = inr (i k)

-- ---- the candidates of a row
rising : (ps : List ℕ) (ws : List Float) → RisingFrom 0 (candidates ps ws)
unfolding candidates
rising [] ws = tt
rising (p ∷ ps) [] = tt
rising (p ∷ ps) (w ∷ ws) = go (rising ps ws) (lt zero64 w) where
  go : RisingFrom 0 (candidates ps ws) → (b : Bool) → RisingFrom 0 (cond b (insert_group p (candidates ps ws)) (candidates ps ws))
  go i true = insert_rising p 0 (candidates ps ws) (omega arith) i
  go i false = i

pub each : (P : ℕ → Type 0) (ps : List ℕ) (ws : List Float) → ((v : ℕ) → v < length ps → lt zero64 (get_or ws v nan) ≡ true → P (get_or ps v 0)) → All P (candidates ps ws)
unfolding candidates
each P [] ws f = tt
each P (p ∷ ps) [] f = tt
each P (p ∷ ps) (w ∷ ws) f = go (each P ps ws (λ v h t. f (suc v) (omega arith) t)) (lt zero64 w) refl where
  go : All P (candidates ps ws) → (b : Bool) → lt zero64 w ≡ b → All P (cond b (insert_group p (candidates ps ws)) (candidates ps ws))
  go i true t = insert_all p P (candidates ps ws) (f 0 (omega arith) t) i
  go i false t = i

nan_not_above : lt zero64 nan ≡ false
unfolding lt of_bits
nan_not_above = refl

-- The group of each linked node is among the candidates.
pub candidates_have : (ps : List ℕ) (ws : List Float) (v : ℕ) → v < length ps → lt zero64 (get_or ws v nan) ≡ true → Has (candidates ps ws) (get_or ps v 0)
unfolding candidates
candidates_have [] ws v h t = absurd (omega arith)
candidates_have (p ∷ ps) [] v h t = clash (lt zero64 nan) t nan_not_above
candidates_have (p ∷ ps) (w ∷ ws) zero h t = rw t (insert_self p (candidates ps ws))
candidates_have (p ∷ ps) (w ∷ ws) (suc v) h t = go (candidates_have ps ws v (omega arith) t) (lt zero64 w) where
  go : Has (candidates ps ws) (get_or ps v 0) → (b : Bool) → Has (cond b (insert_group p (candidates ps ws)) (candidates ps ws)) (get_or ps v 0)
  go i true = insert_has p (get_or ps v 0) (candidates ps ws) i
  go i false = i

-- ---- the lowest candidate, node by node

-- What the group of the next one must be below: that of the lowest so far, or any number of a group.
abbrev pub Bounds : ℕ → Option Candidate → Type 0
Bounds b (Some c) = b ≡ c.group
Bounds b None = 2 ^ 32 ≤ b

-- ---- the scan, candidate by candidate

-- what is left of the scan from a floor on
unfoldable pub scan_up_from : Network → MapState → ℕ → List ℕ → List Float → Answer → ℕ → Answer
scan_up_from n s u part ws a f = scan_from n s u a (up_from f (candidates part ws))

module _ (n : Network) (s : MapState) (u : ℕ) (part : List ℕ) (ws : List Float) where
  pub scan_start : part ≡ s.partition → ws ≡ row n u → scan_up_from n s u part ws no_move 0 ≡ scan n s u
  unfolding scan_up_from scan
  scan_start p q = rw (up_same 0 (candidates part ws) (rising part ws), p, q)

  pub scan_on : (a a' : Answer) (f : ℕ) (c : Candidate) → Lowest part ws f (length part) c → a' ≡ consider n s u a (get_or part c.member 0) → scan_up_from n s u part ws a' (c.group + 1) ≡ scan_up_from n s u part ws a f
  unfolding scan_up_from scan_from
  scan_on a a' f c x e =
      let o = candidates_have part ws c.member x.inside x.near in
      rw (
        up_next f 0 c.group (candidates part ws) (rising part ws) (rw (← x.number) at o) x.up
            (each (λ y. f ≤ y → c.group ≤ y) part ws x.least),
        e,
        add-one c.group,
        x.number,
      )

  pub scan_end : (a : Answer) (f : ℕ) → Next part ws f (length part) None → a ≡ scan_up_from n s u part ws a f
  unfolding scan_up_from scan_from
  scan_end a f x = rw (up_none f (candidates part ws) (each (λ y. y < f) part ws x))

-- ---- the highest number
highest_folded : (m : ℕ) (part : List ℕ) → fold max m part ≡ highest_from m part
unfolding highest_from
highest_folded m [] = refl
highest_folded m (g ∷ gs) = highest_folded (max m g) gs ∙ ap (λ z. highest_from z gs) (go (ltb m g) refl) where
  go : (b : Bool) → ltb m g ≡ b → max m g ≡ cond b g m
  go true t = let s = ltb-true m g t in omega arith
  go false t = let s = ltb-false m g t in omega arith

pub highest_is : (part : List ℕ) {r : ℕ} → r ≡ fold max 0 part → r ≡ highest_from 0 part
highest_is part e = e ∙ highest_folded 0 part
