-- The groups' numbers grow by at most one a node in an isolation pass, and not in a pass of moves.
use mathlib.Core.Path.{◌≡◌}
use mathlib.Core.Bool.{Bool, true, false, cond}
use mathlib.Core.List.{List, [], ◌∷◌}
use Prim.Native.Nat.{ℕ, suc, ◌+◌, ◌<◌, ◌≤◌}
use native.Mathlib.Decide.{ℕ_discrete}
use native.Mathlib.Nat.{add-zero}
use native.Mathlib.Omega.{arith}
use lib.Dec.{ltb, eqb}
use lib.ListN.{length, get_or, set, length-set}
use lib.Seq.{get_or-set_same, get_or-set_other}
use lib.Ieee.{lt, neg}
use Rattle.scan.specs.Scan.{margin, scan, scan_from, consider, better, best_delta, isolate, highest_from, candidates, Answer, no_move, move}
use Rattle.float.specs.Binary64.{sub64}
use Rattle.map_state.specs.Network.{Network, row}
use Rattle.map_state.specs.MapState.{MapState, apply_move, delta_move}
use Rattle.optimize.specs.Rounds.{Pass, act, pass}
use Rattle.optimize.specs.Steps.{AtMost, To, Rises}
use Rattle.lists.proofs.Items.{All}
use Rattle.scan.proofs.Candidates.{each}

pub at_most_at : (b : ℕ) (part : List ℕ) → AtMost b part → (v : ℕ) → v < length part → get_or part v 0 ≤ b
unfolding AtMost
at_most_at b part f = f

pub at_most_more : (b c : ℕ) (part : List ℕ) → b ≤ c → AtMost b part → AtMost c part
unfolding AtMost
at_most_more b c part h f v p = let a = f v p in omega arith

at_most_set : (b : ℕ) (part : List ℕ) (u h : ℕ) → h ≤ b → AtMost b part → AtMost b (set part u h)
unfolding AtMost
at_most_set b part u h k f v p = go (ℕ_discrete v u) where
  go : Dec (v ≡ u) → get_or (set part u h) v 0 ≤ b
  go (yes e) = rw (e, get_or-set_same part u h 0 (rw (length-set part u h, e) at p)) k
  go (no e) = rw (get_or-set_other part u v h 0 e) (f v (rw (length-set part u h) at p))

pick_le : (m g b : ℕ) (t : Bool) → m ≤ b → g ≤ b → cond t g m ≤ b
pick_le m g b true h k = k
pick_le m g b false h k = h

highest_le1 : (b m : ℕ) (part : List ℕ) → m ≤ b → ((v : ℕ) → v < length part → get_or part v 0 ≤ b) → highest_from m part ≤ b
unfolding highest_from
highest_le1 b m [] h f = h
highest_le1 b m (g ∷ gs) h f = highest_le1 b (cond (ltb m g) g m) gs (pick_le m g b (ltb m g) h (f 0 (omega arith))) (λ v p. f (suc v) (omega arith))

pub highest_le : (b : ℕ) (part : List ℕ) → AtMost b part → highest_from 0 part ≤ b
highest_le b part f = highest_le1 b 0 part (omega arith) (at_most_at b part f)

to_pick : (P : ℕ → Type 0) (t : Bool) (a b : Answer) → To P a → To P b → To P (cond t a b)
to_pick P true a b p q = p
to_pick P false a b p q = q

to_scan : (P : ℕ → Type 0) (n : Network) (s : MapState) (u : ℕ) (a : Answer) (hs : List ℕ) → To P a → All P hs → To P (scan_from n s u a hs)
unfolding scan_from consider better
to_scan P n s u a [] p q = p
to_scan P n s u a (h ∷ hs) p q =
    to_scan P n s u (consider n s u a h) hs
    (to_pick P (eqb h (get_or s.partition u 0)) a (better a h (delta_move n s u h)) p (to_pick P (lt (delta_move n s u h) (sub64 (best_delta a) margin)) (move h (delta_move n s u h)) a q.0 p))
    q.1

pub scan_to : (b : ℕ) (n : Network) (s : MapState) (u : ℕ) → AtMost b s.partition → To (λ h. h ≤ b) (scan n s u)
unfolding scan
scan_to b n s u f = to_scan (λ h. h ≤ b) n s u no_move (candidates s.partition (row n u)) tt (each (λ h. h ≤ b) s.partition (row n u) (λ v p t. at_most_at b s.partition f v p))

pub isolate_to : (b : ℕ) (n : Network) (s : MapState) (u : ℕ) → AtMost b s.partition → To (λ h. h ≤ b + 1) (isolate n s u)
unfolding isolate
isolate_to b n s u f = to_pick (λ h. h ≤ b + 1) (lt (delta_move n s u (highest_from 0 s.partition + 1)) (neg margin)) (move (highest_from 0 s.partition + 1) (delta_move n s u (highest_from 0 s.partition + 1))) no_move
    (omega (arith, highest_le b s.partition f)) tt

pub act_at_most : (b : ℕ) (n : Network) (w : Pass) (u : ℕ) (a : Answer) → AtMost b w.state.partition → To (λ h. h ≤ b) a → AtMost b (act n w u a).state.partition
unfolding act apply_move
act_at_most b n w u no_move f t = f
act_at_most b n w u (move h d) f t = at_most_set b w.state.partition u h t f

pub move_pass_at_most : (b : ℕ) (n : Network) (w : Pass) (us : List ℕ) → AtMost b w.state.partition → AtMost b (pass scan n w us).state.partition
unfolding pass
move_pass_at_most b n w [] f = f
move_pass_at_most b n w (u ∷ us) f = move_pass_at_most b n (act n w u (scan n w.state u)) us (act_at_most b n w u (scan n w.state u) f (scan_to b n w.state u f))

pub isolation_pass_at_most : (b : ℕ) (n : Network) (w : Pass) (us : List ℕ) → AtMost b w.state.partition → AtMost (b + length us) (pass isolate n w us).state.partition
unfolding pass
isolation_pass_at_most b n w [] f = rw (add-zero b) f
isolation_pass_at_most b n w (u ∷ us) f =
    at_most_more (b + 1 + length us) (b + suc (length us)) _ (omega arith)
    (isolation_pass_at_most (b + 1) n (act n w u (isolate n w.state u)) us (act_at_most (b + 1) n w u (isolate n w.state u) (at_most_more b (b + 1) w.state.partition (omega arith) f) (isolate_to b n w.state u f)))

-- both ways to ask a node keep to the next number
pub scan_rises : Rises scan
scan_rises b n s u f = scan_to (b + 1) n s u (at_most_more b (b + 1) s.partition (omega arith) f)

pub isolate_rises : Rises isolate
isolate_rises b n s u f = isolate_to b n s u f

-- one node of a pass, as the code's loop counts
pub act_asked_at_most : (i : ℕ) (f : Network → MapState → ℕ → Answer) (n : Network) (w : Pass) (u : ℕ) {a : Answer} {w' : Pass} → Rises f → AtMost (900000 + i) w.state.partition
    → a ≡ f n w.state u → w' ≡ act n w u a → AtMost (900000 + (i + 1)) w'.state.partition
act_asked_at_most i f n w u r m p q =
    let b = 900000 + i in
    rw (q, p) (at_most_more (b + 1) (900000 + (i + 1)) _ (omega arith)
    (act_at_most (b + 1) n w u (f n w.state u) (at_most_more b (b + 1) w.state.partition (omega arith) m) (r b n w.state u m)))
