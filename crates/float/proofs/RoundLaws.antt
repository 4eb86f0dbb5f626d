-- The laws of `round_ties_away` that other crates cite. Its answer is a value of the format (`rounded_fits`), changes its sign with x (`rounded_neg`), and is x itself where x is a
-- whole number (`rounded_own`). Of a finite x it is the nearest whole number with the sign of x (`rounded_is_nearest`): by the size a / c of x that is `rounded_value`, and the
-- format holds it (`rounded_held`).
use mathlib.Core.Path.{◌≡◌, refl, sym, ap, ◌∙◌, subst}
use Prim.Native.Nat.{ℕ, zero, suc, ◌+◌, ◌*◌, ◌^◌, ◌≤◌, ◌<◌, zero-le}
use native.Mathlib.Nat.{zero-lt-suc, zero-mul, mul-one, mul_assoc, le_trans, lt_of_lt_of_le, le_of_eq, mul-lt-mul_of_pos_right, mul_comm}
use native.Mathlib.Omega.{arith}
use mathlib.Core.Bool.{Bool, true, false, not, cond}
use lib.IntN.{ℤ, pos, negsuc}
use lib.Dec.{T, ltb}
use lib.Pow.{pow-add, pow_pos}
use lib.Ieee.{Float, nan, inf, fin, Format, binary64, prec, emax, low, up, down, odd, units, round, neg, fits}
use lib.Ieee.Fits.{down_pos, nan-fits, inf-fits, round-fits, round_is}
use lib.Ieee.Exact.{HasValue, round_exact}
use lib.Ieee.Back.{round_whole, whole_unique}
use Rattle.float.specs.Binary64.{finite}
use Rattle.float.specs.Round.{nearest_whole, round_ties_away}
use Rattle.float.specs.Meaning.{NearestWhole}
use Rattle.float.proofs.Packing.{fits_parts}
use Rattle.float.proofs.NearestWhole.{nearest_same, nearest_zero, nearest_own, nearest_under, nearest_over, nearest_most}

pub rounded_fits : (x : Float) → T (fits binary64 (round_ties_away x))
unfolding round_ties_away
rounded_fits nan = nan-fits binary64
rounded_fits (inf s) = inf-fits binary64 s
rounded_fits (fin s m e) = round-fits binary64 s (nearest_whole (m * up e) (down e)) 1

-- ---- the sign

pub odd_not : (d : ℕ) (s : Bool) (q k l : ℕ) → odd d (not s) q k l ≡ neg (odd d s q k l)
unfolding odd neg
odd_not d s zero k l = refl
odd_not d s (suc q) k l = refl

units_not : (f : Format) (s : Bool) (q k : ℕ) → units f (not s) q k ≡ neg (units f s q k)
unfolding units neg
units_not f s q k = go (ltb (q * 2 ^ k) (2 ^ (low f + suc (emax f))))
  where
    go : (b : Bool) → cond b (odd (suc (prec f)) (not s) q k (low f)) (inf (not s)) ≡ neg (cond b (odd (suc (prec f)) s q k (low f)) (inf s))
    go true = odd_not (suc (prec f)) s q k (low f)
    go false = refl

round_not : (f : Format) (s : Bool) (a c : ℕ) → round f (not s) a c ≡ neg (round f s a c)
round_not f s a c = round_is f (not s) a c ∙ units_not f s _ _ ∙ sym (ap neg (round_is f s a c))

pub rounded_neg : (x : Float) → round_ties_away (neg x) ≡ neg (round_ties_away x)
unfolding round_ties_away neg
rounded_neg nan = refl
rounded_neg (inf s) = refl
rounded_neg (fin s m e) = round_not binary64 s (nearest_whole (m * up e) (down e)) 1

-- ---- by the size

pub rounded_value : (x : Float) (s : Bool) (a c : ℕ) → 0 < c → HasValue x s a c → round_ties_away x ≡ round binary64 s (nearest_whole a c) 1
unfolding round_ties_away
rounded_value nan s a c p h = absurd h
rounded_value (inf t) s a c p h = absurd h
rounded_value (fin t m e) s a c p h =
    ap (λ (u : Bool). round binary64 u (nearest_whole (m * up e) (down e)) 1) h.0
    ∙ ap (λ (n : ℕ). round binary64 s n 1) (nearest_same (m * up e) (down e) a c (down_pos e) p h.1)

-- a whole number of at most 53 digits and zeros behind them
shifted : (s : Bool) (m a : ℕ) → m < 2 ^ 53 → m * 2 ^ a < 2 ^ 1024 → HasValue (round binary64 s (m * 2 ^ a) 1) s (m * 2 ^ a) 1
shifted s m a short small = round_exact binary64 s (m * 2 ^ a) 1 m (a + low binary64) (zero-lt-suc 0) short (under (low binary64)) (same (low binary64) ∙ sym (mul-one (m * 2 ^ (a + low binary64))))
  where
    same : (l : ℕ) → m * 2 ^ a * 2 ^ l ≡ m * 2 ^ (a + l)
    same l = mul_assoc m (2 ^ a) (2 ^ l) ∙ ap (λ (x : ℕ). m * x) (sym (pow-add 2 a l))

    under : (l : ℕ) → m * 2 ^ (a + l) < 2 ^ (l + 1024)
    under l = subst (λ (x : ℕ). x < 2 ^ (l + 1024)) (same l) (subst (λ (x : ℕ). m * 2 ^ a * 2 ^ l < x) (mul_comm (2 ^ 1024) (2 ^ l) ∙ sym (pow-add 2 l 1024)) (mul-lt-mul_of_pos_right small (pow_pos l)))

-- a value with a fraction has at most 53 digits, and so has the whole number beside it
held : (s : Bool) (m : ℕ) (e : ℤ) → T (fits binary64 (fin s m e)) → HasValue (round binary64 s (nearest_whole (m * up e) (down e)) 1) s (nearest_whole (m * up e) (down e)) 1
held s zero e f =
    subst (λ (n : ℕ). HasValue (round binary64 s n 1) s n 1) (sym (nearest_zero (zero * up e) (down e) (subst (λ (x : ℕ). 2 * x < down e) (sym (zero-mul (up e))) (down_pos e)))) (round_whole binary64 s 0 zero-le)
held s (suc m) (pos a) f =
    let p = fits_parts s m (pos a) f in
    subst (λ (n : ℕ). HasValue (round binary64 s n 1) s n 1) (sym (nearest_own (suc m * 2 ^ a))) (shifted s (suc m) a p.0 (lt_of_lt_of_le p.2 (le_of_eq (mul-one (2 ^ 1024)))))
held s (suc m) (negsuc k) f =
    let p = fits_parts s m (negsuc k) f in
    round_whole binary64 s (nearest_whole (suc m * 1) (2 ^ suc k)) (le_trans (nearest_most (suc m * 1) (2 ^ suc k) (pow_pos (suc k))) (at_most (suc m) p.0))
  where
    at_most : (m : ℕ) → m < 2 ^ 53 → m * 1 + 1 ≤ 2 ^ 53
    at_most m h = omega arith

pub rounded_held : (x : Float) (s : Bool) (a c : ℕ) → T (fits binary64 x) → 0 < c → HasValue x s a c → HasValue (round_ties_away x) s (nearest_whole a c) 1
unfolding round_ties_away
rounded_held nan s a c f p h = absurd h
rounded_held (inf t) s a c f p h = absurd h
rounded_held (fin t m e) s a c f p h =
    subst (λ (u : Bool). HasValue (round binary64 t (nearest_whole (m * up e) (down e)) 1) u (nearest_whole a c) 1) h.0
    (subst (λ (n : ℕ). HasValue (round binary64 t (nearest_whole (m * up e) (down e)) 1) t n 1) (nearest_same (m * up e) (down e) a c (down_pos e) p h.1) (held t m e f))

-- a whole number is its own
pub rounded_own : (x : Float) (s : Bool) (n : ℕ) → T (fits binary64 x) → HasValue x s n 1 → round_ties_away x ≡ x
rounded_own x s n f h =
    whole_unique binary64 (round_ties_away x) x s n (rounded_fits x) f (subst (λ (k : ℕ). HasValue (round_ties_away x) s k 1) (nearest_own n) (rounded_held x s n 1 f (zero-lt-suc 0) h)) h

-- ---- the nearest

pub rounded_is_nearest : (x : Float) → T (fits binary64 x) → T (finite x) → NearestWhole x (round_ties_away x)
unfolding finite
rounded_is_nearest nan f h = absurd h
rounded_is_nearest (inf s) f h = absurd h
rounded_is_nearest (fin s m e) f h =
    let own : HasValue (fin s m e) s (m * up e) (down e) = (refl, refl) in
    record {
      s = s;
      a = m * up e;
      c = down e;
      n = nearest_whole (m * up e) (down e);
      some = down_pos e;
      of_x = own;
      of_r = rounded_held (fin s m e) s (m * up e) (down e) f (down_pos e) own;
      least = nearest_under (m * up e) (down e);
      most = nearest_over (m * up e) (down e) (down_pos e);
    }
