-- The limit against a float: two comparisons tell whether a coordinate is within it.
use mathlib.Core.Path.{◌≡◌, refl, sym, ap, ◌∙◌}
use Prim.Native.Nat.{ℕ, ◌+◌, ◌*◌, ◌<◌}
use native.Mathlib.Omega.{arith}
use mathlib.Core.Bool.{Bool, true, false, not, ◌&&◌, ◌||◌, false≢true}
use borrow.Author.Tests.{ltb-true, ltb-false, lt-ltb, le-leb, lt-leb}
use lib.Dec.{leb, eqb}
use lib.IntN.{ℤ}
use lib.Ieee.{Float, nan, inf, fin, up, down, lt, le, eq, binary64, neg, of_int, of_bits, is_nan}
use lib.Ieee.Fits.{down_pos}
use Rattle.float.specs.Binary64.{whole64}
use Rattle.float.proofs.Order.{le_is}
use Rattle.distance.specs.Limit.{limit, within}
use Rattle.distance.proofs.Size.{at_most}

under : (s : Bool) (m : ℕ) (e : ℤ) → lt (fin s m e) (neg (whole64 limit)) ≡ true → within limit (fin s m e) ≡ false
unfolding lt within neg of_int
under false m e h = absurd (false≢true h)
under true m e h =
    let a = ltb-true (limit * down e) (m * up e * 1) h in
    lt-leb (m * up e) (limit * down e) (omega arith)

over : (s : Bool) (m : ℕ) (e : ℤ) → lt (fin s m e) (neg (whole64 limit)) ≡ false → le (fin s m e) (whole64 limit) ≡ within limit (fin s m e)
unfolding le lt eq within neg of_int
over false m e h = at_most (m * up e * 1) (limit * down e) ∙ ap (λ (z : ℕ). leb z (limit * down e)) (let z : m * up e * 1 ≡ m * up e = omega arith in z)
over true m e h =
    let a = ltb-false (limit * down e) (m * up e * 1) h in
    let p = down_pos e in
    let b : 0 < m * up e * 1 + limit * down e = omega arith in
    ap (λ (z : Bool). z || (eqb (m * up e * 1) (limit * down e) && eqb (m * up e * 1) 0)) (lt-ltb 0 (m * up e * 1 + limit * down e) b)
    ∙ sym (le-leb (m * up e) (limit * down e) (omega arith))

-- The first comparison, turned round.
turned : (s : Bool) (m : ℕ) (e : ℤ) → le (neg (whole64 limit)) (fin s m e) ≡ not (lt (fin s m e) (neg (whole64 limit)))
unfolding neg of_int is_nan
turned s m e = le_is (neg (whole64 limit)) (fin s m e) tt tt

not_true : (b : Bool) → not b ≡ true → b ≡ false
not_true true h = absurd (false≢true h)
not_true false h = refl

not_false : (b : Bool) → not b ≡ false → b ≡ true
not_false true h = refl
not_false false h = absurd (false≢true (sym h))

below : (x : Float) → le (neg (whole64 limit)) x ≡ false → within limit x ≡ false
unfolding within
below nan h = refl
below (inf s) h = refl
below (fin s m e) h = under s m e (not_false (lt (fin s m e) (neg (whole64 limit))) (sym (turned s m e) ∙ h))

up_to : (x : Float) → le (neg (whole64 limit)) x ≡ true → le x (whole64 limit) ≡ within limit x
unfolding le lt eq within neg of_int
up_to nan h = refl
up_to (inf true) h = absurd (false≢true h)
up_to (inf false) h = refl
up_to (fin s m e) h = over s m e (not_true (lt (fin s m e) (neg (whole64 limit))) (sym (turned s m e) ∙ h))

-- The limit as the code writes it.
literal : of_bits binary64 0x41cd_cd65_0000_0000 ≡ whole64 limit
unfolding of_bits of_int
literal = refl

pub below_limit : (x : Float) → le (neg (of_bits binary64 0x41cd_cd65_0000_0000)) x ≡ false → false ≡ within limit x
below_limit x = rw literal λ h. sym (below x h)

pub up_to_limit : (x : Float) → le (neg (of_bits binary64 0x41cd_cd65_0000_0000)) x ≡ true → le x (of_bits binary64 0x41cd_cd65_0000_0000) ≡ within limit x
up_to_limit x = rw literal λ h. up_to x h
