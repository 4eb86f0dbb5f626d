-- Checks in their order: what a refusal or an acceptance of one says of the whole.
use mathlib.Core.Path.{◌≡◌, refl, sym, ap, ◌∙◌}
use mathlib.Core.Bool.{Bool, true, false, false≢true}
use mathlib.Core.List.{List, [], ◌∷◌}
use Prim.Native.Nat.{ℕ, zero, suc, ◌+◌, ◌<◌}
use native.Mathlib.Omega.{arith}
use lib.ListN.{length, get_or}
use Rattle.std.specs.Prelude.{Ok, Err}
use Rattle.std.specs.Result.{result_and}
use Rattle.settings.specs.declared.refusal.Refusal.{Refusal}
use Rattle.settings.specs.Checks.{Checked, is_refused, refuse_if, first_of, in_turn, each_of, each_from}

-- The words of the checks in order: to unfold this is to unfold all of them.
unfoldable pub turns : Unit {0}
unfolding in_turn first_of refuse_if
turns = tt

-- What a test of a callee's answer says of the definition.
pub says : {A : Type 0} {a b d : A} → a ≡ b → a ≡ d → b ≡ d
says p q = sym p ∙ q

pub refuse : (b : Bool) (e : Refusal) → b ≡ true → refuse_if b e ≡ Err e
unfolding refuse_if
refuse b e h = rw h

pub pass : (b : Bool) (e : Refusal) → b ≡ false → refuse_if b e ≡ Ok tt
unfolding refuse_if
pass b e h = rw h

-- A refusal is the answer; past an acceptance the others decide.
pub first_refused : (c d : Checked) → is_refused c ≡ true → first_of c d ≡ c
unfolding first_of
first_refused (Ok u) d h = absurd (false≢true h)
first_refused (Err e) d h = refl

pub first_accepted : (c d : Checked) → is_refused c ≡ false → first_of c d ≡ d
unfolding first_of
first_accepted (Ok u) d h = refl
first_accepted (Err e) d h = absurd (false≢true (sym h))

pub first_alone : (c : Checked) → first_of c (Ok tt) ≡ c
unfolding first_of
first_alone (Ok u) = refl
first_alone (Err e) = refl

-- The library's `and` of two answers.
pub first_is : (c d : Checked) → result_and c d ≡ first_of c d
unfolding first_of
first_is (Ok u) d = refl
first_is (Err e) d = refl

-- The same of a callee's answer.
pub stops : (c d : Checked) {r : Checked} → r ≡ c → is_refused r ≡ true → r ≡ first_of c d
stops c d e h = e ∙ sym (first_refused c d (ap is_refused (sym e) ∙ h))

pub goes_on : (c d : Checked) {r s : Checked} → r ≡ c → is_refused r ≡ false → s ≡ d → s ≡ first_of c d
goes_on c d e h f = f ∙ sym (first_accepted c d (ap is_refused (sym e) ∙ h))

-- ---- where all is accepted, each part is

pub not_refused : (c : Checked) → is_refused c ≡ false → c ≡ Ok tt
not_refused (Ok u) h = refl
not_refused (Err e) h = absurd (false≢true (sym h))

pub accepts : {c r : Checked} → r ≡ c → is_refused r ≡ false → c ≡ Ok tt
accepts {c} e h = not_refused c (ap is_refused (sym e) ∙ h)

pub passed : (b : Bool) (e : Refusal) → refuse_if b e ≡ Ok tt → b ≡ false
unfolding refuse_if
passed true e h = cc
passed false e h = refl

pub first_both : (c d : Checked) → first_of c d ≡ Ok tt → (c ≡ Ok tt) × (d ≡ Ok tt)
unfolding first_of
first_both (Ok u) d h = (refl, h)
first_both (Err e) d h = (h, cc)

pub turn_first : (c : Checked) (cs : List Checked) → in_turn (c ∷ cs) ≡ Ok tt → c ≡ Ok tt
unfolding in_turn
turn_first c cs h = (first_both c (in_turn cs) h).0

pub turn_rest : (c : Checked) (cs : List Checked) → in_turn (c ∷ cs) ≡ Ok tt → in_turn cs ≡ Ok tt
unfolding in_turn
turn_rest c cs h = (first_both c (in_turn cs) h).1

pub each_at : {A : Type 0} (f : A → Checked) (l : List A) (d : A) → each_of f l ≡ Ok tt → (i : ℕ) → i < length l → f (get_or l i d) ≡ Ok tt
unfolding each_of
each_at f [] d h i n = absurd (omega arith)
each_at f (x ∷ l) d h zero n = (first_both (f x) (each_of f l) h).0
each_at f (x ∷ l) d h (suc i) n = each_at f l d (first_both (f x) (each_of f l) h).1 i (omega arith)

each_from_lem : {A : Type 0} (f : ℕ → A → Checked) (k : ℕ) (l : List A) (d : A) → each_from f k l ≡ Ok tt → (i : ℕ) → i < length l → f (k + i) (get_or l i d) ≡ Ok tt
unfolding each_from
each_from_lem f k [] d h i n = absurd (omega arith)
each_from_lem f k (x ∷ l) d h zero n = let e : k + 0 ≡ k = omega arith in rw e (first_both (f k x) (each_from f (suc k) l) h).0
each_from_lem f k (x ∷ l) d h (suc i) n = let e : k + suc i ≡ suc k + i = omega arith in rw e (each_from_lem f (suc k) l d (first_both (f k x) (each_from f (suc k) l) h).1 i (omega arith))

pub each_from_at : {A : Type 0} (f : ℕ → A → Checked) (l : List A) (d : A) → each_from f 0 l ≡ Ok tt → (i : ℕ) → i < length l → f i (get_or l i d) ≡ Ok tt
each_from_at f l d h i n = let e : 0 + i ≡ i = omega arith in rw e at (each_from_lem f 0 l d h i n)

-- ---- a loop over the items from i on
