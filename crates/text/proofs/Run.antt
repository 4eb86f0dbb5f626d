-- The machine over a text: how a loop goes on and ends, a text in two parts, and what makes one step.
use Rattle.std.proofs.Common.{◌≡◌, ℕ, ◌+◌, ◌<◌, ◌≤◌, Bool, true, false, leb, List, [], ◌∷◌, ◌++◌, length, get_or, set, drop, refl, add-one, drop_of_length-le, drop-cons, leb-true}
use lib.Ieee.{Float}
use Rattle.text.specs.declared.state.State.{State}
use Rattle.text.specs.declared.state.Stage.{Stage}
use Rattle.text.specs.declared.state.Stage.TheVariants.{SettingNames, Settings, FixNames, Fixes, Outside}
use Rattle.text.specs.declared.field.Field.{Field}
use Rattle.text.specs.Machine.{field_at, set_line, fix_line, fix_ok, Machine, step, run, machine, lexed, lexed_fields, judged, stored, set_if, sign_mark, signed_whole}

pub fix_size : (fs : List Field) (s : State) → fix_ok fs s ≡ true → (field_at fs 7).size ≤ 1000000000
unfolding fix_ok
fix_size fs s e = go (leb (field_at fs 7).size 1000000000) refl where
  go : (t : Bool) → leb (field_at fs 7).size 1000000000 ≡ t → (field_at fs 7).size ≤ 1000000000
  go true h = leb-true _ _ h
  go false h = let f : false ≡ true = simp h at e in cc

-- The line of settings is not the line of a fix.
pub set_unstored : (s r : State) → set_line s ≡ true → stored s r ≡ false
unfolding set_line stored fix_line
set_unstored s r e = go s.stage refl
  where
    go : (g : Stage) → s.stage ≡ g → stored s r ≡ false
    go SettingNames p = rw p
    go Settings p = rw p
    go FixNames p = rw p
    go Fixes p = let f : false ≡ true = rw p at e in cc
    go Outside p = rw p

-- A loop over the bytes.
pub run_next : (m : Machine) (text : List ℕ) (i : ℕ) → i < length text → run m (drop i text) ≡ run (step m (get_or text i 0)) (drop (i + 1) text)
unfolding run
run_next m text i h = rw (drop-cons text i 0 h, add-one i)

pub run_done : (m : Machine) (text : List ℕ) (i : ℕ) → length text ≤ i → run m (drop i text) ≡ m
unfolding run
run_done m text i h = rw (drop_of_length-le text {i = i} h)

-- A text in two parts.
pub run_parts : (m : Machine) (a b : List ℕ) → run m (a ++ b) ≡ run (run m a) b
unfolding run
run_parts m [] b = refl
run_parts m (x ∷ a) b = run_parts (step m x) a b

-- A byte's parts make its step: a fix is stored, or none.
module _ (s t r : State) (b : ℕ) (fields fs : List Field) (et : t ≡ lexed s b) (ef : fs ≡ lexed_fields s b fields) (er : r ≡ judged fs t) where
  pub step_stored : (xs ys ts xs₁ ys₁ ts₁ : List Float) (ms ls ms₁ ls₁ : List ℕ) → stored t r ≡ true
      → xs₁ ≡ set xs t.fixes (signed_whole (field_at fs 8)) → ys₁ ≡ set ys t.fixes (signed_whole (field_at fs 9))
      → ts₁ ≡ set ts t.fixes (signed_whole (field_at fs 10)) → ms₁ ≡ set ms t.fixes (sign_mark (field_at fs 10).sign)
      → ls₁ ≡ set ls (field_at fs 7).size r.len → machine r fs xs₁ ys₁ ts₁ ms₁ ls₁ ≡ step (machine s fields xs ys ts ms ls) b
  unfolding step set_if
  step_stored xs ys ts xs₁ ys₁ ts₁ ms ls ms₁ ls₁ e exs eys ets ems els = rw (← et, ← ef, ← er, e, exs, eys, ets, ems, els)

  pub step_unstored : (xs ys ts : List Float) (ms ls : List ℕ) → stored t r ≡ false → machine r fs xs ys ts ms ls ≡ step (machine s fields xs ys ts ms ls) b
  unfolding step set_if
  step_unstored xs ys ts ms ls e = rw (← et, ← ef, ← er, e)
