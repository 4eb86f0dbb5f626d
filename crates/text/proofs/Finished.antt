-- How the machine goes on after a whole line of settings, or of a fix.
use Rattle.std.proofs.Common.{◌≡◌, ℕ, suc, ◌+◌, ◌<◌, ◌≤◌, Bool, true, false, cond, List, [], ◌∷◌, length, sym, refl, ap, arith, ne_eqb}
use Rattle.text.specs.declared.state.State.{State}
use Rattle.text.specs.declared.state.Stage.{Stage}
use Rattle.text.specs.declared.state.Stage.TheVariants.{Settings, FixNames, Fixes, Outside}
use Rattle.text.proofs.Fields.{moved, ends_well, settings_line, fix_line_lem}
use Rattle.text.proofs.Rows.{settle, finish, RowTold, row_told, tail}
use Rattle.text.proofs.Judged.{Sound, sound}
use Rattle.text.specs.Form.{setting_names, fix_names, row_of, setting_ends, fix_ends}
use Rattle.text.specs.Machine.{Machine, field_at, refused, begun, settings_ok, settled, fix_ok, noted, counted, set_line, fix_line, judged, stored, set_if, run, ended}

pub fix_later : (s : State) (k : ℕ) → 7 ≤ k → ended (begun s Fixes (suc k)) ≡ false
unfolding ended begun
fix_later s k h = simp (ne_eqb (suc k) 7 (λ q. omega arith))

pub setting_later : (s : State) (k : ℕ) → 0 ≤ k → ended (begun s Settings (suc k)) ≡ false
unfolding ended begun
setting_later s k h = refl

-- A fix line, judged.
pub fix_at : (m : Machine) (s : State) (x : Bool) → fix_ok m.fields (begun s Fixes 11) ≡ x
    → (finish Fixes 10 m s).at ≡ cond x (counted (field_at m.fields 7).size (begun s Fixes 11)) (refused (begun s Fixes 11))
unfolding finish settle judged set_line fix_line noted begun
fix_at m s x e = rw e

pub as_moved : (m : Machine) (s : State) → m.at ≡ s → m ≡ moved m s
unfolding moved
as_moved m s e = rw (sym e)

pub counted_begun : (n : ℕ) (s : State) → counted n s ≡ begun (counted n s) Fixes 7
unfolding counted begun
counted_begun n s = refl

pub counted_traces : (n : ℕ) (s : State) → (counted n s).traces ≡ n + 1
unfolding counted
counted_traces n s = refl

pub run_well : (m n : Machine) (t r : List ℕ) → run m t ≡ run n r → ends_well m t ≡ ends_well n r
unfolding ends_well
run_well m n t r p = ap (λ (q : Machine). ended q.at) p

pub refused_stage : (s : State) → (refused s).stage ≡ Outside
unfolding refused
refused_stage s = refl

pub finish_fields : (g : Stage) (last : ℕ) (m : Machine) (s : State) → (finish g last m s).fields ≡ m.fields
unfolding finish settle
finish_fields g last m s = refl

pub fix_row : (t : List ℕ) (m : Machine) (s : State) → RowTold Fixes 10 m s 7 t (row_of fix_ends t)
unfolding fix_ends tail
fix_row t m s = row_told Fixes 10 7 fix_line_lem fix_later 3 7 refl (omega arith) t m s

pub fix_sound : (t : List ℕ) → Sound 4 t (row_of fix_ends t)
unfolding fix_ends
fix_sound t = sound (32 ∷ 32 ∷ 32 ∷ 10 ∷ []) t

pub fix_names_long : 0 < length fix_names
unfolding fix_names
fix_names_long = omega arith

pub setting_names_long : 0 < length setting_names
unfolding setting_names
setting_names_long = omega arith

pub settings_on : (m : Machine) (s : State) → settings_ok m.fields ≡ true → finish Settings 6 m s ≡ moved m (begun s FixNames 0)
unfolding finish settle judged set_line fix_line settled stored set_if begun moved
settings_on m s e = rw e

pub settings_off : (m : Machine) (s : State) → settings_ok m.fields ≡ false → (finish Settings 6 m s).at.stage ≡ Outside
unfolding finish settle judged set_line fix_line settled begun refused
settings_off m s e = rw e

pub setting_row : (t : List ℕ) (m : Machine) (s : State) → RowTold Settings 6 m s 0 t (row_of setting_ends t)
unfolding setting_ends tail
setting_row t m s = row_told Settings 6 0 settings_line setting_later 6 0 refl (omega arith) t m s

pub setting_sound : (t : List ℕ) → Sound 7 t (row_of setting_ends t)
unfolding setting_ends
setting_sound t = sound (32 ∷ 32 ∷ 32 ∷ 32 ∷ 32 ∷ 32 ∷ 10 ∷ []) t
