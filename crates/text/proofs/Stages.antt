-- What a byte does at each stage.
use Rattle.std.proofs.Common.{◌≡◌, ℕ, List}
use Rattle.text.specs.declared.state.State.{State}
use Rattle.text.specs.declared.state.Stage.TheVariants.{SettingNames, Settings, FixNames, Fixes, Outside}
use Rattle.text.specs.declared.field.Field.{Field}
use Rattle.text.specs.Form.{setting_names, fix_names}
use Rattle.text.specs.Machine.{name_byte, row_byte, row_fields, lexed, lexed_fields}

module _ (s : State) (b : ℕ) where
  pub lexed_setting_names : s.stage ≡ SettingNames → lexed s b ≡ name_byte setting_names Settings 0 s b
  unfolding lexed
  lexed_setting_names e = rw e

  pub lexed_settings : s.stage ≡ Settings → lexed s b ≡ row_byte 6 s b
  unfolding lexed
  lexed_settings e = rw e

  pub lexed_fix_names : s.stage ≡ FixNames → lexed s b ≡ name_byte fix_names Fixes 7 s b
  unfolding lexed
  lexed_fix_names e = rw e

  pub lexed_fixes : s.stage ≡ Fixes → lexed s b ≡ row_byte 10 s b
  unfolding lexed
  lexed_fixes e = rw e

  pub lexed_outside : s.stage ≡ Outside → lexed s b ≡ s
  unfolding lexed
  lexed_outside e = rw e

  pub fields_setting_names : (l : List Field) → s.stage ≡ SettingNames → lexed_fields s b l ≡ l
  unfolding lexed_fields
  fields_setting_names l e = rw e

  pub fields_settings : (l : List Field) → s.stage ≡ Settings → lexed_fields s b l ≡ row_fields 6 s b l
  unfolding lexed_fields
  fields_settings l e = rw e

  pub fields_fix_names : (l : List Field) → s.stage ≡ FixNames → lexed_fields s b l ≡ l
  unfolding lexed_fields
  fields_fix_names l e = rw e

  pub fields_fixes : (l : List Field) → s.stage ≡ Fixes → lexed_fields s b l ≡ row_fields 10 s b l
  unfolding lexed_fields
  fields_fixes l e = rw e
