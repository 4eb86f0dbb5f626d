-- How a call for the posting sheet ends, by what its check says.
use mathlib.Core.Path.{◌≡◌}
use mathlib.Core.List.{List}
use Prim.Native.Nat.{ℕ}
use lib.IntN.{ℤ}
use lib.ListN.{length, take}
use lib.Seq.{take_all}
use Rattle.text.specs.Parsed.{into}
use Rattle.settings.specs.declared.refusal.Refusal.{Refusal}
use Rattle.std.specs.Prelude.{Ok, Err}
use Rattle.posting.specs.Sheet.{sheet}
use Rattle.posting.specs.Posted.{check_sheet, ends, ends_by, post_sheet}
use Rattle.posting.proofs.Checked.{sheet_room}

module _ (lens : List ℕ) (labels : List ℤ) (out : List ℕ) where
  pub ends_refused : (e : Refusal) → check_sheet lens labels (length out) ≡ Err e → ends (Err e) out ≡ post_sheet lens labels out
  unfolding post_sheet ends_by
  ends_refused e h = rw h

  -- Where there is room, what is written is the whole sheet.
  pub sheet_posted : check_sheet lens labels (length out) ≡ Ok tt
      → post_sheet lens labels out ≡ ends (Ok (length (take (length out) (sheet lens labels)))) (into out (sheet lens labels))
  unfolding post_sheet ends_by into
  sheet_posted h =
      let s = sheet lens labels in
      let all : take (length out) s ≡ s = take_all (length out) s (sheet_room lens labels (length out) h) in
      rw (h, all)
