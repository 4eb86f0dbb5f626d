-- The end of a loop over two slices side by side.
use mathlib.Core.Path.{◌≡◌, refl}
use mathlib.Core.List.{[]}
use mathlib.Core.Logic.{◌⊎◌}
use lib.ListN.{length}
use Rattle.std.specs.Prelude.{None}
use Rattle.std.specs.declared.iter.Zip.{Zip}
use Rattle.std.specs.declared.slice.Iter.{Iter}
use Rattle.std.specs.Iterator.Adapters.{zip_first, zip_second}
use Rattle.std.specs.Slice.Iter.{iter_rest}
use Rattle.std.proofs.iter.Yields.{fronts}
use Rattle.std.proofs.lemmas.Iterator.{empty_from_Zip}

-- Where one of the two rests is empty and they have one length, both are empty: the first is.
module _ {A B : Type 0} (s : Zip (Iter A) (Iter B)) (e : ((u : Iter A) × fronts (zip_first s) None u) ⊎ ((u : Iter B) × fronts (zip_second s) None u))
    (n : length (iter_rest (zip_first s)) ≡ length (iter_rest (zip_second s))) where
  pub both_spent : iter_rest (zip_first s) ≡ []
  both_spent = (empty_from_Zip s s None refl e n).0
