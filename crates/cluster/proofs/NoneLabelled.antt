-- Labels that are all -1, label by label.
use Rattle.std.proofs.Common.{◌≡◌, ◌↔◌, Bool, List, [], ◌∷◌, ℤ, pos, negsuc, ◌<ℤ◌, Decides, refl, arith}
use Rattle.std.specs.Prelude.{IsTrue}
use Rattle.std.specs.List.{All}
use Rattle.std.proofs.lemmas.Bool.Decides.{same_from_decides}
use Rattle.std.proofs.lemmas.Int.{ints}
use Rattle.std.proofs.lemmas.List.Elements.{All-nil, All-cons, All-tail}
use Rattle.cluster.specs.Cluster.{none_labelled}

none_decides : (ls : List ℤ) → Decides (none_labelled ls) (All (λ l. l <ℤ pos 0) ls)
unfolding none_labelled
none_decides [] = (λ e. All-nil (λ l. l <ℤ pos 0), λ h. refl)
none_decides (pos l ∷ ls) = (λ e. absurd (cc), λ h. let k : pos l <ℤ pos 0 = h 0 (pos l) (omega arith) in absurd (omega (arith, ints)))
none_decides (negsuc l ∷ ls) =
    let r = none_decides ls in
    (λ e. All-cons (λ l. l <ℤ pos 0) _ _ (record { lt = tt }) (r.0 e), λ h. r.1 (All-tail (λ l. l <ℤ pos 0) _ _ h))

pub none_by_all : (r : Bool) (ls : List ℤ) → (IsTrue r ↔ All (λ l. l <ℤ pos 0) ls) → r ≡ none_labelled ls
none_by_all r ls h = same_from_decides r (none_labelled ls) h (none_decides ls)
