-- What is written stands at the front of the slice, as far as there is room.
use mathlib.Core.Path.{◌≡◌, refl, sym, ap, ◌∙◌}
use mathlib.Core.Bool.{Bool, true, false, cond}
use mathlib.Core.List.{List, [], ◌∷◌, ◌++◌, append_assoc, append-nil}
use Prim.Native.Nat.{ℕ, ◌+◌, ◌≤◌, ◌<◌}
use native.Mathlib.Omega.{arith}
use borrow.Author.Tests.{le-ltb, ltb-true, ltb-false}
use lib.Dec.{ltb}
use lib.ListN.{length, length-append, set, take, length-take}
use lib.Seq.{take_all, take-append-le, length-take-le, take-nil}
use Rattle.lists.specs.Lists.{overlay}
use Rattle.lists.proofs.Overlay.{length_overlay}
use Rattle.text.specs.Parsed.{into}
use Rattle.text.proofs.Columns.{into_nil, into_more}
use Rattle.print.specs.Steps.{Out, out, push, pushes}

module _ (l : List ℕ) where
  -- The slice l with the text t in front.
  written : List ℕ → Out
  written t = out (into l t) (length (take (length l) t))

  into_length : (t : List ℕ) → length (into l t) ≡ length l
  unfolding into
  into_length t = length_overlay (take (length l) t) l (omega (arith, length-take (length l) t))

  cut_alike : (t u : List ℕ) → take (length l) t ≡ take (length l) u → into l t ≡ into l u
  unfolding into
  cut_alike t u a = ap (λ (r : List ℕ). overlay r l) a

  -- One byte more.
  written_more : (t : List ℕ) (b : ℕ) → push (written t) b ≡ written (t ++ (b ∷ []))
  unfolding push written
  written_more t b = go (ltb (length t) (length l)) refl
    where
      long : length (t ++ (b ∷ [])) ≡ length t + 1
      long = length-append t (b ∷ [])

      go : (x : Bool) → ltb (length t) (length l) ≡ x
          → cond (ltb (length (take (length l) t)) (length (into l t))) (out (set (into l t) (length (take (length l) t)) b) (length (take (length l) t) + 1)) (out (into l t) (length (take (length l) t)))
          ≡ out (into l (t ++ (b ∷ []))) (length (take (length l) (t ++ (b ∷ []))))
      go true e =
          let h : length t < length l = ltb-true _ _ e in
          let a : take (length l) t ≡ t = take_all (length l) t (omega arith) in
          let c : take (length l) (t ++ (b ∷ [])) ≡ t ++ (b ∷ []) = take_all (length l) (t ++ (b ∷ [])) (omega (arith, long)) in
          rw (a, c, into_length t, e, into_more l t b, long)
      go false e =
          let h : length l ≤ length t = ltb-false _ _ e in
          let a : take (length l) (t ++ (b ∷ [])) ≡ take (length l) t = take-append-le (length l) t (b ∷ []) h in
          let n : length (take (length l) t) ≡ length l = length-take-le (length l) t h in
          rw (into_length t, n, le-ltb (length l) (length l) (omega arith), a, n, cut_alike (t ++ (b ∷ [])) t a)

  written_all : (bs t : List ℕ) → pushes (written t) bs ≡ written (t ++ bs)
  unfolding pushes
  written_all [] t = ap written (sym (append-nil t))
  written_all (b ∷ bs) t = ap (λ (o : Out). pushes o bs) (written_more t b) ∙ written_all bs (t ++ (b ∷ [])) ∙ ap written (append_assoc t (b ∷ []) bs)

  nothing : written [] ≡ out l 0
  unfolding written
  nothing = rw (into_nil l, take-nil {A = ℕ} (length l))

module _ (l t : List ℕ) where
  all_pushed : written l t ≡ pushes (out l 0) t
  all_pushed = sym (written_all l t []) ∙ ap (λ (o : Out). pushes o t) (nothing l)

  -- Where a text is written from the start of a slice.
  pub into_pushed : into l t ≡ (pushes (out l 0) t).bytes
  unfolding written
  into_pushed = ap (λ (o : Out). o.bytes) all_pushed

  pub count_pushed : length (take (length l) t) ≡ (pushes (out l 0) t).used
  unfolding written
  count_pushed = ap (λ (o : Out). o.used) all_pushed
