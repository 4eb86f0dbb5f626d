-- Calls one behind the other: what each told, and what all told together.
use mathlib.Core.Path.{◌≡◌, refl, sym, ap, ◌∙◌}
use mathlib.Core.Logic.{◌⊎◌, inl, inr}
use mathlib.Core.List.{List, [], ◌∷◌, ◌++◌, append_assoc}
use Prim.Native.Nat.{ℕ, zero, suc, min}
use native.Mathlib.Omega.{arith}
use lib.ListN.{length, take}
use Rattle.std.specs.Prelude.{Result, Ok, Err, Option, Some, None}
use Rattle.std.specs.Option.{unwrap_or}
use Rattle.std.specs.Result.{result_ok}
use Rattle.std.proofs.lemmas.List.{take_min}
use Rattle.std.specs.Io.{ReadsAtMost}
use Rattle.text.specs.declared.Reader.{Reader}
use Rattle.text.specs.Values.{Columns}
use Rattle.text.specs.Parsed.{Parsed}
use Rattle.text.specs.Machine.{Fed}
use Rattle.text.specs.Pieces.{Starts, Finishes}
use Rattle.settings.specs.declared.refusal.Refusal.TheVariants.{Text}
use Rattle.input.specs.declared.Next.{Next}
use Rattle.input.specs.declared.Next.TheVariants.{More, End, Failed}
use Rattle.input.specs.declared.Piece.{Piece}
use Rattle.input.specs.Calls.{Moved, Call, given, next_of, Taken, Heard, whole, broken, behind, heard_next, heard, ReadFrom}
use Rattle.input.specs.Steps.{HoldsHeard, Took, Told, Ends}

-- ---- one call

-- A call's answer is at most the length of the buffer, where it did not fail.
pub could_be : {E : Type 0} (told : Result ℕ E) (buf : List ℕ) → ReadsAtMost told buf → Moved (length buf) (result_ok told)
could_be (Ok n) buf b = b.0
could_be (Err e) buf b = tt

-- The call that it was.
pub took : {E : Type 0} {r : Reader} {c₁ c₂ : Columns} {p : Piece} (told : Result ℕ E) (buf : List ℕ) → ReadsAtMost told buf → Taken (result_ok told) buf r c₁ p c₂ → (g : Call) × Took g r c₁ p c₂
took told buf b k = (record { count = result_ok told; buffer = buf; could = could_be told buf b }, k)

-- As many bytes of the buffer as there are.
pub first_given : (got : Option ℕ) (buf : List ℕ) → given got buf ≡ take (min (unwrap_or got 0) (length buf)) buf
unfolding given
first_given (Some n) buf = sym (take_min n buf)
first_given None buf = let z : min 0 (length buf) ≡ 0 = omega arith in rw z

pub no_more : {n : Next} → (n ≡ End) ⊎ (n ≡ Failed) → n ≡ More → ⊥
no_more (inl e) q = cc
no_more (inr e) q = cc

pub no_end : {n : Next} → (n ≡ More) ⊎ (n ≡ Failed) → n ≡ End → ⊥
no_end (inl e) q = cc
no_end (inr e) q = cc

-- The end of the input gives no byte.
none_given : (got : Option ℕ) (buf : List ℕ) → next_of got ≡ End → given got buf ≡ []
unfolding next_of given
none_given (Some zero) buf e = refl
none_given (Some (suc n)) buf e = absurd (let z : ⊥ = cc in z)
none_given None buf e = absurd (let z : ⊥ = cc in z)

-- ---- several

behind_none : (h : Heard) → behind [] h ≡ h
unfolding behind
behind_none (whole u) = refl
behind_none broken = refl

behind_more : (t u : List ℕ) (h : Heard) → behind t (behind u h) ≡ behind (t ++ u) h
unfolding behind
behind_more t u (whole v) = ap whole (sym (append_assoc t u v))
behind_more t u broken = refl

heard_as : (k : Next) (g : Call) (gs : List Call) → next_of g.count ≡ k → heard (g ∷ gs) ≡ heard_next k (given g.count g.buffer) (heard gs)
unfolding heard
heard_as k g gs e = ap (λ (z : Next). heard_next z (given g.count g.buffer) (heard gs)) e

-- The calls gs gave the bytes t, and more may come behind them.
record Passed (gs : List Call) (t : List ℕ) : Type 0 where
  then : (hs : List Call) → heard (gs ++ hs) ≡ behind t (heard hs)

module _ {gs : List Call} {t : List ℕ} (p : Passed gs t) (g : Call) where
  passed_last : (k : Next) → next_of g.count ≡ k → heard (gs ++ (g ∷ [])) ≡ behind t (heard_next k (given g.count g.buffer) broken)
  unfolding heard
  passed_last k e = p.then (g ∷ []) ∙ ap (behind t) (heard_as k g [] e)

  passed_more : next_of g.count ≡ More → Passed (gs ++ (g ∷ [])) (t ++ given g.count g.buffer)
  unfolding heard_next
  passed_more e =
      record { then = λ hs. ap heard (append_assoc gs (g ∷ []) hs) ∙ p.then (g ∷ hs) ∙ ap (behind t) (heard_as More g hs e) ∙ behind_more t (given g.count g.buffer) (heard hs) }

-- From the slices c the calls gs, each of which told that there may be more, were read into r and the slices c'.
pub record SoFar (c : Columns) (gs : List Call) (r : Reader) (c' : Columns) : Type 0 where
  bytes : List ℕ
  fed : Fed c bytes r c'
  passed : Passed gs bytes

module _ {c : Columns} where
  pub so_far_start : {r : Reader} → Starts r → ((gs : List Call) × SoFar c gs r c)
  so_far_start e = ([], record { bytes = []; fed = e.start c; passed = record { then = λ hs. sym (behind_none (heard hs)) } })

  -- No call told of an end.
  pub told_spent : {r : Reader} {c' : Columns} → ((gs : List Call) × SoFar c gs r c') → ((hs : List Call) × Told c hs (record { reader = r; next = Failed }) c')
  unfolding behind heard
  told_spent {r} {c'} (gs, s) = (gs ++ [], record { held = rw (s.passed.then []) (no_end (inr refl)) })

  module _ {gs : List Call} {r : Reader} {c₁ : Columns} (s : SoFar c gs r c₁) (g : Call) {p : Piece} {c₂ : Columns} (k : Taken g.count g.buffer r c₁ p c₂) where
    fed_too : Fed c (s.bytes ++ given g.count g.buffer) p.reader c₂
    fed_too = k.read.more s.fed

    more_so_far : p.next ≡ More → SoFar c (gs ++ (g ∷ [])) p.reader c₂
    more_so_far e = record { bytes = s.bytes ++ given g.count g.buffer; fed = fed_too; passed = passed_more s.passed g (sym k.next ∙ e) }

    last_told : (p.next ≡ More → ⊥) → Told c (gs ++ (g ∷ [])) p c₂
    unfolding heard_next behind
    last_told e = record { held = go p.next refl }
      where
        go : (n : Next) → p.next ≡ n → HoldsHeard (heard (gs ++ (g ∷ []))) c p c₂
        go More h = absurd (e h)
        go End h =
            let z : next_of g.count ≡ End = sym k.next ∙ h in
            rw (passed_last s.passed g End z) (h, rw (none_given g.count g.buffer z) at fed_too)
        go Failed h = rw (passed_last s.passed g Failed (sym k.next ∙ h)) (no_end (inr h))

  -- What one call more leaves.
  module _ {r : Reader} {c₁ c₂ : Columns} {p : Piece} where
    pub so_far_more : ((g : Call) × Took g r c₁ p c₂) → ((gs : List Call) × SoFar c gs r c₁) → p.next ≡ More → ((gs : List Call) × SoFar c gs p.reader c₂)
    so_far_more (g, k) (gs, s) e = (gs ++ (g ∷ []), more_so_far s g k e)

    pub told_last : ((g : Call) × Took g r c₁ p c₂) → ((gs : List Call) × SoFar c gs r c₁) → (p.next ≡ More → ⊥) → ((gs : List Call) × Told c gs p c₂)
    told_last (g, k) (gs, s) e = (gs ++ (g ∷ []), last_told s g k e)

-- ---- the end

-- The input has ended.
pub ends_whole : {p : Piece} {q : Parsed} → p.next ≡ End → Finishes p.reader q → Ends p q
ends_whole {p} {q} e f = record { end = λ {c} {c'} {gs} t. go (heard gs) c c' t.held }
  where
    go : (h : Heard) (c c' : Columns) → HoldsHeard h c p c' → ReadFrom h c q c'
    go (whole t) c c' l = f.end l.1
    go broken c c' l = absurd (l e)

-- It has not.
pub ends_broken : {p : Piece} {q : Parsed} → (p.next ≡ End → ⊥) → q ≡ Err Text → Ends p q
ends_broken {p} {q} e f = record { end = λ {c} {c'} {gs} t. go (heard gs) c c' t.held }
  where
    go : (h : Heard) (c c' : Columns) → HoldsHeard h c p c' → ReadFrom h c q c'
    go (whole t) c c' l = absurd (e l.0)
    go broken c c' l = f
