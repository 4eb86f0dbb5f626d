-- The generator of the trials (xorshift64) and the order of visiting, as `Rng64` of the Rust has them. Definitions only.
use Rattle.std.specs.Prelude.{ℕ, zero, suc, ◌-◌, ◌*◌, ◌/◌, ◌%◌, ◌^◌, List, length, get_or, set}
use Rattle.std.specs.Int.Bits.{bit_xor, bit_or}
use Rattle.lists.specs.Lists.{upto}

-- `Rng64::new`: the first state, a seed with its lowest bit set.
abbrev pub seeded : ℕ → ℕ
seeded seed = bit_or seed 1

-- `next_u64`: the next state, which is also the output. Shifts of 13, 7 and 17 on 64 bits.
unfoldable pub next_u64 : ℕ → ℕ
next_u64 x =
    let a = bit_xor x (x * 2 ^ 13 % 2 ^ 64) in
    let b = bit_xor a (a / 2 ^ 7) in
    bit_xor b (b * 2 ^ 17 % 2 ^ 64)

-- `gen_range`: the index below `len` that an output gives.
abbrev pub gen_range : ℕ → ℕ → ℕ
gen_range output len = output % len

unfoldable pub swap : List ℕ → ℕ → ℕ → List ℕ
swap l i j = set (set l i (get_or l j 0)) j (get_or l i 0)

-- A list after its shuffle, and the generator's state then.
pub record Shuffled : Type 0 where
  pub list : List ℕ
  pub rng : ℕ

-- The items i, i - 1, .., 1 are swapped, each with one at or below it.
unfoldable pub shuffle_from : ℕ → ℕ → List ℕ → Shuffled
shuffle_from zero r l = record { list = l; rng = r }
shuffle_from (suc i) r l = let x = next_u64 r in shuffle_from i x (swap l (suc i) (gen_range x (suc (suc i))))

-- `shuffle`: from the last place down.
unfoldable pub shuffle : ℕ → List ℕ → Shuffled
shuffle r l = shuffle_from (length l - 1) r l

-- The order in which a round visits n nodes, by the generator's state r.
abbrev pub order : ℕ → ℕ → Shuffled
order r n = shuffle r (upto n)
