-- The words from which a host is generated, two for each vCPU.
-- Source: SplitMix64 of G. L. Steele, D. Lea, C. H. Flood, "Fast splittable pseudorandom number
-- generators", OOPSLA 2014, as the crate `rand_xoshiro` defines it.
use Rattle.std.specs.Prelude.{ℕ, zero, suc}
use Rattle.std.specs.Int.{w64, from_le_bytes, to_le_bytes}
use Rattle.rand_xoshiro.specs.SplitMix64.{mix_u64}

-- the generator's state that the eight little-endian bytes of the seed make
abbrev pub state_of_seed : ℕ → ℕ
state_of_seed seed = from_le_bytes w64 (to_le_bytes w64 seed)

-- the word that a state gives
unfoldable pub word_of_state : ℕ → ℕ
word_of_state state = (mix_u64 state).0

-- the state of the generator after it gave a word
unfoldable pub state_after : ℕ → ℕ
state_after state = (mix_u64 state).1

-- the state in which the vCPU of this number takes its two words
unfoldable pub generator_state_at : ℕ → ℕ → ℕ
generator_state_at seed zero = state_of_seed seed
generator_state_at seed (suc number) = state_after (state_after (generator_state_at seed number))

-- the first of the two words of the vCPU of this number
abbrev pub first_word : ℕ → ℕ → ℕ
first_word seed number = word_of_state (generator_state_at seed number)

-- the second of the two words of the vCPU of this number
abbrev pub second_word : ℕ → ℕ → ℕ
second_word seed number = word_of_state (state_after (generator_state_at seed number))
