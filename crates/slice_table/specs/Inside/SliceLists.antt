-- Numbers of slices that never fall and rise by one at most, in blocks of 32.
use Rattle.std.specs.Prelude.{ℕ, zero, suc, ◌+◌, ◌/◌, ◌%◌, ◌^◌, List, [], ◌∷◌, ◌++◌, count_ones, slice_index_or}
use Rattle.slice_table.specs.declared.slice_list.Block.{Block}

-- the number of the slice at this place of the block: the first one's, and one more for each rise up to it
abbrev pub number_in : Block → ℕ → ℕ
number_in block place = block.first + count_ones (block.rises % 2 ^ place)

-- the number of the slice
abbrev pub slice_number_at : List Block → ℕ → ℕ
slice_number_at blocks slice =
    number_in (slice_index_or blocks (slice / 32) (record { first = 0; rises = 0 })) (slice % 32)

-- the numbers of the first so many slices
abbrev pub numbers_of : List Block → ℕ → List ℕ
numbers_of blocks zero = []
numbers_of blocks (suc n) = numbers_of blocks n ++ slice_number_at blocks n ∷ []
