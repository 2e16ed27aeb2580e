-- The checksum of bytes.
-- Source: FNV-1a with 64 bits, in G. Fowler, L. C. Noll, K.-P. Vo, D. Eastlake, T. Hansen, "The FNV
-- Non-Cryptographic Hash Algorithm", draft-eastlake-fnv.
use Rattle.std.specs.Prelude.{ℕ, ◌*◌, ◌%◌, ◌^◌, List, bit_xor, fold}

-- the checksum of some bytes, with one more
abbrev pub sum_with : ℕ → ℕ → ℕ
sum_with sum byte = bit_xor sum byte * 1099511628211 % 2 ^ 64

-- the checksum of bytes
abbrev pub checksum : List ℕ → ℕ
checksum bytes = fold sum_with 14695981039346656037 bytes
