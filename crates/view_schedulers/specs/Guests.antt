-- The guest and the number of a vCPU by its name, which has them before and after its last dot: `web.0` is number 0
-- of the guest `web`.
-- Source: the names of this project's hosts of sizes.
use Rattle.std.specs.Prelude.{ℕ, zero, suc, ◌+◌, ◌==◌, ◌&&◌, ◌||◌, nat_le, not, Bool, if◌then◌else◌, List, length, drop, slice_index, take}
use Rattle.std.specs.List.{list_all}

-- where the last dot of the first bytes is, and the name's end where there is none
unfoldable pub dot_below : List ℕ → ℕ → ℕ
dot_below name zero = length name
dot_below name (suc k) = if slice_index name k == 46 then k else dot_below name k

-- where the last dot of a vCPU's name is, in bytes from 0; the name's length where it has none
abbrev pub dot_of : List ℕ → ℕ
dot_of name = dot_below name (length name)

-- the guest of the vCPU of this name: what is before the last dot
abbrev pub guest_of : List ℕ → List ℕ
guest_of name = take (dot_of name) name

-- the number of the vCPU of this name in its guest, in digits: what is after the last dot
abbrev pub guest_number : List ℕ → List ℕ
guest_number name = drop (dot_of name + 1) name

-- the byte is a decimal digit of ASCII
abbrev pub is_digit : ℕ → Bool
is_digit byte = nat_le 48 byte && nat_le byte 57

-- some digits, of which the first is no 0 but in `0` itself
abbrev pub is_number : List ℕ → Bool
is_number word = (nat_le 1 (length word) && list_all is_digit word)
    && ((length word == 1) || not (slice_index word 0 == 48))

-- a word that isn't taken for an option: it begins with no dash
abbrev pub is_guest : List ℕ → Bool
is_guest word = nat_le 1 (length word) && not (slice_index word 0 == 45)

-- the name of a vCPU has a guest and a number
abbrev pub has_guest : List ℕ → Bool
has_guest name = is_guest (guest_of name) && is_number (guest_number name)
