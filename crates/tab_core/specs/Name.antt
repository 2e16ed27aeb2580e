-- The names of vCPUs.
use Rattle.std.specs.Prelude.{ℕ, ◌==◌, ◌&&◌, ◌||◌, Bool, not, nat_le, IsTrue, List, length, slice_index}
use Rattle.std.specs.List.{list_all}
use Rattle.tab_core.specs.declared.TheConstants.{MAX_NAME}

-- a letter, a digit, '_', '-' or '.'
abbrev pub is_byte_of_name : ℕ → Bool
is_byte_of_name byte =
    (nat_le 97 byte && nat_le byte 122)
    || ((nat_le 65 byte && nat_le byte 90)
    || ((nat_le 48 byte && nat_le byte 57) || ((byte == 95) || ((byte == 45) || (byte == 46)))))

-- the one byte '-', which stands for an idle core
abbrev pub is_lone_dash : List ℕ → Bool
is_lone_dash bytes = (length bytes == 1) && (slice_index bytes 0 == 45)

-- 1 to 32 such bytes, other than the one byte '-'
abbrev pub is_name : List ℕ → Bool
is_name bytes =
    ((nat_le 1 (length bytes) && nat_le (length bytes) MAX_NAME) && not (is_lone_dash bytes))
    && list_all is_byte_of_name bytes

-- the bytes are a name
abbrev pub IsName : List ℕ → Type 0
IsName bytes = IsTrue (is_name bytes)
