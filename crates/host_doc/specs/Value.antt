-- What is at a key of a table: its value, or the fault that it has.
use Rattle.std.specs.Prelude.{ℕ, ℤ, pos, negsuc, Bool, ◌&&◌, nat_le, if◌then◌else◌, Option, Some, None, ok_or, Result, Ok, Err}
use Rattle.toml.specs.Data.{Data, as_bool, as_integer, Members, get_member}
use Rattle.host_doc.specs.Path.{word_of}
use Rattle.host_doc.specs.declared.fault.Path.{Path}
use Rattle.host_doc.specs.declared.fault.HostFault.{HostFault}
use Rattle.host_doc.specs.declared.fault.HostFault.TheVariants.{BadKey, OutOfRange}

-- what is at a key
abbrev pub found_at : Path → Members → Option Data
found_at path members = get_member (word_of path.key) members

-- a whole number from `least` to `most`; a value of another type is none
abbrev pub in_range : Path → ℕ → ℕ → Option ℤ → Result ℕ HostFault
in_range path least most None = Err (BadKey path)
in_range path least most (Some (pos n)) = if nat_le least n && nat_le n most then Ok n
    else Err (OutOfRange path)
in_range path least most (Some (negsuc n)) = Err (OutOfRange path)

-- a whole number from `least` to `most`, or where nothing is there its default, if it has one
abbrev pub integer_or : Path → ℕ → ℕ → Option ℕ → Option Data → Result ℕ HostFault
integer_or path least most default None = ok_or default (BadKey path)
integer_or path least most default (Some found) = in_range path least most (as_integer found)

-- a whole number from `least` to `most` at a key, or where nothing is there its default, if it has one
abbrev pub integer_at : Path → ℕ → ℕ → Option ℕ → Members → Result ℕ HostFault
integer_at path least most default members = integer_or path least most default (found_at path members)

-- a truth value, or its default
abbrev pub truth_or : Path → Bool → Option Data → Result Bool HostFault
truth_or path default None = Ok default
truth_or path default (Some found) = ok_or (as_bool found) (BadKey path)

-- a truth value at a key, or its default
abbrev pub truth_at : Path → Bool → Members → Result Bool HostFault
truth_at path default members = truth_or path default (found_at path members)
