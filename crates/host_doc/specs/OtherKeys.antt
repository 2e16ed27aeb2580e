-- Keys of a table that aren't in the table of keys.
use Rattle.std.specs.Prelude.{ℕ, Bool, false, ◌||◌, not, if◌then◌else◌, List, Option, Some, None, bytes_eq}
use Rattle.std.specs.List.{list_any}
use Rattle.toml.specs.Data.{Members, no_members, member}
use Rattle.host_doc.specs.Path.{word_of}
use Rattle.host_doc.specs.declared.fault.Key.{Key}
use Rattle.host_doc.specs.declared.fault.Path.{Path}
use Rattle.host_doc.specs.declared.fault.HostFault.{HostFault}
use Rattle.host_doc.specs.declared.fault.HostFault.TheVariants.{BadKey}

-- the word is that of one of these keys
abbrev pub is_among : List Key → List ℕ → Bool
is_among keys word = list_any (λ key. bytes_eq word (word_of key)) keys

-- a key of the table isn't one of these
abbrev pub has_other_key : List Key → Members → Bool
has_other_key keys no_members = false
has_other_key keys (member word found members) = not (is_among keys word) || has_other_key keys members

-- the fault of a table with a key that isn't one of these
abbrev pub unknown_key : Path → List Key → Members → Option HostFault
unknown_key path keys members = if has_other_key keys members then Some (BadKey path) else None
