-- An array at a key of a table.
use Rattle.std.specs.Prelude.{ℕ, zero, suc, nat_le, if◌then◌else◌, Option, Some, None, Result, Ok, Err}
use Rattle.toml.specs.Data.{Data, as_array, Items, no_items, item, Members}
use Rattle.host_doc.specs.Value.{found_at}
use Rattle.host_doc.specs.declared.fault.Path.{Path}
use Rattle.host_doc.specs.declared.fault.HostFault.{HostFault}
use Rattle.host_doc.specs.declared.fault.HostFault.TheVariants.{BadKey, TooMany}

-- how many values an array has
abbrev pub count_of : Items → ℕ
count_of no_items = zero
count_of (item found items) = suc (count_of items)

-- an array of at most as many values as a host may have vCPUs
abbrev pub limited : Path → Option Items → Result Items HostFault
limited path None = Err (BadKey path)
limited path (Some items) = if nat_le (count_of items) 256 then Ok items
    else Err (TooMany (count_of items))

-- an array of at most 256 values, or its default where nothing is there
abbrev pub items_or : Path → Items → Option Data → Result Items HostFault
items_or path default None = Ok default
items_or path default (Some found) = limited path (as_array found)

-- an array of at most 256 values at a key, or its default where nothing is there
abbrev pub items_at : Path → Items → Members → Result Items HostFault
items_at path default members = items_or path default (found_at path members)
