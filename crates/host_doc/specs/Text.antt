-- A text at a key of a table, and a name.
use Rattle.std.specs.Prelude.{ℕ, if◌then◌else◌, List, Option, Some, None, ok_or, Result, Ok, Err}
use Rattle.tab_core.specs.Name.{is_name}
use Rattle.toml.specs.Data.{Data, as_str, Members}
use Rattle.host_doc.specs.Value.{found_at}
use Rattle.host_doc.specs.declared.fault.Path.{Path}
use Rattle.host_doc.specs.declared.fault.HostFault.{HostFault}
use Rattle.host_doc.specs.declared.fault.HostFault.TheVariants.{BadKey, OutOfRange}

-- a text, which is required
abbrev pub text_in : Path → Option Data → Result (List ℕ) HostFault
text_in path None = Err (BadKey path)
text_in path (Some found) = ok_or (as_str found) (BadKey path)

-- a text at a key, which is required
abbrev pub text_at : Path → Members → Result (List ℕ) HostFault
text_at path members = text_in path (found_at path members)

-- the text, where it has the form of a name
abbrev pub well_formed : Path → Result (List ℕ) HostFault → Result (List ℕ) HostFault
well_formed path (Ok text) = if is_name text then Ok text else Err (OutOfRange path)
well_formed path (Err fault) = Err fault

-- a name at a key, which is required
abbrev pub name_text_at : Path → Members → Result (List ℕ) HostFault
name_text_at path members = well_formed path (text_at path members)
