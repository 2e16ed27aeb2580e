-- The fields of a line as the reader holds them.
use Rattle.std.specs.Option.{option_copied}
use Rattle.host_trace.specs.TraceLines.{Fields}
use Rattle.host_trace.specs.declared.fields.Written.{Written}

-- their bytes
abbrev pub fields_in : Written → Fields
fields_in written = record {
  time = written.time.now;
  name = written.name.now;
  state = written.state.now;
  cpu = option_copied written.cpu;
}
