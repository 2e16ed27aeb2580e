use Rattle.std.proofs.Common.{refl, rules}
use Rattle.host_trace.specs.Inside.Written.{fields_in}
use Rattle.host_trace.proofs.line.told_of.Goals as goal

pub returns : goal.returns
returns c = record {
  fields = fields_in c.in-Some.written;
  written = c.in-Some.ensures;
  named = refl;
  some_name = search rules;
  spelled = c.in-Some-read_number.ensures.some;
  says = c.in-Some-state_of.ensures;
  on = c.in-Some-cpu_of.ensures;
}
