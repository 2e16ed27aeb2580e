use Rattle.host_trace.proofs.FieldLemmas.{five_fields}
use Rattle.host_trace.proofs.fields.written_in.Goals as goal

pub returns-in-Some-behind_cpu : goal.returns-in-Some-behind_cpu
returns-in-Some-behind_cpu c = λ fields.
    let one = rw c.in-Some.is at c.first_field.ensures in
    let two = rw c.in-Some-behind_name.is at c.first_field-2.ensures in
    let three = rw c.in-Some-behind_state.is at c.first_field-3.ensures in
    let four = rw c.in-Some-behind_cpu.is at c.first_field-4.ensures in
    five_fields c.args.line.now _ _ _ _ _ _ _ _ fields one two three four
