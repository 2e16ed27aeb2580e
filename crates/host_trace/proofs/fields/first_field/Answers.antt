use Rattle.std.proofs.Common.{rules, refl}
use Rattle.host_trace.proofs.FieldLemmas.{field_first, field_last}
use Rattle.host_trace.proofs.fields.first_field.Goals as goal

pub returns-in-Some : goal.returns-in-Some
returns-in-Some c =
    field_first c.args.line.now _ _ c.in-Some.end (search rules) (search rules) (search rules) refl refl

pub returns-in-None : goal.returns-in-None
returns-in-None c = field_last c.args.line.now (search rules)
