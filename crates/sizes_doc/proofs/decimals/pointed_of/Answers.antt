use Rattle.std.proofs.Common.{◌*◌}
use Rattle.sizes_doc.proofs.PointLemmas.{not_after, not_before, pointed}
use Rattle.sizes_doc.proofs.decimals.pointed_of.Goals as goal

pub returns-in_default-read_number : goal.returns-in_default-read_number
returns-in_default-read_number c = not_before c.args.most c.args.factor c.args.bytes.now c.in-Some.before.now c.in-Some.after.now
    c.in-Some.ensures.0 c.in-Some.ensures.1 c.in_default-read_number.ensures.none

pub returns-in-Some-decimals_of : goal.returns-in-Some-decimals_of
returns-in-Some-decimals_of c = pointed c.args.most c.args.factor c.args.bytes.now c.in-Some.before.now c.in-Some.after.now
    c.in-Some-read_number.number c.in-Some-decimals_of.count c.plus.result c.in-Some.ensures.0
    c.in-Some-read_number.ensures.some c.in-Some-decimals_of.ensures
    (c.plus.ensures (c.in-Some-read_number.number * c.args.factor) c.times.ensures)

pub returns-in-None : goal.returns-in-None
returns-in-None c = not_after c.args.most c.args.factor c.args.bytes.now c.in-Some.before.now c.in-Some.after.now
    c.in-Some.ensures.0 c.in-Some.ensures.1 c.in-None.ensures
