use Rattle.std.proofs.Common.{arith}
use Rattle.table_form.proofs.JoiningLemmas.{ends_by_next}
use Rattle.table_form.proofs.segments.ends_maximal.Goals as goal

pub returns : goal.returns
returns c s is =
    ends_by_next c.args.segments.now c.args.at s c.index-segments-at.result c.index-segments-at-2.result
    c.same.result is (omega (arith, c.if-at-segments.false, c.requires)) c.same.ensures
