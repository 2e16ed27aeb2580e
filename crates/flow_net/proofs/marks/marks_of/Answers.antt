use Rattle.std.proofs.Common.{sym, subst}
use Rattle.std.proofs.lemmas.Result.{IfOk-weaker}
use Rattle.flow_net.specs.Allotments.{AreMarks}
use Rattle.flow_net.specs.Inside.Marking.{AreAmong}
use Rattle.flow_net.proofs.Marking.{few_at, marks_among}
use Rattle.flow_net.proofs.marks.marks_of.Goals as goal

pub marks_of_few-requires-clause-some : goal.marks_of_few-requires-clause-some
marks_of_few-requires-clause-some c v h =
    let among = subst (λ ns. AreAmong ns c.args.periods.now) (sym c.deref.ensures.value)
    c.in_ok-few.ensures.no_more in
    let s = few_at c.deref.result.now c.args.periods.now among v h in
    rw s.2 (c.requires.some s.0 s.1)

pub marks_of_few-requires-clause-short : goal.marks_of_few-requires-clause-short
marks_of_few-requires-clause-short c v h =
    let among = subst (λ ns. AreAmong ns c.args.periods.now) (sym c.deref.ensures.value)
    c.in_ok-few.ensures.no_more in
    let s = few_at c.deref.result.now c.args.periods.now among v h in
    rw s.2 (c.requires.short s.0 s.1)

pub returns : goal.returns
returns c =
    IfOk-weaker c.marks_of_few.result (λ marks. AreMarks c.deref.result.now marks.items)
    (λ marks. AreMarks c.args.periods.now marks.items)
    (λ marks are. marks_among c.args.periods.now c.in_ok-few.few.items marks.items
    c.in_ok-few.ensures.all c.in_ok-few.ensures.no_more
    (subst (λ ns. AreMarks ns marks.items) c.deref.ensures.value are)) c.marks_of_few.ensures
