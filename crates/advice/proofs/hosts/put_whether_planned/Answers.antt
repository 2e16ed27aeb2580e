use Rattle.std.proofs.Common.{rules, ℕ, ◌*◌, inl, inr, refl, subst}
use Rattle.tab_core.specs.declared.TheConstants.{ROUND}
use Rattle.tab_io.specs.Sinks.{Writes}
use Rattle.advice.specs.Advice.{HostHasPlan, TellsOfPlan}
use Rattle.advice.specs.Room.{due_of_tasks, planned_text, unplanned_text}
use Rattle.advice.proofs.WritesLemmas.{writes_such}
use Rattle.advice.proofs.hosts.put_whether_planned.Goals as goal

pub returns-then-branch : goal.returns-then-branch
returns-then-branch g c =
    let has : HostHasPlan c.args.host.now = c.in_ok-has_plan.ensures.found.0 c.if-branch.true in
    let text = planned_text (due_of_tasks c.args.tasks) (c.args.host.now.cores * ROUND) in
    let writes : Writes {U = Unit {0}} (g.K.Sink.state c.args.sink.now) (g.K.Sink.state c.put_planned.new.sink)
    text c.put_planned.result = search rules in
    rw c.of_sink.ensures (writes_such (TellsOfPlan c.args.host.now c.args.tasks) text _ _ _
    (inl (has, refl)) writes)

pub returns-else-branch : goal.returns-else-branch
returns-else-branch g c =
    let none : ¬ (HostHasPlan c.args.host.now) = λ has.
    let no = c.if-branch.false in let yes = c.in_ok-has_plan.ensures.found.1 has in absurd cc in
    let room = c.args.host.now.cores * ROUND in
    let text = unplanned_text (due_of_tasks c.args.tasks) room in
    let wrote : Writes {U = Unit {0}} (g.K.Sink.state c.args.sink.now) (g.K.Sink.state c.put_unplanned.new.sink)
    (unplanned_text c.due_of-due.result room) c.put_unplanned.result = search rules in
    let writes : Writes {U = Unit {0}} (g.K.Sink.state c.args.sink.now) (g.K.Sink.state c.put_unplanned.new.sink)
    text c.put_unplanned.result = subst (λ (due : ℕ). Writes {U = Unit {0}} (g.K.Sink.state c.args.sink.now)
    (g.K.Sink.state c.put_unplanned.new.sink) (unplanned_text due room) c.put_unplanned.result)
    c.due_of-due.ensures wrote in
    rw c.of_sink-else-branch.ensures (writes_such (TellsOfPlan c.args.host.now c.args.tasks) text _ _ _
    (inr (none, refl)) writes)
