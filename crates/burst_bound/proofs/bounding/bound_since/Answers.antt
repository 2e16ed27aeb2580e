use Rattle.burst_bound.proofs.FoundLemmas.{budget_lost, is_bound, ready_lost}
use Rattle.burst_bound.proofs.bounding.bound_since.Goals as goal
use Rattle.burst_bound.proofs.bounding.bound_since.Goals.{else-keeps_budget-via-then-keeps_budget+else-stays_ready, else-keeps_budget-via-else-keeps_budget}

pub returns : goal.returns
returns c = λ x is.
    let course = c.args.course.now in
    let used = c.args.used.now in
    let found = c.in_ok-found.ensures in
    elim c.else-keeps_budget.branch [
      | else-keeps_budget-via-then-keeps_budget+else-stays_ready w ↦
          ready_lost course c.args.rounds used c.args.event c.args.vcpu c.args.work c.args.seen x
          (w.stays_ready.ensures.no w.if-stays_ready.false) is
      | else-keeps_budget-via-else-keeps_budget w ↦
          budget_lost course c.args.rounds used c.args.event c.args.vcpu c.args.work c.args.seen c.in_ok-found.found.task
          found.there c.in_ok-found.found.end x found.end
          (rw c.div_ceil-end.ensures at (c.keeps_budget.ensures.no w.if-keeps_budget.false)) is
    ]

pub returns-then-stays_ready : goal.returns-then-stays_ready
returns-then-stays_ready c =
    let course = c.args.course.now in
    let used = c.args.used.now in
    let found = c.in_ok-found.ensures in
    rw c.from.ensures (is_bound course c.args.rounds used c.args.event c.args.vcpu c.args.work c.args.seen
    c.in_ok-found.found.task found.there c.in_ok-found.found.end found.end found.in_run
    (rw c.div_ceil-end.ensures at (c.keeps_budget.ensures.yes c.if-keeps_budget.true))
    (c.stays_ready.ensures.yes c.if-stays_ready.true))

pub returns-in_err-found : goal.returns-in_err-found
returns-in_err-found c =
    rw c.from_residual.ensures (rw c.in_err-found.was at c.end_since.ensures c.args.event)
