use Rattle.std.proofs.lemmas.Result.{err_from_is_err_and}
use Rattle.plan_make.proofs.OnePlan.{planned_or_refused}
use Rattle.plan_make.proofs.OneRefusal.{planned_or_without_period}
use Rattle.plan_book.proofs.BookMade.{book_of, chosen_of, fits_of, named_of, outcomes_of, rounds_of, some_known, vcpus_of}
use Rattle.plan_book.proofs.OneState.{known_unique}
use Rattle.plan_book.proofs.PlannedAfter.{known_planned}
use Rattle.plan_book.proofs.make.make_book.Goals as goal

pub returns-in_err-first-clause-planned : goal.returns-in_err-first-clause-planned
returns-in_err-first-clause-planned c plan planned =
    let p = err_from_is_err_and c.from_residual.result c.from_residual.ensures.1 in
    rw (p.1, p.2) (c.in_err-first.ensures.planned plan planned)

pub returns-clause-ok : goal.returns-clause-ok
returns-clause-ok c = book_of c.args.host.now c.args.script.now c.in_ok-book_of.field-0 c.in_ok-book_of.ensures

pub returns-clause-known : goal.returns-clause-known
returns-clause-known c = some_known c.args.host.now c.args.script.now c.in_ok-book_of.field-0 c.in_ok-book_of.ensures

pub returns-clause-only : goal.returns-clause-only
returns-clause-only c n known other is of =
    known_unique c.args.host.now c.args.script.now n other known of is

pub returns-clause-changes : goal.returns-clause-changes
returns-clause-changes c = outcomes_of c.args.host.now c.args.script.now c.in_ok-book_of.field-0 c.in_ok-book_of.ensures

pub returns-clause-named : goal.returns-clause-named
returns-clause-named c = named_of c.args.host.now c.args.script.now c.in_ok-book_of.field-0 c.in_ok-book_of.ensures

pub returns-clause-fits_host : goal.returns-clause-fits_host
returns-clause-fits_host c = fits_of c.args.host.now c.args.script.now c.in_ok-book_of.field-0 c.in_ok-book_of.ensures

pub returns-clause-planned_after : goal.returns-clause-planned_after
returns-clause-planned_after c n known is = known_planned c.args.host.now c.args.script.now n known is

pub returns-clause-chosen : goal.returns-clause-chosen
returns-clause-chosen c = chosen_of c.args.host.now c.args.script.now c.in_ok-book_of.field-0 c.in_ok-book_of.ensures

pub returns-clause-vcpus : goal.returns-clause-vcpus
returns-clause-vcpus c = vcpus_of c.args.host.now c.args.script.now c.in_ok-book_of.field-0 c.in_ok-book_of.ensures

pub returns-clause-rounds : goal.returns-clause-rounds
returns-clause-rounds c = rounds_of c.args.host.now c.args.script.now c.in_ok-book_of.field-0 c.in_ok-book_of.ensures

pub returns-clause-without_period : goal.returns-clause-without_period
returns-clause-without_period c vcpu is =
    absurd (planned_or_without_period c.args.host.now _ vcpu c.in_ok-first.ensures.ok is)

pub returns-clause-without_room : goal.returns-clause-without_room
returns-clause-without_room c vcpu rest over is =
    absurd (planned_or_refused c.args.host.now _ vcpu rest over c.in_ok-first.ensures.ok is)
