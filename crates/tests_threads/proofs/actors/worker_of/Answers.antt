use Rattle.std.proofs.Common.{◌≡◌, ℕ, ◌<◌, true, subst, sym, arith}
use Rattle.table_form.specs.Running.Courses.{CourseView}
use Rattle.round_words.specs.Seats.{view_of}
use Rattle.round_words.specs.Views.{holds, names}
use Rattle.round_words.proofs.MaskLemmas.{names_only}
use Rattle.dispatch_core.specs.States.{AgreesWith}
use Rattle.tests_threads.proofs.FreshLemmas.{bit_is, parted}
use Rattle.tests_threads.proofs.actors.worker_of.Goals as goal

pub part-own-requires-clause-holds : goal.part-own-requires-clause-holds
part-own-requires-clause-holds c = λ a on.
    let core = c.args.core in
    let small : core < 32 = omega (arith, c.requires.core.0, c.requires.fresh.started.cores_are, c.cores.ensures.kept.form.outline.few_cores) in
    subst (λ (b : ℕ). holds (view_of c.args.seat.now) b ≡ true)
    (sym (names_only core a (subst (λ (m : ℕ). names m a ≡ true) (bit_is core small) on))) c.requires.core.1

pub returns-in_err-actor-clause-fresh : goal.returns-in_err-actor-clause-fresh
returns-in_err-actor-clause-fresh c =
    let small : c.args.core < 32 = omega (arith, c.requires.core.0, c.requires.fresh.started.cores_are, c.cores.ensures.kept.form.outline.few_cores) in
    (parted c.args.course.now (view_of c.args.seat.now) (view_of c.part-own.new.seat) (view_of c.part-own.result) c.args.core small
    c.requires.fresh c.requires.core c.part-own.ensures.kept c.part-own.ensures.given).kept_fresh

pub returns-in_err-actor-clause-others : goal.returns-in_err-actor-clause-others
returns-in_err-actor-clause-others c =
    let small : c.args.core < 32 = omega (arith, c.requires.core.0, c.requires.fresh.started.cores_are, c.cores.ensures.kept.form.outline.few_cores) in
    (parted c.args.course.now (view_of c.args.seat.now) (view_of c.part-own.new.seat) (view_of c.part-own.result) c.args.core small
    c.requires.fresh c.requires.core c.part-own.ensures.kept c.part-own.ensures.given).others

pub returns-clause-fresh : goal.returns-clause-fresh
returns-clause-fresh c =
    let small : c.args.core < 32 = omega (arith, c.requires.core.0, c.requires.fresh.started.cores_are, c.cores.ensures.kept.form.outline.few_cores) in
    (parted c.args.course.now (view_of c.args.seat.now) (view_of c.part-own.new.seat) (view_of c.part-own.result) c.args.core small
    c.requires.fresh c.requires.core c.part-own.ensures.kept c.part-own.ensures.given).kept_fresh

pub returns-clause-others : goal.returns-clause-others
returns-clause-others c =
    let small : c.args.core < 32 = omega (arith, c.requires.core.0, c.requires.fresh.started.cores_are, c.cores.ensures.kept.form.outline.few_cores) in
    (parted c.args.course.now (view_of c.args.seat.now) (view_of c.part-own.new.seat) (view_of c.part-own.result) c.args.core small
    c.requires.fresh c.requires.core c.part-own.ensures.kept c.part-own.ensures.given).others

pub returns-clause-ready : goal.returns-clause-ready
returns-clause-ready c =
    let small : c.args.core < 32 = omega (arith, c.requires.core.0, c.requires.fresh.started.cores_are, c.cores.ensures.kept.form.outline.few_cores) in
    let own = view_of c.part-own.result in
    let is = parted c.args.course.now (view_of c.args.seat.now) (view_of c.part-own.new.seat) own c.args.core small
    c.requires.fresh c.requires.core c.part-own.ensures.kept c.part-own.ensures.given in
    record {
      at_board = c.part-own.ensures.board.1;
      agrees = subst (λ (course : CourseView). AgreesWith course c.in_ok-actor.actor.state own) (sym c.in_ok-actor.ensures.course)
          (c.in_ok-actor.ensures.agrees own is.given_fresh.started is.core (is.given_fresh.cores c.args.core is.core));
    }
