use Rattle.plan_book.proofs.BookMade.{book_of, outcomes_of, vcpus_of}
use Rattle.plan_book.proofs.make.make_book_with.Goals as goal

pub returns-clause-ok : goal.returns-clause-ok
returns-clause-ok c = book_of c.args.host.now c.args.script.now c.in_ok-book.book c.in_ok-book.ensures

pub returns-clause-changes : goal.returns-clause-changes
returns-clause-changes c = outcomes_of c.args.host.now c.args.script.now c.in_ok-book.book c.in_ok-book.ensures

pub returns-clause-vcpus : goal.returns-clause-vcpus
returns-clause-vcpus c = vcpus_of c.args.host.now c.args.script.now c.in_ok-book.book c.in_ok-book.ensures
