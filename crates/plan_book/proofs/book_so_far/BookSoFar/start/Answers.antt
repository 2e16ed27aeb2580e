use Rattle.plan_book.specs.declared.book_so_far.BookSoFar.{BookSoFar}
use Rattle.plan_book.proofs.NextState.{fits_first, known_first}
use Rattle.plan_book.proofs.book_so_far.BookSoFar.start.Goals as goal

pub returns-clause-first : goal.returns-clause-first
returns-clause-first c =
    let so_far : BookSoFar =
    record {
      host = c.in_ok-copy.field-0;
      plans = c.in_ok-only.field-0;
      runnable = c.runnable.result;
      outcomes = c.new.result;
    } in
    known_first c.args.host.now so_far c.args.plan c.in_ok-copy.ensures
    c.requires.0 c.in_ok-only.ensures
    c.runnable.ensures c.new.ensures.items

pub returns-clause-fits : goal.returns-clause-fits
returns-clause-fits c =
    let so_far : BookSoFar =
    record {
      host = c.in_ok-copy.field-0;
      plans = c.in_ok-only.field-0;
      runnable = c.runnable.result;
      outcomes = c.new.result;
    } in
    fits_first c.args.host.now so_far c.args.plan c.in_ok-copy.ensures
    c.requires.1 c.in_ok-only.ensures
