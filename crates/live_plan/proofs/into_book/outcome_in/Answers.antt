use Rattle.live_plan.proofs.FindingLemmas.{found_in_book}
use Rattle.live_plan.proofs.into_book.outcome_in.Goals as goal

pub outcome_of-requires : goal.outcome_of-requires
outcome_of-requires c =
    found_in_book c.args.book.now c.args.change c.in-Some.made.now c.found.result.now c.in-Some.ensures.for_it
    c.found.ensures.told c.found.ensures.found
