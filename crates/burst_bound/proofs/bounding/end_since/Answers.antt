use Rattle.std.proofs.Common.{◌/◌, sym, ◌∙◌, arith}
use Rattle.std.proofs.lemmas.Option.{slice_get-get_or}
use Rattle.tab_core.specs.declared.TheConstants.{ROUND}
use Rattle.burst_bound.proofs.bounding.end_since.Goals as goal

pub returns : goal.returns
returns c = record {
  there = rw (slice_get-get_or c.args.used.now (c.args.seen / ROUND) 0 (let many = c.requires.each_round in let low = c.requires.in_run in omega arith))
      (sym c.budget_after.ensures ∙ c.in_ok-task.was);
  end = c.end_of_periods-end.ensures;
  in_run = rw (c.from.ensures, c.from-2.ensures) at c.if-end-from.false;
}
