use Rattle.std.proofs.Common.{sym, ◌∙◌}
use Rattle.tests_live.proofs.stepping.a_controller_finds_what_it_missed.Goals as goal

pub planner_step-told-requires : goal.planner_step-told-requires
planner_step-told-requires c = record {
  planner = c.in_ok-planner.ensures.planner;
  shelf = c.of-own.ensures.book;
  puts = c.of-own.ensures.puts ∙ sym c.in_ok-planner.ensures.first;
}
