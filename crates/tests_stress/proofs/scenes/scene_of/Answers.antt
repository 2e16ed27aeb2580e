use Rattle.std.proofs.Common.{arith, subst}
use Rattle.table_form.specs.Running.Courses.{FitsRounds}
use Rattle.tests_stress.proofs.scenes.scene_of.Goals as goal

pub invariant_of-result : goal.invariant_of-result
invariant_of-result c =
    let sample = c.in_ok-sample.sample in record {
      fits = subst (FitsRounds c.in_ok-book.book.course) c.in_ok-sample.ensures.rounds
          (c.in_ok-book.ensures.rounds sample.rounds sample.some_round (omega (arith, sample.few_rounds)) sample.in_run);
    }
