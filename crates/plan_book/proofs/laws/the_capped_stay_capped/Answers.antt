use Rattle.plan_book.proofs.PlannedAfter.{course_capped}
use Rattle.plan_book.proofs.laws.the_capped_stay_capped.Goals as goal

pub returns : goal.returns
returns c = course_capped
