use Rattle.plan_book.proofs.OneCourse.{one_course}
use Rattle.plan_book.proofs.laws.a_script_makes_one_course.Goals as goal

pub returns : goal.returns
returns c = λ host events course other is form also formed. one_course host events course other
    (record { is = is; form = form }) (record { is = also; form = formed })
