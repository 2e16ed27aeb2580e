use Rattle.plan_make.proofs.OneRefusal.{one_without_period, one_without_room, room_or_without_period}
use Rattle.plan_make.proofs.laws.a_host_has_one_refusal.Goals as goal

pub returns-clause-without_period : goal.returns-clause-without_period
returns-clause-without_period c = one_without_period

pub returns-clause-without_room : goal.returns-clause-without_room
returns-clause-without_room c = one_without_room

pub returns-clause-apart : goal.returns-clause-apart
returns-clause-apart c = room_or_without_period
