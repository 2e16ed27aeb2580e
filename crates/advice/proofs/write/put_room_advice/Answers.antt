use Rattle.tab_words.specs.Commands.{texts}
use Rattle.advice.specs.Advice.{IsRoomText, IsStayText, WhereThereIs}
use Rattle.advice.proofs.WritesLemmas.{writes_otherwise, writes_to_stay}
use Rattle.advice.proofs.write.put_room_advice.Goals as goal

pub returns-then-is_plan_stay : goal.returns-then-is_plan_stay
returns-then-is_plan_stay g c = writes_to_stay (texts c.args.words.now)
    (WhereThereIs (IsStayText c.args.host.now)) (WhereThereIs (IsRoomText c.args.host.now)) _ _ _
    (c.is_plan_stay.ensures.0 c.if-is_plan_stay.true) c.put_no_room_to_stay.ensures

pub returns-else-is_plan_stay : goal.returns-else-is_plan_stay
returns-else-is_plan_stay g c = writes_otherwise (texts c.args.words.now)
    (WhereThereIs (IsStayText c.args.host.now)) (WhereThereIs (IsRoomText c.args.host.now)) _ _ _
    (λ stay. let no = c.if-is_plan_stay.false in let yes = c.is_plan_stay.ensures.1 stay in absurd cc)
    c.put_no_room.ensures
