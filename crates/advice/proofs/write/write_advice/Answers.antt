use Rattle.std.proofs.Common.{List, ℕ, subst}
use Rattle.tab_words.specs.Commands.{texts}
use Rattle.advice.specs.Advice.{IsLineAdvice, IsPeriodText, WhereThereIs, WritesSome}
use Rattle.advice.specs.Lines.{section_at}
use Rattle.advice.proofs.write.write_advice.Goals as goal

pub returns-in-NoPeriod : goal.returns-in-NoPeriod
returns-in-NoPeriod g c = rw c.in-NoPeriod.is (subst
    (λ (section : List ℕ). WritesSome (WhereThereIs (IsPeriodText section c.in-NoPeriod.vcpu))
    (g.K.Sink.state c.args.sink.now) (g.K.Sink.state c.put_no_period.new.sink) c.put_no_period.result)
    c.section_at-in-NoPeriod.ensures c.put_no_period.ensures)

pub returns-in-NoRoom : goal.returns-in-NoRoom
returns-in-NoRoom g c = rw c.in-NoRoom.is c.put_room_advice.ensures

pub returns-in-BadPlanLine : goal.returns-in-BadPlanLine
returns-in-BadPlanLine g c =
    let of_plan = subst (λ (plan : List ℕ). WritesSome
    (IsLineAdvice (texts c.args.words.now) c.section_at-in-BadPlanLine.result.now plan c.in-BadPlanLine.line)
    (g.K.Sink.state c.args.sink.now) (g.K.Sink.state c.put_line_advice.new.sink) c.put_line_advice.result)
    c.section_at-in-BadPlanLine-2.ensures c.put_line_advice.ensures in
    rw c.in-BadPlanLine.is (subst (λ (section : List ℕ). WritesSome
    (IsLineAdvice (texts c.args.words.now) section (section_at 1 c.args.input.now) c.in-BadPlanLine.line)
    (g.K.Sink.state c.args.sink.now) (g.K.Sink.state c.put_line_advice.new.sink) c.put_line_advice.result)
    c.section_at-in-BadPlanLine.ensures of_plan)
