use Rattle.std.proofs.Common.{◌≡◌, List, refl, ℕ}
use Rattle.tab_words.specs.Commands.{texts}
use Rattle.advice.specs.Advice.{IsPlanLineAdvice, WhereThereIs}
use Rattle.advice.specs.PlanLines.{old_line_text}
use Rattle.advice.proofs.WritesLemmas.{writes_otherwise, writes_such, writes_to_stay}
use Rattle.advice.proofs.write.put_line_advice.Goals as goal

pub returns-then-is_plan_stay : goal.returns-then-is_plan_stay
returns-then-is_plan_stay g c =
    let IsOld = λ (text : List ℕ). text ≡ old_line_text c.args.plan.now c.args.line in
    rw c.of_sink.ensures (writes_to_stay (texts c.args.words.now) IsOld
    (WhereThereIs (IsPlanLineAdvice c.args.section.now c.args.plan.now c.args.line)) _ _ _
    (c.is_plan_stay.ensures.0 c.if-is_plan_stay.true)
    (writes_such IsOld (old_line_text c.args.plan.now c.args.line) _ _ _ refl c.put_old_line.ensures))

pub returns-else-is_plan_stay : goal.returns-else-is_plan_stay
returns-else-is_plan_stay g c = writes_otherwise (texts c.args.words.now)
    (λ (text : List ℕ). text ≡ old_line_text c.args.plan.now c.args.line)
    (WhereThereIs (IsPlanLineAdvice c.args.section.now c.args.plan.now c.args.line)) _ _ _
    (λ stay. let no = c.if-is_plan_stay.false in let yes = c.is_plan_stay.ensures.1 stay in absurd cc)
    c.put_plan.ensures
