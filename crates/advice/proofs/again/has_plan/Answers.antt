use Rattle.std.proofs.Common.{sym, ◌∙◌}
use Rattle.advice.proofs.again.has_plan.Goals as goal

pub returns-in-Err-NoRoom-clause-found : goal.returns-in-Err-NoRoom-clause-found
returns-in-Err-NoRoom-clause-found c = (
  (λ no. absurd cc),
  (λ has.
      let same = sym c.in-Err-NoRoom.field-0-is ∙ c.in-Err-NoRoom.ensures.planned has.0 has.1 in
      absurd cc),
)
