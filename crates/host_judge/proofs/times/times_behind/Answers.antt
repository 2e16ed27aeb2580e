use Rattle.std.proofs.Common.{◌≡◌, Some, refl, arith, rules, subst}
use Rattle.host_trace.specs.declared.mark.State.TheVariants.{Run, Wait, Block}
use Rattle.host_judge.specs.Courses.{IsSteady}
use Rattle.host_judge.proofs.CourseLemmas.{times_more}
use Rattle.host_judge.proofs.times.times_behind.Goals as goal

pub returns-in-Some-Run-clause-counted : goal.returns-in-Some-Run-clause-counted
returns-in-Some-Run-clause-counted c = λ course has held.
    let is : c.args.state ≡ Some Run = search rules in
    let run : IsSteady course (Some Run) c.args.from c.args.to =
    subst (λ s. IsSteady course s c.args.from c.args.to) is held in
    times_more course _ _ _ _ _ c.requires.order has run refl (omega arith) (omega arith)

pub returns-in-Some-Wait-clause-counted : goal.returns-in-Some-Wait-clause-counted
returns-in-Some-Wait-clause-counted c = λ course has held.
    let is : c.args.state ≡ Some Wait = search rules in
    let wait : IsSteady course (Some Wait) c.args.from c.args.to =
    subst (λ s. IsSteady course s c.args.from c.args.to) is held in
    times_more course _ _ _ _ _ c.requires.order has wait (omega arith) refl (omega arith)

pub returns-in-Some-Block-clause-counted : goal.returns-in-Some-Block-clause-counted
returns-in-Some-Block-clause-counted c = λ course has held.
    let is : c.args.state ≡ Some Block = search rules in
    let block : IsSteady course (Some Block) c.args.from c.args.to =
    subst (λ s. IsSteady course s c.args.from c.args.to) is held in
    times_more course _ _ _ _ _ c.requires.order has block (omega arith) (omega arith) refl

pub returns-in-None-clause-counted : goal.returns-in-None-clause-counted
returns-in-None-clause-counted c = λ course has held.
    times_more course _ _ _ c.args.times.now _ c.requires.order has (rw c.in-None.is at held)
    (omega arith) (omega arith) (omega arith)
