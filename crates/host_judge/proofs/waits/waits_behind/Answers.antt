use Rattle.std.proofs.Common.{◌≡◌, false, Some, None, rules, ap}
use Rattle.host_trace.specs.declared.mark.State.TheVariants.{Run, Block, Wait}
use Rattle.host_judge.specs.Courses.{is_in}
use Rattle.host_judge.proofs.waits.waits_behind.Goals as goal

pub returns-in-Some-Run-clause-counted : goal.returns-in-Some-Run-clause-counted
returns-in-Some-Run-clause-counted c = λ course told has held at.
    let is : c.args.state ≡ Some Run = search rules in
    let isnt : is_in Wait c.args.state ≡ false = ap (is_in Wait) is in
    c.waits_stopped.ensures.counted course told c.args.state _ _ c.requires.order isnt has held

pub returns-in-Some-Block-clause-counted : goal.returns-in-Some-Block-clause-counted
returns-in-Some-Block-clause-counted c = λ course told has held at.
    let is : c.args.state ≡ Some Block = search rules in
    let isnt : is_in Wait c.args.state ≡ false = ap (is_in Wait) is in
    c.waits_stopped-in-Some-Block.ensures.counted course told c.args.state _ _ c.requires.order isnt has held

pub returns-in-None-clause-counted : goal.returns-in-None-clause-counted
returns-in-None-clause-counted c = λ course told has held at.
    let is : c.args.state ≡ None = search rules in
    let isnt : is_in Wait c.args.state ≡ false = ap (is_in Wait) is in
    c.waits_stopped-in-None.ensures.counted course told c.args.state _ _ c.requires.order isnt has held
