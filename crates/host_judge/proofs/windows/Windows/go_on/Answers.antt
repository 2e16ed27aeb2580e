use Rattle.std.proofs.Common.{◌≡◌, ℕ, ◌+◌, ◌-◌, Some, arith, refl, rules}
use Rattle.host_trace.specs.declared.mark.State.TheVariants.{Block, Run, Wait}
use Rattle.host_judge.proofs.PlaceLemmas.{windows_off, windows_on}
use Rattle.host_judge.proofs.windows.Windows.go_on.Goals as goal

-- what is added is taken again
ns_is : (from ns : ℕ) → from + ns - from ≡ ns
ns_is from ns = omega arith

pub returns-in_ok-run_on-in-Some-Run-clause-counted :
    goal.returns-in_ok-run_on-in-Some-Run-clause-counted
returns-in_ok-run_on-in-Some-Run-clause-counted c = λ course has counts is held.
    let which : c.args.state ≡ Some Run = search rules in
    windows_on course (Some Run) c.args.at c.args.ns c.args.from c.args.ran c.args.self.now _ refl has counts is
    (rw which at held) c.in_ok-run_on-in-Some-Run.ensures.counted
    (λ places on. c.in_ok-run_on-in-Some-Run.ensures.placed course places (rw (ns_is c.args.from c.args.ns) on))

pub returns-in-Some-Wait-clause-counted : goal.returns-in-Some-Wait-clause-counted
returns-in-Some-Wait-clause-counted c = λ course has counts is held.
    let which : c.args.state ≡ Some Wait = search rules in
    windows_on course (Some Wait) c.args.at c.args.ns c.args.from c.args.ran c.args.self.now _ refl has counts is
    (rw which at held) c.wait_on.ensures.counted
    (λ places on. c.wait_on.ensures.placed course places (rw (ns_is c.args.from c.args.ns) on))

pub returns-in-Some-Block-clause-counted : goal.returns-in-Some-Block-clause-counted
returns-in-Some-Block-clause-counted c = λ course has counts is held.
    let which : c.args.state ≡ Some Block = search rules in
    windows_off course (Some Block) c.args.at c.args.ns c.args.self.now refl has (rw which at held)

pub returns-in-None-clause-counted : goal.returns-in-None-clause-counted
returns-in-None-clause-counted c = λ course has counts is held.
    windows_off course _ c.args.at c.args.ns c.args.self.now refl has (rw c.in-None.is at held)
