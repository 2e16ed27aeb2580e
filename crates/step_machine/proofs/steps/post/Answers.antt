use Rattle.std.proofs.Common.{arith}
use Rattle.step_machine.proofs.MachineStateLemmas.{clock_small, spare_less}
use Rattle.step_machine.proofs.steps.post.Goals as goal

pub lowest_behind-requires-clause-small : goal.lowest_behind-requires-clause-small
lowest_behind-requires-clause-small c = λ k log at.
    let small = clock_small c.args.course.now c.args.rounds c.args.machine.now k log
    c.requires.kept c.count.ensures.kept c.requires.few (rw c.deref.ensures.value at at) in
    omega arith

pub returns-then-machine-count-clause-spare : goal.returns-then-machine-count-clause-spare
returns-then-machine-count-clause-spare c = λ n spare. spare_less c.args.rounds n c.args.machine.now spare

pub returns-in-Some-clause-spare : goal.returns-in-Some-clause-spare
returns-in-Some-clause-spare c = λ n spare. spare_less c.args.rounds n c.args.machine.now spare

pub returns-in-None-clause-spare : goal.returns-in-None-clause-spare
returns-in-None-clause-spare c =
    λ n spare.
    (let less = spare_less c.args.rounds n c.args.machine.now spare in record {
      decided =
          less.decided;
      logs = less.logs;
    })
