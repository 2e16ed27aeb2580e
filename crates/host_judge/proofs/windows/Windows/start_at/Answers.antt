use Rattle.std.proofs.Common.{arith, refl}
use Rattle.host_judge.proofs.PlaceLemmas.{pause_before, pause_waits, within_run}
use Rattle.host_judge.proofs.WindowLemmas.{start_before, start_none, start_within}
use Rattle.host_judge.proofs.windows.Windows.start_at.Goals as goal

pub returns-in_default-clause-counted : goal.returns-in_default-clause-counted
returns-in_default-clause-counted c = λ cut to low has.
    start_none cut to c.args.time c.args.self.now _ low has c.in_default.ensures refl refl

pub returns-in_default-clause-placed : goal.returns-in_default-clause-placed
returns-in_default-clause-placed c = λ course to has.
    pause_waits course to c.args.waits_at c.args.self.now has c.in_default.ensures c.requires.waits

pub returns-then-time-stretch-clause-counted : goal.returns-then-time-stretch-clause-counted
returns-then-time-stretch-clause-counted c = λ cut to low has.
    start_before cut to c.args.time c.args.self.now c.in-Some.stretch _ _ has c.in-Some.ensures (omega arith) refl refl

pub returns-then-time-stretch-clause-placed : goal.returns-then-time-stretch-clause-placed
returns-then-time-stretch-clause-placed c = λ course to has.
    pause_before course to c.args.self.now c.in-Some.stretch _ has c.in-Some.ensures

pub returns-clause-counted : goal.returns-clause-counted
returns-clause-counted c = λ cut to low has.
    let ahead = rw c.in-Some.ensures at c.requires.ahead in
    start_within cut to c.args.time c.args.self.now c.in-Some.stretch _ _ has c.in-Some.ensures (omega arith) ahead refl
    refl

pub returns-clause-placed : goal.returns-clause-placed
returns-clause-placed c = λ course to has.
    let ahead = rw c.in-Some.ensures at c.requires.ahead in
    within_run course to c.args.time c.args.self.now c.in-Some.stretch _ has c.in-Some.ensures (omega arith) ahead
