use Rattle.std.proofs.Common.{arith, refl}
use Rattle.host_judge.proofs.PlaceLemmas.{lesser_placed}
use Rattle.host_judge.proofs.WindowLemmas.{run_first, run_old, still_none}
use Rattle.host_judge.proofs.windows.Windows.least_running.Goals as goal

pub returns-then-self-from-clause-counted : goal.returns-then-self-from-clause-counted
returns-then-self-from-clause-counted c = λ cut has is held.
    run_old cut c.args.from c.args.to c.args.self.now (omega arith) has held (omega arith)

pub returns-then-to-self-clause-counted : goal.returns-then-to-self-clause-counted
returns-then-to-self-clause-counted c = λ cut has is held.
    still_none cut c.args.from c.args.to c.args.self.now (omega arith) has (omega arith)

pub returns-clause-counted : goal.returns-clause-counted
returns-clause-counted c = λ cut has is held.
    rw c.lesser.ensures (run_first cut c.args.from c.args.to c.args.self.now _ (omega arith) has held (omega arith)
    (omega arith) (omega (arith, is)) refl)

pub returns-clause-placed : goal.returns-clause-placed
returns-clause-placed c = λ course has here.
    rw c.lesser.ensures (lesser_placed course c.args.self.now.least _ has.least
    (c.begun_at.ensures course c.args.from has here))
