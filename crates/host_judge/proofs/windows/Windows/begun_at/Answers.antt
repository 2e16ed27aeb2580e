use Rattle.host_judge.proofs.PlaceLemmas.{pause_before, pause_last}
use Rattle.host_judge.proofs.windows.Windows.begun_at.Goals as goal

pub returns-in-Some : goal.returns-in-Some
returns-in-Some c = λ course from has here.
    pause_before course from c.args.self.now c.in-Some.stretch _ has c.in-Some.ensures

pub returns-in-None : goal.returns-in-None
returns-in-None c = λ course from has here.
    pause_last course from c.args.at _ c.args.self.now has here c.in-None.ensures c.waits_from.ensures
