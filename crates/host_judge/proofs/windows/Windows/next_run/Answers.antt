use Rattle.host_judge.proofs.WindowLemmas.{first_is}
use Rattle.host_judge.proofs.windows.Windows.next_run.Goals as goal

pub returns : goal.returns
returns c = rw c.copied.ensures (first_is c.args.self.now.runs.items c.front.result c.front.ensures.item)
