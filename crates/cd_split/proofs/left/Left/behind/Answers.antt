use Rattle.std.proofs.Common.{arith}
use Rattle.tab_core.proofs.Periods.{period_facts}
use Rattle.cd_split.proofs.left.Left.behind.Goals as goal

pub overflow_add-result : goal.overflow_add-result
overflow_add-result c =
    let facts = period_facts c.args.self.now.period c.args.self.now.listed
    in omega (arith, facts.at_most)
