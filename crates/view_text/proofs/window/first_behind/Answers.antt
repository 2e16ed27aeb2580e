use Rattle.std.proofs.Common.{arith, rules}
use Rattle.std.proofs.lemmas.Grind.{common_steps}
use Rattle.view_text.proofs.WindowLemmas.{behind_all}
use Rattle.view_text.proofs.window.first_behind.Goals as goal

pub returns-else-from-tick-clause-behind : goal.returns-else-from-tick-clause-behind
returns-else-from-tick-clause-behind c =
    behind_all c.args.bars.now c.loop-stop.stop c.args.tick (c.requires.rise (search rules)) (search rules)
    (λ d. grind (arith, common_steps, c.if-from-tick.false, c.from.ensures))
