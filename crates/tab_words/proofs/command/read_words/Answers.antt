use Rattle.tab_words.specs.Commands.{texts}
use Rattle.tab_words.proofs.CommandLemmas.{command_due, fault_due}
use Rattle.tab_words.proofs.command.read_words.Goals as goal

pub returns-clause-due : goal.returns-clause-due
returns-clause-due c = command_due (texts c.args.words.now) c.reading_of.result c.reading_of.ensures

pub returns-clause-usage_due : goal.returns-clause-usage_due
returns-clause-usage_due c = fault_due (texts c.args.words.now) c.reading_of.result c.reading_of.ensures
