use Rattle.tab_words.proofs.LineLemmas.{length-lines_of}
use Rattle.tab_words.proofs.line.Lines.over.Goals as goal

pub returns-clause-few : goal.returns-clause-few
returns-clause-few c = length-lines_of c.args.bytes.now
