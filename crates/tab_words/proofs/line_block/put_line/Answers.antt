use Rattle.tab_words.proofs.BlockLemmas.{line_written}
use Rattle.tab_words.proofs.line_block.put_line.Goals as goal

pub returns : goal.returns
returns g c =
    line_written _ _ _ _ _ _ _ _ _ c.put_line.ensures c.in_ok-put_line.was c.new-block.ensures c.write.ensures
