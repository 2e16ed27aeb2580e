use Rattle.kernel_tables.specs.Lines.{word_text}
use Rattle.kernel_tables.proofs.TextLemmas.{none_yet, one_more}
use Rattle.kernel_tables.proofs.hexadecimal.put_set.Goals as goal

pub loop-word-init : goal.loop-word-init
loop-word-init c = none_yet c.args.text.now.items (word_text c.args.set.now)

pub loop-word-preserved : goal.loop-word-preserved
loop-word-preserved c = one_more c.args.text.now.items _ _ (word_text c.args.set.now) c.loop-word.word c.loop-word.invariant
    c.in_ok-put_word.ensures
