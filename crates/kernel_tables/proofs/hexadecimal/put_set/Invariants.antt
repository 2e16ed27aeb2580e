use Rattle.std.proofs.Common.{◌≡◌, ◌++◌}
use Rattle.tab_words.specs.Texts.{texts_below}
use Rattle.kernel_tables.specs.Lines.{word_text}
use Rattle.kernel_tables.proofs.hexadecimal.put_set.Given as goal

-- the words so far came
abbrev pub invariant-loop-word : goal.invariant-loop-word
invariant-loop-word l = l.text.items ≡ l.fn.text.items ++ texts_below (word_text l.set) l.word
