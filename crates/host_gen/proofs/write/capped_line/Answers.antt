use Rattle.std.proofs.Common.{refl}
use Rattle.tab_words.specs.Texts.{line_of}
use Rattle.host_gen.proofs.write.capped_line.Goals as goal

pub returns-then-capped : goal.returns-then-capped
unfolding line_of
returns-then-capped c = rw c.if-capped.true refl
