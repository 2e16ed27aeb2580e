use Rattle.std.proofs.Common.{refl, arith}
use Rattle.round_words.proofs.NumbersLemmas.{agree_heard}
use Rattle.round_words.proofs.numbers.Numbers.note_heard.Goals as goal

pub returns : goal.returns
returns c = λ v a has heard agrees. agree_heard c.args.self.now _ v a c.args.core c.args.clock agrees has c.requires.core
    (omega arith) heard refl refl refl refl (omega arith) (omega arith) refl refl
