use Rattle.std.proofs.Common.{ap, sym, refl, arith, set, ◌+◌, ◌*◌, ◌%◌}
use Rattle.round_words.proofs.NumbersLemmas.{agree_enters}
use Rattle.round_words.proofs.numbers.Numbers.note_entry.Goals as goal

pub returns : goal.returns
returns c = λ v e has long is agrees. agree_enters c.args.self.now _ v c.args.core e agrees has c.requires.core
    (omega arith) c.args.round long refl refl refl refl refl refl
    (ap (set c.args.self.now.useds (4 * c.args.core + c.args.round % 4)) (sym is))
