use Rattle.round_words.proofs.NumbersLemmas.{agree_start}
use Rattle.round_words.proofs.numbers.Numbers.of_all.Goals as goal

pub returns : goal.returns
returns c = λ lag events some few. agree_start _ lag c.args.cores events some c.requires.cores few
    c.new.ensures.held c.new.ensures.cores c.new.ensures.posted c.new.ensures.floor c.new.ensures.clocks c.new.ensures.sights
