use Rattle.tab_words.specs.Words.{words_of}
use Rattle.sizes_doc.specs.Inside.Written.{parts_in}
use Rattle.sizes_doc.specs.Sizes.{NoForm}
use Rattle.sizes_doc.proofs.SizeLemmas.{part_told}
use Rattle.sizes_doc.proofs.size_reader.size_of.Goals as goal

pub returns-in-Some-clause-part : goal.returns-in-Some-clause-part
returns-in-Some-clause-part c = part_told (words_of c.args.line.now) (parts_in c.in-Some.parts)
    c.size_from.result c.in-Some.ensures c.size_from.ensures.part

pub returns-in-None-clause-part : goal.returns-in-None-clause-part
returns-in-None-clause-part c = NoForm c.in-None.ensures
