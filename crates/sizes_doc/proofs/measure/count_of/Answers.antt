use Rattle.std.proofs.Common.{◌<◌, ◌^◌, arith}
use Rattle.tab_words.proofs.NumberLemmas.{spelled_once}
use Rattle.sizes_doc.proofs.measure.count_of.Goals as goal

pub returns-then-count-lt1 : goal.returns-then-count-lt1
returns-then-count-lt1 c = λ n is.
    let fits : n < 2 ^ 64 = omega (arith, is.few) in
    let same = spelled_once c.args.word.now c.in-Some.count n c.in-Some.ensures.some fits is.plain in
    omega (arith, same, is.some, c.if-count-lt1.true)

pub returns-then-count-most : goal.returns-then-count-most
returns-then-count-most c = λ n is.
    let fits : n < 2 ^ 64 = omega (arith, is.few) in
    let same = spelled_once c.args.word.now c.in-Some.count n c.in-Some.ensures.some fits is.plain in
    omega (arith, same, is.few, c.if-count-most.true)
