use Rattle.std.proofs.Common.{◌++◌, take, ap, ◌∙◌, arith}
use Rattle.line_bytes.proofs.BlockLemmas.{both_behind, forty_of}
use Rattle.line_bytes.proofs.block.put_forty.Goals as goal

pub returns-clause-bytes : goal.returns-clause-bytes
returns-clause-bytes c =
    let whole = forty_of c.args.tail.now (omega arith) in
    let two = both_behind _ _ _ _ _ c.put_eight-second.ensures.bytes c.put_eight-third.ensures.bytes in
    let three = both_behind _ _ _ _ _ two c.put_eight-fourth.ensures.bytes in
    let four = both_behind _ _ _ _ _ three c.put_eight-fifth.ensures.bytes in
    both_behind _ _ _ _ _ four c.put_eight.ensures.bytes
    ∙ ap (λ xs. take c.args.at c.args.block.now ++ xs) whole
