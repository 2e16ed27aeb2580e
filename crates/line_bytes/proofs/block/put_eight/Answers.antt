use Rattle.std.proofs.Common.{◌++◌, take, ap, ◌∙◌, arith}
use Rattle.line_bytes.proofs.BlockLemmas.{both_behind, eight_of}
use Rattle.line_bytes.proofs.block.put_eight.Goals as goal

pub returns-clause-bytes : goal.returns-clause-bytes
returns-clause-bytes c =
    both_behind _ _ _ _ _ c.put_four-half.ensures.bytes c.put_four.ensures.bytes
    ∙ ap (λ xs. take c.args.at c.args.block.now ++ xs) (eight_of c.args.tail.now c.args.from (omega arith))
