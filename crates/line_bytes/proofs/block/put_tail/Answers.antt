use Rattle.std.proofs.Common.{◌++◌, take, ap, ◌∙◌, arith, take-take}
use Rattle.line_bytes.proofs.BlockLemmas.{front_behind}
use Rattle.line_bytes.proofs.block.put_tail.Goals as goal

pub returns-then-tail-le8-clause-bytes : goal.returns-then-tail-le8-clause-bytes
returns-then-tail-le8-clause-bytes c =
    let tail = c.args.tail.now in
    front_behind c.args.block.now c.put_eight.new.block (take 8 tail.bytes) c.args.at c.put_eight.result 8 tail.len
    c.put_eight.ensures.end (omega arith) (omega arith) c.put_eight.ensures.bytes
    ∙ ap (λ xs. take c.args.at c.args.block.now ++ xs) (take-take tail.len 8 tail.bytes (omega arith))

pub returns-clause-bytes : goal.returns-clause-bytes
returns-clause-bytes c =
    let tail = c.args.tail.now in
    front_behind c.args.block.now c.put_forty.new.block tail.bytes c.args.at c.put_forty.result 40 tail.len
    c.put_forty.ensures.end tail.fits (omega arith) c.put_forty.ensures.bytes
