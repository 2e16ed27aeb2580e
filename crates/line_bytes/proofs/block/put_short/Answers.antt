use Rattle.std.proofs.Common.{◌++◌, drop, take, ap, ◌∙◌, arith, take-take}
use Rattle.line_bytes.proofs.BlockLemmas.{both_behind, eight_of, front_behind}
use Rattle.line_bytes.proofs.block.put_short.Goals as goal

pub returns-clause-bytes : goal.returns-clause-bytes
returns-clause-bytes c =
    let word = c.args.word.now in
    let before = take c.args.at c.args.block.now in
    front_behind c.args.block.now c.put_four.new.block (take 8 (drop 0 word)) c.args.at c.put_four.result 8
    c.args.len (omega (arith, c.put_four-half.ensures.end, c.put_four.ensures.end)) c.requires.short (omega arith)
    (both_behind _ _ _ _ _ c.put_four-half.ensures.bytes c.put_four.ensures.bytes
    ∙ ap (λ xs. before ++ xs) (eight_of word 0 (omega arith)))
    ∙ ap (λ xs. before ++ xs) (take-take c.args.len 8 word (omega (arith, c.requires.short)))
