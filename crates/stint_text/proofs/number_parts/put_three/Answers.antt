use Rattle.std.proofs.Common.{◌++◌, ◌∷◌, [], codes, decimal, take, ap, ◌∙◌}
use Rattle.line_bytes.proofs.BlockLemmas.{both_behind}
use Rattle.stint_text.proofs.NumbersLineLemmas.{in_a_row_of_three}
use Rattle.stint_text.proofs.number_parts.put_three.Goals as goal

pub returns-clause-bytes : goal.returns-clause-bytes
returns-clause-bytes c =
    let before = take c.args.at c.args.block.now in
    let a = c.args.first.now in
    let b = c.args.second.now in
    let d = c.args.third.now in
    let two = both_behind before _ _ _ _ c.put_one-one.ensures.bytes c.put_one-two.ensures.bytes in
    let three = both_behind before _ _ _ _ two c.put_one-three.ensures.bytes in
    both_behind before _ _ _ (10 ∷ []) three c.put_byte.ensures.bytes
    ∙ ap (λ xs. before ++ xs) (in_a_row_of_three a.text.now (decimal a.number) b.text.now (decimal b.number)
    d.text.now (decimal d.number) (codes "\n"))
