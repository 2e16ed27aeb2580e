use Rattle.std.proofs.Common.{◌++◌, take, ap, ◌∙◌}
use Rattle.line_bytes.specs.Tails.{tail_bytes}
use Rattle.line_bytes.proofs.BlockLemmas.{both_behind}
use Rattle.stint_text.proofs.StintLineLemmas.{line_in_parts}
use Rattle.stint_text.proofs.line_parts.put_parts.Goals as goal

pub returns-clause-bytes : goal.returns-clause-bytes
returns-clause-bytes c names is =
    let before = take c.args.at c.args.block.now in
    let two = both_behind before _ _ _ _ c.put_core-ticks.ensures.bytes c.put_ticks-counts.ensures.bytes in
    let three = both_behind before _ _ _ _ two c.put_counts-ran.ensures.bytes in
    let four = both_behind before _ _ _ _ three c.put_tail-how.ensures.bytes in
    both_behind before _ _ _ _ four c.put_how.ensures.bytes
    ∙ ap (λ xs. before ++ xs)
    (line_in_parts names c.args.core c.args.owner.now c.args.stint.now (tail_bytes c.args.tail.now) is)
