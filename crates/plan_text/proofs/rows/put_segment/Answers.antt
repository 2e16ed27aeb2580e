use Rattle.std.proofs.Common.{◌++◌, decimal, get_or, take, ap, ◌∙◌}
use Rattle.table_form.specs.Tables.Segments.{segment_view}
use Rattle.line_bytes.specs.Tails.{tail_bytes, tail_place}
use Rattle.line_bytes.proofs.BlockLemmas.{both_behind}
use Rattle.plan_text.proofs.TailLemmas.{line_parts, tail_found}
use Rattle.plan_text.proofs.rows.put_segment.Goals as goal

pub returns-clause-bytes : goal.returns-clause-bytes
returns-clause-bytes c names are =
    let segment = c.args.segment.now in
    let before = take c.args.at c.args.block.now in
    let found = c.index-tails-tail_place.result in
    let tail = tail_found names c.args.tails.now segment.owner c.tail_place.result found are
    (c.tail_place.ensures.place ∙ ap tail_place c.vcpu.ensures) c.tail_place.ensures.small in
    both_behind before _ _ (decimal segment.end)
    (tail_bytes (get_or c.args.tails.now c.tail_place.result found)) c.put_six-behind.ensures.bytes
    c.put_tail.ensures.bytes
    ∙ ap (λ xs. before ++ xs)
    (ap (λ t. decimal segment.end ++ t) tail ∙ line_parts names (segment_view segment))
