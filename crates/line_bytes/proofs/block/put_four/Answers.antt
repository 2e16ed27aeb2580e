use Rattle.std.proofs.Common.{◌∷◌, []}
use Rattle.line_bytes.proofs.BlockLemmas.{both_behind}
use Rattle.line_bytes.proofs.block.put_four.Goals as goal

pub returns-clause-bytes : goal.returns-clause-bytes
returns-clause-bytes c =
    let two = both_behind _ _ _ (c.args.a ∷ []) (c.args.b ∷ []) c.put_byte-second.ensures.bytes
    c.put_byte-third.ensures.bytes in
    let three = both_behind _ _ _ (c.args.a ∷ c.args.b ∷ []) (c.args.c ∷ []) two c.put_byte-fourth.ensures.bytes in
    both_behind _ _ _ (c.args.a ∷ c.args.b ∷ c.args.c ∷ []) (c.args.d ∷ []) three c.put_byte.ensures.bytes
