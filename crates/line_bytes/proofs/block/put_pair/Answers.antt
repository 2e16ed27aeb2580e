use Rattle.std.proofs.Common.{◌+◌, ◌*◌, ◌∷◌, [], get_or}
use Rattle.line_bytes.specs.declared.block.TheConstants.{PAIRS}
use Rattle.line_bytes.proofs.BlockLemmas.{both_behind, pair_at}
use Rattle.line_bytes.proofs.block.put_pair.Goals as goal

pub returns-clause-bytes : goal.returns-clause-bytes
returns-clause-bytes c =
    let pair = pair_at c.args.n c.requires.small in
    rw (← pair.0, ← pair.1)
    (both_behind _ _ _ (get_or PAIRS (c.args.n * 2) 0 ∷ []) (get_or PAIRS (c.args.n * 2 + 1) 0 ∷ [])
    c.put_byte-ones.ensures.bytes c.put_byte.ensures.bytes)
