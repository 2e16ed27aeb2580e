use Rattle.line_bytes.proofs.BlockLemmas.{both_behind}
use Rattle.stint_text.proofs.number_parts.put_one.Goals as goal

pub returns-clause-bytes : goal.returns-clause-bytes
returns-clause-bytes c = both_behind _ _ _ _ _ c.put_text-behind.ensures.bytes c.put_number.ensures.bytes
