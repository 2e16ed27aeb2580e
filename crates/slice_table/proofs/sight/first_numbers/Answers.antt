use Rattle.tab_core.proofs.Lists.{get_or-replicate_same}
use Rattle.slice_table.proofs.sight.first_numbers.Goals as goal

pub returns : goal.returns
returns c = λ d. get_or-replicate_same 32 d 0
