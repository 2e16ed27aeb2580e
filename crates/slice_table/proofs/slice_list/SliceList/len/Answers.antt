use Rattle.std.proofs.Common.{ap, length, sym, ◌∙◌}
use Rattle.slice_table.proofs.SliceListLemmas.{numbers_count}
use Rattle.slice_table.proofs.slice_list.SliceList.len.Goals as goal

pub returns : goal.returns
returns c =
    sym (numbers_count c.self.inside.blocks.items c.self.inside.count) ∙ ap length c.self.view_is
