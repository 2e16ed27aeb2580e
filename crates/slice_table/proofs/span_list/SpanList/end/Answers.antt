use Rattle.slice_table.proofs.SpanListLemmas.{end_read}
use Rattle.slice_table.proofs.span_list.SpanList.end.Goals as goal

pub returns : goal.returns
returns c = end_read c.self.inside.shown.items c.self.inside.entries.items c.args.self.now c.args.number
    c.index.result.now c.self.view_is c.requires c.index.ensures
