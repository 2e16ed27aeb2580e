use Rattle.std.proofs.Common.{ap, length, ◌∙◌}
use Rattle.slice_table.proofs.TableLemmas.{spans_counted}
use Rattle.slice_table.proofs.slice_table.SliceTable.spans.Goals as goal

pub returns : goal.returns
returns c = λ plan core is.
    spans_counted plan core c.len.result c.args.self.now is (c.len.ensures ∙ ap length c.self.view_is)
