use Rattle.std.proofs.Common.{ap, ◌∙◌}
use Rattle.tab_core.specs.declared.TheConstants.{ROUND}
use Rattle.table_form.specs.Tables.Segments.{segments_from}
use Rattle.table_form.proofs.SegmentLemmas.{maximal_are, segments_rise}
use Rattle.table_form.proofs.row.CoreTable.segments.Goals as goal

pub returns-clause-maximal : goal.returns-clause-maximal
returns-clause-maximal c = rw c.deref.ensures.value
    (maximal_are c.self.inside.segments.items c.self.invariant ∙ ap (segments_from 0) c.self.view_is)

pub returns-clause-rises : goal.returns-clause-rises
returns-clause-rises c =
    rw c.deref.ensures.value (segments_rise 0 c.self.inside.segments.items ROUND c.self.invariant)
