use Rattle.tab_core.specs.declared.TheConstants.{ROUND}
use Rattle.table_form.proofs.SegmentLemmas.{segments_rise}
use Rattle.table_form.proofs.row.CoreTable.segment_at.Goals as goal

pub segment_in-requires-clause-rises : goal.segment_in-requires-clause-rises
segment_in-requires-clause-rises c =
    rw c.deref.ensures.value (segments_rise 0 c.self.inside.segments.items ROUND c.self.invariant)
