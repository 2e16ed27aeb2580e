use Rattle.std.proofs.Common.{drop, map}
use Rattle.tab_io.specs.Sinks.{IsLeft}
use Rattle.tab_words.specs.Texts.{text_of}
use Rattle.table_form.specs.Tables.Segments.{segments_from}
use Rattle.vcpu_names.specs.Names.{names_of}
use Rattle.plan_text.specs.PlanLines.{core_lines}
use Rattle.plan_text.specs.PlanText.{view_words}
use Rattle.plan_text.proofs.cores.put_cores.Given as goal

-- the lines of the cores from this one on are left
abbrev pub invariant-loop-core : goal.invariant-loop-core
invariant-loop-core g l = IsLeft (g.K.Sink.state l.fn.sink) (g.K.Sink.state l.sink)
    (text_of (core_lines (view_words (names_of l.vcpus)) 0 (map (segments_from 0) l.rows)))
    (text_of (core_lines (view_words (names_of l.vcpus)) l.core (map (segments_from 0) (drop l.core l.rows))))
