use Rattle.std.proofs.Common.{Ok}
use Rattle.tab_io.specs.Sinks.{Writes}
use Rattle.tab_words.specs.Texts.{texts_below}
use Rattle.std.proofs.Common.{length}
use Rattle.view_table.specs.Groups.{vm_core}
use Rattle.view_table.proofs.groups.put_vm_cores.Given as goal

-- the texts so far came
abbrev pub invariant-loop-core : goal.invariant-loop-core
invariant-loop-core g l = Writes {U = Unit {0}} (g.K.Sink.state l.fn.sink) (g.K.Sink.state l.sink)
    (texts_below (vm_core l.view.names.items l.vm l.view.slots.items (length l.view.tasks.items)) l.core) (Ok (tt {0}))
