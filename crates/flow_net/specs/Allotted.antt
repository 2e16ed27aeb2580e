-- An allotment as plain lists.
use Rattle.flow_net.specs.declared.allotment.Allotment.{Allotment}
use Rattle.flow_net.specs.Allotments.{AllotmentView}

-- the marks, and the ticks by interval and vCPU number
abbrev pub allotment_view : Allotment → AllotmentView
allotment_view a = record { marks = a.marks; ticks = a.ticks }
