use Rattle.view_trace.proofs.StintLemmas.{none_walked}
use Rattle.view_trace.proofs.stints.stints_of.Goals as goal

pub loop-i-init : goal.loop-i-init
loop-i-init c =
    none_walked c.args.end_ns c.args.marks.now c.new-stints.result.items c.new-stints.ensures.items
