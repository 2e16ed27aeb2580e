use Rattle.std.proofs.Common.{◌≡◌, All, List, rules, subst, sym}
use Rattle.view_trace.specs.Inside.Walks.{IsStintCountable}
use Rattle.view_trace.specs.Stints.{stints_up_to}
use Rattle.view_trace.specs.declared.stints.TraceStint.{TraceStint}
use Rattle.view_trace.proofs.StintLemmas.{marks_counted}
use Rattle.view_trace.proofs.read.drawn.Goals as goal

pub stretches_of-requires-clause-within : goal.stretches_of-requires-clause-within
stretches_of-requires-clause-within c =
    let begin = c.begin_of-begin_ns.result in
    let tick = c.in-Some-tick_of.tick_ns in
    let reading = c.args.reading in
    let stints : c.deref-4.result.now ≡ stints_up_to reading.time_ns reading.marks.items = search rules in
    subst (λ (all : List TraceStint). All (IsStintCountable begin tick) all) (sym stints)
    (marks_counted reading.marks.items reading.time_ns begin tick c.requires.read (search rules) (search rules))
