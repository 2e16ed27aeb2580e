use Rattle.std.proofs.Common.{arith}
use Rattle.edf_table.proofs.Misses.{all_met_fits, first_end}
use Rattle.edf_table.proofs.PendingJobs.{missed_now, served_now, under_way_start}
use Rattle.edf_table.proofs.Repeats.{all_met}
use Rattle.edf_table.proofs.fit.first_miss_in.Goals as goal

pub loop-tick-init : goal.loop-tick-init
loop-tick-init c = record {
  in_time = omega arith;
  in_round = omega arith;
  a_begin_each = omega (arith, c.put_first_begins.ensures.a_begin_each, c.requires.a_begin_each);
  a_place_each = c.requires.a_place_each;
  under_way = under_way_start c.args.pieces.now c.put_first_begins.new.begins _ c.requires.distinct
      c.put_first_begins.ensures.kept;
}

pub returns-then-is_late-clause-some : goal.returns-then-is_late-clause-some
returns-then-is_late-clause-some c =
    let here = c.loop-tick.invariant.under_way in
    first_end c.args.pieces.now here.given c.loop-tick.tick c.requires.distinct here.counted here.met
    (missed_now c.args.pieces.now c.loop-tick.begins c.loop-tick.jobs c.loop-tick.count c.loop-tick.tick
    c.loop-tick.event here c.loop-tick.invariant.in_time (c.is_late.ensures.late c.if-is_late.true))
    (omega arith)

pub next_event-event-requires-clause-under_way : goal.next_event-event-requires-clause-under_way
next_event-event-requires-clause-under_way c =
    served_now c.args.pieces.now c.loop-tick.begins c.loop-tick.jobs c.loop-tick.count c.loop-tick.tick
    c.loop-tick.event c.loop-tick.invariant.under_way c.loop-tick.invariant.in_time
    (c.is_late.ensures.timely c.if-is_late.false)

pub returns-then-is_late-2-clause-some : goal.returns-then-is_late-2-clause-some
returns-then-is_late-2-clause-some c =
    let here = c.loop-tick.invariant.under_way in
    first_end c.args.pieces.now here.given c.loop-tick.tick c.requires.distinct here.counted here.met
    (missed_now c.args.pieces.now c.loop-tick.begins c.loop-tick.jobs c.loop-tick.count c.loop-tick.tick
    c.loop-tick.event here c.loop-tick.invariant.in_time (c.is_late-2.ensures.late c.if-is_late-2.true))
    (omega (arith, c.loop-tick.invariant.in_time, c.loop-tick.invariant.in_round))

pub returns-else-is_late-2-clause-none : goal.returns-else-is_late-2-clause-none
returns-else-is_late-2-clause-none c =
    let common = c.common_period-common.result in
    let served = served_now c.args.pieces.now c.loop-tick.begins c.loop-tick.jobs c.loop-tick.count
    c.loop-tick.tick c.loop-tick.event c.loop-tick.invariant.under_way c.loop-tick.invariant.in_time
    (c.is_late-2.ensures.timely c.if-is_late-2.false) in
    all_met_fits c.args.pieces.now c.requires.distinct
    (all_met c.args.pieces.now common c.requires.distinct c.common_period-common.ensures.common
    c.common_period-common.ensures.some c.common_period-common.ensures.whole
    (λ j a lt. served.met j a (omega arith)))
