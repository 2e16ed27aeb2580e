use Rattle.std.proofs.Common.{◌+◌, get_or, arith}
use Rattle.edf_table.proofs.Kept.{kept_ahead, some_piece}
use Rattle.edf_table.proofs.PendingJobs.{under_way_kept, under_way_later}
use Rattle.edf_table.proofs.turn.next_event.Goals as goal

pub returns-then-tick-event-clause-under_way : goal.returns-then-tick-event-clause-under_way
returns-then-tick-event-clause-under_way c =
    under_way_later c.args.pieces.now c.args.begins.now c.args.jobs.now c.args.count.now c.args.tick
    c.args.tick (c.args.tick + 1) (c.args.tick + 1) c.args.event c.args.event c.requires.under_way
    (omega arith) (omega arith)

pub begin_windows-requires-clause-under_way : goal.begin_windows-requires-clause-under_way
begin_windows-requires-clause-under_way c =
    under_way_later c.args.pieces.now c.args.begins.now c.args.jobs.now c.args.count.now c.args.tick
    c.args.tick c.args.tick (c.args.tick + 1) c.args.event c.args.tick c.requires.under_way (omega arith)
    (omega (arith, c.requires.in_time))

pub returns-clause-later : goal.returns-clause-later
returns-clause-later c =
    let ps = c.args.pieces.now in
    c.least_of.ensures.later c.args.tick c.requires.in_round
    (λ i i-in. omega (arith, (c.begin_windows.ensures.under_way.kept i (some_piece ps i i-in) i-in).ahead))

pub returns-clause-under_way : goal.returns-clause-under_way
returns-clause-under_way c =
    let ps = c.args.pieces.now in
    let tick = c.args.tick in
    let ns = c.begin_windows.new.begins in
    under_way_kept ps ns c.begin_windows.new.jobs c.begin_windows.new.count tick (tick + 1) (tick + 1)
    (tick + 1) (tick + 1) c.least_of.result c.begin_windows.ensures.under_way
    (λ i d i-in. kept_ahead (get_or ps i d) (tick + 1) (tick + 1) (tick + 1) c.least_of.result (get_or ns i 0)
    (c.begin_windows.ensures.under_way.kept i d i-in) (omega arith) (c.least_of.ensures.least i i-in))
