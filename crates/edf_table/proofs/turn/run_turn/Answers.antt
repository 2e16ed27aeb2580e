use Rattle.std.proofs.Common.{arith}
use Rattle.edf_table.proofs.Runs.{idles_on, runs_on}
use Rattle.edf_table.proofs.turn.run_turn.Goals as goal

pub returns-then-count-eq0-clause-under_way : goal.returns-then-count-eq0-clause-under_way
returns-then-count-eq0-clause-under_way c =
    (idles_on c.args.pieces.now c.args.begins.now c.args.jobs.now c.args.count.now c.args.tick c.args.event
    c.requires.distinct c.requires.under_way c.requires.before c.requires.in_round c.if-count-eq0.true).0

pub returns-then-count-eq0-clause-goes : goal.returns-then-count-eq0-clause-goes
returns-then-count-eq0-clause-goes c =
    (idles_on c.args.pieces.now c.args.begins.now c.args.jobs.now c.args.count.now c.args.tick c.args.event
    c.requires.distinct c.requires.under_way c.requires.before c.requires.in_round c.if-count-eq0.true).1

pub returns : goal.returns
returns c =
    let ran = runs_on c.args.pieces.now c.args.begins.now c.args.jobs.now c.give.new.jobs c.args.count.now
    c.give.new.count c.args.tick c.args.event c.min-end.result c.min-ticks.result c.requires.distinct
    c.requires.under_way c.requires.before c.requires.in_round (omega (arith, c.if-count-eq0.false))
    c.min-end.ensures c.min-ticks.ensures
    (λ i i-in job. c.give.ensures.pending c.args.pieces.now c.requires.under_way.given c.args.begins.now i
    c.requires.distinct i-in c.requires.under_way.pending job)
    c.give.ensures.timely in
    record {
      later = ran.0;
      within = omega (arith, c.min-end.ensures, c.min-ticks.ensures, c.requires.before);
      a_place_each = c.give.ensures.a_place_each;
      under_way = ran.1;
      goes = ran.2;
    }
