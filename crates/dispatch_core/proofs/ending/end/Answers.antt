use Rattle.std.proofs.Common.{arith}
use Rattle.round_words.specs.Seats.{view_of}
use Rattle.dispatch_core.specs.declared.answer.Ended.TheVariants.{Ran, Behind}
use Rattle.dispatch_core.specs.declared.log.CoreLog.{CoreLog}
use Rattle.dispatch_core.specs.Inside.Logs.{log_view}
use Rattle.dispatch_core.proofs.EndingLemmas.{clock_in_round, ends_by_table}
use Rattle.dispatch_core.proofs.ending.end.Goals as goal

pub returns-in-Ran : goal.returns-in-Ran
returns-in-Ran c =
    let log : CoreLog = c.args.log.now in
    let way = c.args.way.now in
    let req = c.requires in
    ends_by_table c.args.board.now way c.numbered-span.result c.args.seat.now log (Ran c.in-Ran.stint) c.run_at.new.seat c.run_at.new.log _
    (clock_in_round way.outline.now (log_view log) (view_of c.args.seat.now) way.used c.len.result req.stands c.shown.ensures req.begun.entered (omega (arith, c.len.ensures)))
    (λ plan by. c.numbered-span.ensures.span plan log.core by) c.in-Ran.ensures.ends

pub returns-in-Behind : goal.returns-in-Behind
returns-in-Behind c =
    let log : CoreLog = c.args.log.now in
    let way = c.args.way.now in
    let req = c.requires in
    ends_by_table c.args.board.now way c.numbered-span.result c.args.seat.now log (Behind c.in-Behind.core c.in-Behind.tick) c.run_at.new.seat
    c.run_at.new.log _
    (clock_in_round way.outline.now (log_view log) (view_of c.args.seat.now) way.used c.len.result req.stands c.shown.ensures req.begun.entered (omega (arith, c.len.ensures)))
    (λ plan by. c.numbered-span.ensures.span plan log.core by) c.in-Behind.ensures.ends
