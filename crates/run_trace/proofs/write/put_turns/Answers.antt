use Rattle.std.proofs.Common.{subst}
use Rattle.std.proofs.lemmas.Result.{err_from_is_err_and}
use Rattle.tab_io.specs.Sinks.{Writes}
use Rattle.tab_words.proofs.PieceLemmas.{pieces_last, pieces_broken}
use Rattle.run_trace.specs.RunTraces.{turn_line}
use Rattle.run_trace.specs.declared.turn.Turn.{Turn}
use Rattle.run_trace.proofs.write.put_turns.Goals as goal

pub returns-in_err-put_turn : goal.returns-in_err-put_turn
returns-in_err-put_turn g c =
    let p = err_from_is_err_and c.from_residual.result c.from_residual.ensures.1 in
    let line = turn_line c.args.names.now c.args.tick_ns in
    let came = subst (λ (one : Turn). Writes {U = Unit {0}} (g.K.Sink.state c.loop-turn.sink)
    (g.K.Sink.state c.put_turn.new.sink) (line one) c.put_turn.result) c.turn-item.is c.put_turn.ensures in
    rw p.1 (pieces_broken _ _ _ line c.args.turns.now c.loop-turn.turn-index c.turn-item.result
    (tt {0}) _ c.in_err-put_turn.field-0.0 c.loop-turn-test.true c.loop-turn.invariant
    came c.in_err-put_turn.was)

pub loop-turn-preserved : goal.loop-turn-preserved
loop-turn-preserved g c =
    let line = turn_line c.args.names.now c.args.tick_ns in
    let came = subst (λ (one : Turn). Writes {U = Unit {0}} (g.K.Sink.state c.loop-turn.sink)
    (g.K.Sink.state c.put_turn.new.sink) (line one) c.put_turn.result) c.turn-item.is c.put_turn.ensures in
    pieces_last _ _ _ line c.args.turns.now c.loop-turn.turn-index c.turn-item.result
    (tt {0}) c.in_ok-put_turn.field-0 _ c.loop-turn-test.true c.loop-turn.invariant
    came c.in_ok-put_turn.was
