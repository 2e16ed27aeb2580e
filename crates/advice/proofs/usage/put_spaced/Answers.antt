use Rattle.std.proofs.Common.{subst, flat_map, List, String, Global, Ok, arith, take_all}
use Rattle.std.proofs.lemmas.Result.{err_from_is_err_and}
use Rattle.tab_io.specs.Sinks.{Writes}
use Rattle.tab_words.proofs.PieceLemmas.{pieces_last, pieces_broken}
use Rattle.advice.proofs.TextsLemmas.{spaced_string, spaced-strings}
use Rattle.advice.proofs.usage.put_spaced.Goals as goal

pub returns-in_err-put_spaced_word : goal.returns-in_err-put_spaced_word
returns-in_err-put_spaced_word g c =
    let came =
    subst (λ (w : String Global). Writes {U = Unit {0}} (g.K.Sink.state c.loop-word.sink)
    (g.K.Sink.state c.put_spaced_word.new.sink) (spaced_string w) c.put_spaced_word.result) c.word-item.is
    c.put_spaced_word.ensures in
    let p = err_from_is_err_and c.from_residual.result c.from_residual.ensures.1 in
    rw (p.1, ← spaced-strings c.args.words.now) (pieces_broken _ _ _ spaced_string c.args.words.now c.loop-word.word-index c.word-item.result (tt {0}) _
    c.in_err-put_spaced_word.field-0.0 c.loop-word-test.true c.loop-word.invariant came
    c.in_err-put_spaced_word.was)

pub loop-word-preserved : goal.loop-word-preserved
loop-word-preserved g c =
    let came =
    subst (λ (w : String Global). Writes {U = Unit {0}} (g.K.Sink.state c.loop-word.sink)
    (g.K.Sink.state c.put_spaced_word.new.sink) (spaced_string w) c.put_spaced_word.result) c.word-item.is
    c.put_spaced_word.ensures in
    pieces_last _ _ _ spaced_string c.args.words.now c.loop-word.word-index c.word-item.result (tt {0})
    c.in_ok-put_spaced_word.field-0 _ c.loop-word-test.true c.loop-word.invariant came
    c.in_ok-put_spaced_word.was

pub returns : goal.returns
returns g c = rw (← spaced-strings c.args.words.now) (subst (λ (ws : List (String Global)). Writes {U = Unit {0}}
    (g.K.Sink.state c.args.sink.now) (g.K.Sink.state c.loop-word.sink) (flat_map spaced_string ws) (Ok (tt {0})))
    (take_all _ _ (omega arith)) c.loop-word.invariant)
