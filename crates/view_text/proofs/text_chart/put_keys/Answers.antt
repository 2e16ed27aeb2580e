use Rattle.std.proofs.Common.{ℕ, Err, Ok, subst}
use Rattle.std.proofs.lemmas.Result.{err_from_is_err_and}
use Rattle.tab_io.specs.Sinks.{Writes}
use Rattle.tab_words.proofs.NumberedTextLemmas.{all_written, next_broken, next_written, none_written}
use Rattle.tab_words.specs.Texts.{texts_below}
use Rattle.view_text.specs.TextCharts.{letter_key_at}
use Rattle.view_text.proofs.text_chart.put_keys.Goals as goal

pub loop-v-init : goal.loop-v-init
loop-v-init g c = none_written _ _ (tt {0})

pub returns-in_err-put_key_at : goal.returns-in_err-put_key_at
returns-in_err-put_key_at g c =
    let p = err_from_is_err_and c.from_residual.result c.from_residual.ensures.1 in
    rw p.1 (subst (λ (n : ℕ). Writes {U = Unit {0}} (g.K.Sink.state c.args.sink.now) (g.K.Sink.state c.put_key_at.new.sink)
    (texts_below (letter_key_at c.args.names.now) n) (Err c.in_err-put_key_at.field-0.0)) c.lettered-v-end.ensures
    (next_broken _ _ _ (letter_key_at c.args.names.now) c.loop-v.v _ (tt {0}) _
    c.in_err-put_key_at.field-0.0 c.loop-v-test.true c.loop-v.invariant c.put_key_at.ensures
    c.in_err-put_key_at.was))

pub loop-v-preserved : goal.loop-v-preserved
loop-v-preserved g c = next_written _ _ _ (letter_key_at c.args.names.now) c.loop-v.v
    (tt {0}) c.in_ok-put_key_at.field-0 _ c.loop-v.invariant c.put_key_at.ensures c.in_ok-put_key_at.was

pub returns : goal.returns
returns g c =
    subst (λ (n : ℕ). Writes {U = Unit {0}} (g.K.Sink.state c.args.sink.now) (g.K.Sink.state c.loop-v.sink)
    (texts_below (letter_key_at c.args.names.now) n) (Ok (tt {0}))) c.lettered-v-end.ensures
    (all_written _ _ (letter_key_at c.args.names.now) c.loop-v.v _ (tt {0})
    c.loop-v.auto.v-end c.loop-v-test.false c.loop-v.invariant)
