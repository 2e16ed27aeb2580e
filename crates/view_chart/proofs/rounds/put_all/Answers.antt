use Rattle.std.proofs.lemmas.Result.{err_from_is_err_and}
use Rattle.tab_words.proofs.NumberedTextLemmas.{all_written, next_broken, next_written, none_written}
use Rattle.view_chart.specs.Rounds.{round_mark_at}
use Rattle.view_chart.proofs.rounds.put_all.Goals as goal

pub loop-k-init : goal.loop-k-init
loop-k-init g c = none_written _ _ (tt {0})

pub returns-in_err-put_round_at : goal.returns-in_err-put_round_at
returns-in_err-put_round_at g c =
    let p = err_from_is_err_and c.from_residual.result c.from_residual.ensures.1 in
    rw p.1 (next_broken _ _ _ (round_mark_at c.args.frame.now c.args.foot) c.loop-k.k _ (tt {0}) _
    c.in_err-put_round_at.field-0.0 c.loop-k-test.true c.loop-k.invariant c.put_round_at.ensures
    c.in_err-put_round_at.was)

pub loop-k-preserved : goal.loop-k-preserved
loop-k-preserved g c = next_written _ _ _ (round_mark_at c.args.frame.now c.args.foot) c.loop-k.k
    (tt {0}) c.in_ok-put_round_at.field-0 _ c.loop-k.invariant c.put_round_at.ensures c.in_ok-put_round_at.was

pub returns : goal.returns
returns g c = all_written _ _ (round_mark_at c.args.frame.now c.args.foot) c.loop-k.k _ (tt {0})
    c.loop-k.auto.k-end c.loop-k-test.false c.loop-k.invariant
