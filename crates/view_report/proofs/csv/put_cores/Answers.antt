use Rattle.std.proofs.lemmas.Result.{err_from_is_err_and}
use Rattle.tab_words.proofs.NumberedTextLemmas.{all_written, next_broken, next_written, none_written}
use Rattle.view_report.specs.RunCsv.{core_ran_row}
use Rattle.view_report.proofs.csv.put_cores.Goals as goal

pub loop-number-init : goal.loop-number-init
loop-number-init g c = none_written _ _ (tt {0})

pub returns-in_err-put_core : goal.returns-in_err-put_core
returns-in_err-put_core g c =
    let p = err_from_is_err_and c.from_residual.result c.from_residual.ensures.1 in
    rw p.1 (next_broken _ _ _ (core_ran_row c.args.tick_ns c.args.cores.now) c.loop-number.number _ (tt {0}) _
    c.in_err-put_core.field-0.0 c.loop-number-test.true c.loop-number.invariant c.put_core.ensures c.in_err-put_core.was)

pub loop-number-preserved : goal.loop-number-preserved
loop-number-preserved g c = next_written _ _ _ (core_ran_row c.args.tick_ns c.args.cores.now) c.loop-number.number (tt {0}) c.in_ok-put_core.field-0 _
    c.loop-number.invariant c.put_core.ensures c.in_ok-put_core.was

pub returns : goal.returns
returns g c = all_written _ _ (core_ran_row c.args.tick_ns c.args.cores.now) c.loop-number.number _ (tt {0}) c.loop-number.auto.number-end
    c.loop-number-test.false c.loop-number.invariant
