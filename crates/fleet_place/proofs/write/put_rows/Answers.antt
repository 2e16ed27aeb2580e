use Rattle.std.proofs.lemmas.Result.{err_from_is_err_and}
use Rattle.tab_words.proofs.NumberedTextLemmas.{all_written, next_broken, next_written, none_written}
use Rattle.fleet_place.specs.FleetText.{host_row}
use Rattle.fleet_place.proofs.write.put_rows.Goals as goal

pub loop-number-init : goal.loop-number-init
loop-number-init g c = none_written _ _ (tt {0})

pub returns-in_err-put_row : goal.returns-in_err-put_row
returns-in_err-put_row g c =
    let p = err_from_is_err_and c.from_residual.result c.from_residual.ensures.1 in
    rw p.1 (next_broken _ _ _ (host_row c.args.hosts.now c.args.splits.now) c.loop-number.number _ (tt {0}) _
    c.in_err-put_row.field-0.0 c.loop-number-test.true c.loop-number.invariant c.put_row.ensures
    c.in_err-put_row.was)

pub loop-number-preserved : goal.loop-number-preserved
loop-number-preserved g c = next_written _ _ _ (host_row c.args.hosts.now c.args.splits.now) c.loop-number.number
    (tt {0}) c.in_ok-put_row.field-0 _ c.loop-number.invariant c.put_row.ensures c.in_ok-put_row.was

pub returns : goal.returns
returns g c = all_written _ _ (host_row c.args.hosts.now c.args.splits.now) c.loop-number.number _ (tt {0})
    c.loop-number.auto.number-end c.loop-number-test.false c.loop-number.invariant
