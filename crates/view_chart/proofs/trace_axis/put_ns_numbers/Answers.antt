use Rattle.std.proofs.lemmas.Result.{err_from_is_err_and}
use Rattle.tab_words.proofs.NumberedTextLemmas.{all_written, next_broken, next_written, none_written}
use Rattle.view_chart.specs.Traces.{ns_number}
use Rattle.view_chart.proofs.trace_axis.put_ns_numbers.Goals as goal

pub loop-k-init : goal.loop-k-init
loop-k-init g c = none_written _ _ (tt {0})

pub returns-in_err-put_ns_number : goal.returns-in_err-put_ns_number
returns-in_err-put_ns_number g c =
    let p = err_from_is_err_and c.from_residual.result c.from_residual.ensures.1 in
    rw p.1 (next_broken _ _ _ (ns_number c.args.frame.now c.args.y) c.loop-k.k _ (tt {0}) _
    c.in_err-put_ns_number.field-0.0 c.loop-k-test.true c.loop-k.invariant c.put_ns_number.ensures
    c.in_err-put_ns_number.was)

pub loop-k-preserved : goal.loop-k-preserved
loop-k-preserved g c = next_written _ _ _ (ns_number c.args.frame.now c.args.y) c.loop-k.k
    (tt {0}) c.in_ok-put_ns_number.field-0 _ c.loop-k.invariant c.put_ns_number.ensures c.in_ok-put_ns_number.was

pub returns : goal.returns
returns g c = all_written _ _ (ns_number c.args.frame.now c.args.y) c.loop-k.k _ (tt {0})
    c.loop-k.auto.k-end c.loop-k-test.false c.loop-k.invariant
