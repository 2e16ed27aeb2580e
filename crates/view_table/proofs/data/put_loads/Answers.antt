use Rattle.std.proofs.lemmas.Result.{err_from_is_err_and}
use Rattle.tab_words.proofs.NumberedTextLemmas.{all_written, next_broken, next_written, none_written}
use Rattle.view_table.specs.Data.{load_data}
use Rattle.view_table.proofs.data.put_loads.Goals as goal

pub loop-core-init : goal.loop-core-init
loop-core-init g c = none_written _ _ (tt {0})

pub returns-in_err-put_load : goal.returns-in_err-put_load
returns-in_err-put_load g c =
    let p = err_from_is_err_and c.from_residual.result c.from_residual.ensures.1 in
    let core = rw c.deref-in-loop-core.ensures.value at c.put_load.ensures in
    rw p.1 (next_broken _ _ _ (load_data c.args.view.now.slots.items) c.loop-core.core _ (tt {0}) _ c.in_err-put_load.field-0.0
    c.loop-core-test.true c.loop-core.invariant core c.in_err-put_load.was)

pub loop-core-preserved : goal.loop-core-preserved
loop-core-preserved g c =
    let core = rw c.deref-in-loop-core.ensures.value at c.put_load.ensures in
    next_written _ _ _ (load_data c.args.view.now.slots.items) c.loop-core.core (tt {0}) c.in_ok-put_load.field-0 _
    c.loop-core.invariant core c.in_ok-put_load.was

pub returns : goal.returns
returns g c =
    all_written _ _ (load_data c.args.view.now.slots.items) c.loop-core.core _ (tt {0}) c.loop-core.auto.core-end
    c.loop-core-test.false c.loop-core.invariant
