use Rattle.std.proofs.lemmas.Result.{err_from_is_err_and}
use Rattle.tab_words.proofs.NumberedTextLemmas.{all_written, next_broken, next_written, none_written}
use Rattle.view_table.specs.Data.{core_data}
use Rattle.view_table.proofs.data.put_core_list.Goals as goal

pub loop-core-init : goal.loop-core-init
loop-core-init g c = none_written _ _ (tt {0})

pub returns-in_err-put_core_data : goal.returns-in_err-put_core_data
returns-in_err-put_core_data g c =
    let p = err_from_is_err_and c.from_residual.result c.from_residual.ensures.1 in
    rw p.1 (next_broken _ _ _ (core_data c.args.between.now c.args.view.now.slots.items c.args.vcpu) c.loop-core.core _ (tt {0}) _ c.in_err-put_core_data.field-0.0
    c.loop-core-test.true c.loop-core.invariant c.put_core_data.ensures c.in_err-put_core_data.was)

pub loop-core-preserved : goal.loop-core-preserved
loop-core-preserved g c =
    next_written _ _ _ (core_data c.args.between.now c.args.view.now.slots.items c.args.vcpu) c.loop-core.core (tt {0}) c.in_ok-put_core_data.field-0 _
    c.loop-core.invariant c.put_core_data.ensures c.in_ok-put_core_data.was

pub returns : goal.returns
returns g c =
    all_written _ _ (core_data c.args.between.now c.args.view.now.slots.items c.args.vcpu) c.loop-core.core _ (tt {0}) c.loop-core.auto.core-end
    c.loop-core-test.false c.loop-core.invariant
