use Rattle.std.proofs.lemmas.Result.{err_from_is_err_and}
use Rattle.tab_words.proofs.NumberedTextLemmas.{all_written, next_broken, next_written, none_written}
use Rattle.view_table.specs.Diff.{load_lines}
use Rattle.view_table.proofs.diff.put_loads.Goals as goal

pub loop-core-init : goal.loop-core-init
loop-core-init g c = none_written _ _ (tt {0})

pub returns-in_err-put_load : goal.returns-in_err-put_load
returns-in_err-put_load g c =
    let p = err_from_is_err_and c.from_residual.result c.from_residual.ensures.1 in
    rw (p.1, ← c.min-cores.ensures) (next_broken _ _ _ (load_lines c.args.old.now c.args.new.now) c.loop-core.core _ (tt {0}) _ c.in_err-put_load.field-0.0
    c.loop-core-test.true c.loop-core.invariant c.put_load.ensures c.in_err-put_load.was)

pub loop-core-preserved : goal.loop-core-preserved
loop-core-preserved g c = next_written _ _ _ (load_lines c.args.old.now c.args.new.now) c.loop-core.core (tt {0}) c.in_ok-put_load.field-0 _
    c.loop-core.invariant c.put_load.ensures c.in_ok-put_load.was

pub returns : goal.returns
returns g c =
    rw (← c.min-cores.ensures) (all_written _ _ (load_lines c.args.old.now c.args.new.now) c.loop-core.core _ (tt {0}) c.loop-core.auto.core-end
    c.loop-core-test.false c.loop-core.invariant)
