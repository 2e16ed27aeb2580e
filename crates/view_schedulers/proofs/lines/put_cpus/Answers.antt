use Rattle.std.proofs.lemmas.Result.{err_from_is_err_and}
use Rattle.tab_words.proofs.NumberedTextLemmas.{all_written, next_broken, next_written, none_written}
use Rattle.view_schedulers.specs.Lines.{cpu_word}
use Rattle.view_schedulers.proofs.lines.put_cpus.Goals as goal

pub loop-core-init : goal.loop-core-init
loop-core-init g c = none_written _ _ (tt {0})

pub returns-in_err-put_cpu : goal.returns-in_err-put_cpu
returns-in_err-put_cpu g c =
    let p = err_from_is_err_and c.from_residual.result c.from_residual.ensures.1 in
    rw p.1 (next_broken _ _ _ (cpu_word c.args.cpus.now) c.loop-core.core _ (tt {0}) _ c.in_err-put_cpu.field-0.0
    c.loop-core-test.true c.loop-core.invariant c.put_cpu.ensures c.in_err-put_cpu.was)

pub loop-core-preserved : goal.loop-core-preserved
loop-core-preserved g c = next_written _ _ _ (cpu_word c.args.cpus.now) c.loop-core.core (tt {0})
    c.in_ok-put_cpu.field-0 _ c.loop-core.invariant c.put_cpu.ensures c.in_ok-put_cpu.was

pub returns : goal.returns
returns g c = all_written _ _ (cpu_word c.args.cpus.now) c.loop-core.core _ (tt {0}) c.loop-core.auto.core-end
    c.loop-core-test.false c.loop-core.invariant
