use Rattle.std.proofs.Common.{◌∙◌}
use Rattle.std.proofs.lemmas.Result.{err_from_is_err_and}
use Rattle.vcpu_names.specs.Names.{names_of}
use Rattle.stint_text.proofs.GatheredLemmas.{gathered_last, next_gathered, next_torn}
use Rattle.tab_io.proofs.SinkLemmas.{all_left}
use Rattle.stint_text.specs.StintLine.{stint_line}
use Rattle.trace_report.proofs.trace.put_stints.Goals as goal

pub loop-stint-init : goal.loop-stint-init
loop-stint-init g c = rw c.of-lines.ensures.none (record { names = c.of-lines.ensures.names; left = all_left _ _ })

pub returns-in_err-put_stint : goal.returns-in_err-put_stint
returns-in_err-put_stint g c =
    let p = err_from_is_err_and c.from_residual.result c.from_residual.ensures.1 in
    let l = c.loop-stint in
    let line = stint_line (names_of c.args.vcpus.now) c.args.course.now c.args.core in
    let came = rw l.invariant.names at c.put_stint.ensures.bytes in
    rw p.1 (next_torn _ _ _ line c.args.stints.now l.stint-index c.stint-item.result _ _ _ _ _ c.loop-stint-test.true
    c.stint-item.is l.invariant.left came c.in_err-put_stint.was)

pub loop-stint-preserved : goal.loop-stint-preserved
loop-stint-preserved g c =
    let l = c.loop-stint in
    let line = stint_line (names_of c.args.vcpus.now) c.args.course.now c.args.core in
    let came = rw l.invariant.names at c.put_stint.ensures.bytes in
    record {
      names = c.put_stint.ensures.names ∙ l.invariant.names;
      left = next_gathered _ _ _ line c.args.stints.now l.stint-index c.stint-item.result _ _ _ _ _ c.loop-stint-test.true
          c.stint-item.is l.invariant.left came c.in_ok-put_stint.was;
    }

pub returns : goal.returns
returns g c =
    let l = c.loop-stint in
    let line = stint_line (names_of c.args.vcpus.now) c.args.course.now c.args.core in
    gathered_last _ _ _ line c.args.stints.now l.stint-index _ _ _ c.loop-stint-test.false l.invariant.left
    c.write.ensures
