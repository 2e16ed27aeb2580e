use Rattle.std.proofs.lemmas.Result.{err_from_is_err_and}
use Rattle.tab_io.proofs.SinkLemmas.{writes_broken, writes_then}
use Rattle.plan_text.proofs.PlanTextLemmas.{core_parts}
use Rattle.plan_text.proofs.cores.put_core.Goals as goal

pub returns-in_err-put_line : goal.returns-in_err-put_line
returns-in_err-put_line g c names are =
    let p = err_from_is_err_and c.from_residual.result c.from_residual.ensures.1 in
    rw (p.1, core_parts names c.args.core c.args.row.now)
    (writes_broken _ _ _ _ _ _ c.put_line.ensures c.in_err-put_line.was)

pub returns : goal.returns
returns g c names are = rw (core_parts names c.args.core c.args.row.now, ← c.segments.ensures.maximal)
    (writes_then _ _ _ _ _ _ _ _ c.put_line.ensures c.in_ok-put_line.was (c.put_row.ensures names are))
